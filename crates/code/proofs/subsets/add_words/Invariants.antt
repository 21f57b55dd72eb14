use Rattle.std.proofs.Common.{◌≡◌, ℕ, ◌<◌, ◌≤◌, get_or}
use lib.Bits.{bit_xor}
use Rattle.code.proofs.subsets.add_words.Given as goal

abbrev pub invariant-loop-i : goal.invariant-loop-i
invariant-loop-i l = record {
  added : (c : ℕ) → c < l.i → get_or l.target c 0 ≡ bit_xor (get_or l.initial.target c 0) (get_or l.source c 0);
  left : (c : ℕ) → l.i ≤ c → get_or l.target c 0 ≡ get_or l.initial.target c 0;
}
