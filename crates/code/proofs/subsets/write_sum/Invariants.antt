use Rattle.std.proofs.Common.{◌≡◌, ℕ, ◌<◌, length, get_or}
use lib.Bits.{bit_xor}
use Rattle.code.proofs.subsets.write_sum.Given as goal

abbrev pub invariant-loop-c : goal.invariant-loop-c
invariant-loop-c l = record {
  size : length l.sum ≡ 16;
  made : (k : ℕ) → k < l.c → get_or l.sum k 0 ≡ bit_xor (get_or l.a k 0) (get_or l.b k 0);
}

abbrev pub invariant-loop-k : goal.invariant-loop-k
invariant-loop-k l = (k : ℕ) → k < l.k → get_or l.target k 0 ≡ get_or l.sum k 0
