use Rattle.std.proofs.Common.{◌≡◌, ℕ, ◌+◌, ◌*◌, ◌<◌, get_or}
use lib.Bits.{bit_xor}
use Rattle.code.proofs.subsets.extend.Given as goal

abbrev pub invariant-loop-v : goal.invariant-loop-v
invariant-loop-v l = (v c : ℕ) → v < l.v → c < l.w → get_or l.rest (v * l.w + c) 0 ≡ bit_xor (get_or l.done (v * l.w + c) 0) (get_or l.row c 0)
