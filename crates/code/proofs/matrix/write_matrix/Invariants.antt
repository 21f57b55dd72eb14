use Rattle.std.proofs.Common.{◌≡◌, ℕ, ◌*◌, ◌^◌, ◌<◌, get_or}
use Rattle.algebra.specs.Code.{bit, xors}
use Rattle.code.proofs.matrix.write_matrix.Given as goal

abbrev pub invariant-loop-i : goal.invariant-loop-i
invariant-loop-i g l = (k : ℕ) → k < l.i → get_or l.matrix k 0 ≡ xors l.m (λ j. bit k (get_or l.columns j 0) * 2 ^ j)
