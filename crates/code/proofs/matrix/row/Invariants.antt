use Rattle.std.proofs.Common.{◌≡◌, ◌*◌, ◌^◌, get_or}
use Rattle.algebra.specs.Code.{bit, xors}
use Rattle.code.proofs.matrix.row.Given as goal

abbrev pub invariant-loop-j : goal.invariant-loop-j
invariant-loop-j l = l.number ≡ xors l.j (λ j. bit l.i (get_or l.columns j 0) * 2 ^ j)
