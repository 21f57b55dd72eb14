use Rattle.std.proofs.Common.{◌-◌, ◌∙◌, arith}
use mathlib.Core.Logic.Iff
use native.Mathlib.Decide.{dec_lt}
use Rattle.code.proofs.Backs.{found_starts, found_ends}
use Rattle.code.proofs.solver.Solver.solve_of.Goals as goal

pub loop-n-preserved : goal.loop-n-preserved
loop-n-preserved g c = (
  λ I. Iff.trans (c.loop-n.invariant.0 I) (c.backward.ensures.keeps I),
  λ μ h k i b p q. c.backward.ensures.off μ h k i b p q ∙ c.loop-n.invariant.1 μ h k i b p q,
)

pub returns-clause-solved : goal.returns-clause-solved
returns-clause-solved g c = λ I. elim (dec_lt 0 c.args.self.now.losses.now.len) [
  | yes some ↦
      Iff.trans (c.forward.ensures.keeps I) (Iff.trans (found_starts c.args.self.now.solvable _ (c.args.self.now.losses.now.len - 1) (omega arith) I)
      (Iff.trans (c.loop-n.invariant.0 I) (found_ends c.args.self.now.solvable _ (c.loop-n.n - 1) (omega arith) I)))
  | no none ↦ (λ _ m l. absurd (omega arith), λ _ m l. absurd (omega arith))
]
