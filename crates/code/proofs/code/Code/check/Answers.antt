use Rattle.std.proofs.Common.{arith}
use Rattle.layout.proofs.Passes.{passed, losses_ok}
use Rattle.code.proofs.code.Code.check.Goals as goal

pub returns-in_err-solver-clause-answer : goal.returns-in_err-solver-clause-answer
returns-in_err-solver-clause-answer g c =
    let e = c.none-none.ensures in
    passed _ _ (losses_ok c.args.self.now.shape c.none-none.result (λ k h. absurd (omega arith)) (omega arith)) c.in_err-solver.ensures.answer
