use Rattle.std.proofs.Common.{ap, ◌∙◌, arith}
use Rattle.algebra.specs.Code.{among}
use Rattle.layout.specs.Sizes.{lost}
use Rattle.layout.proofs.Positions.{among_by_any}
use Rattle.layout.proofs.losses.LossList.contains.Goals as goal

pub returns : goal.returns
returns c =
    let p = lost c.args.self.now in
    let len = c.positions.ensures.len in
    among_by_any p c.positions.result.now c.args.position c.contains.result (λ s h. c.positions.ensures.at s (omega arith)) c.contains.ensures.cases
    ∙ ap (λ n. among p n c.args.position) len
