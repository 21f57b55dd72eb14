use Rattle.std.proofs.Common.{◌^◌, ◌≤◌, arith, pow_mono}
use Rattle.layout.proofs.shape.Shape.sources.Goals as goal

pub returns-clause-bounds : goal.returns-clause-bounds
returns-clause-bounds c =
    let s = c.args.self.now in
    let top : 2 ^ s.rows ≤ 2 ^ 10 = pow_mono s.field.1 in
    let short = s.length in
    (s.counts.0, omega arith)
