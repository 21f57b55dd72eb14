use Rattle.std.proofs.Common.{◌^◌, ◌≤◌, arith, pow_mono}
use Rattle.layout.proofs.shape.Shape.positions.Goals as goal

pub returns-clause-bound : goal.returns-clause-bound
returns-clause-bound c =
    let top : 2 ^ c.args.self.now.rows ≤ 2 ^ 10 = pow_mono c.args.self.now.field.1 in
    let short = c.args.self.now.length in
    omega arith
