use Rattle.std.proofs.Common.{refl}
use Rattle.layout.specs.Blocks.{code_of}
use Rattle.code.proofs.Fitting.{proper}
use Rattle.code.proofs.Rebuilds.{rebuilt, unmatched}
use Rattle.code.proofs.solver.Solver.find.Goals as goal

pub returns-in-Some : goal.returns-in-Some
returns-in-Some g c =
    let f = g.F.Arithmetic in
    let v = c.args.self.now in
    let s = v.code.now.shape in
    let is = unmatched (code_of s f.prod) f.inv (proper s f.prod f.inv v.solvable.laws) v.losses.now v.below v.locators v.at _ _ _ c.solve.ensures.solved c.solve.ensures.off c.add_found.ensures in
    (record { sum = c.in-Some.sum; word = c.in-Some.word; refusal = refl; fact = is _ _ (rw c.count.ensures at c.in-Some.ensures) }, c.clear.ensures)

pub returns-in-None : goal.returns-in-None
returns-in-None g c =
    let f = g.F.Arithmetic in
    let v = c.args.self.now in
    let s = v.code.now.shape in
    rebuilt (code_of s f.prod) f.inv (proper s f.prod f.inv v.solvable.laws) v.losses.now v.below v.locators v.at _ _ _ c.solve.ensures.solved c.solve.ensures.off c.add_found.ensures
    (rw c.count.ensures at c.in-None.ensures)
