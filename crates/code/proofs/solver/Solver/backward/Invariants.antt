use Rattle.std.proofs.Common.{ℕ, List}
use Rattle.algebra.specs.Code.{Packet}
use Rattle.code.specs.Subsets.{TableOf}
use Rattle.code.proofs.Backs.{Cleared}
use Rattle.code.specs.Values.{code_in}
use Rattle.code.proofs.solver.Solver.backward.Given as goal

abbrev pub invariant-loop-j : goal.invariant-loop-j
invariant-loop-j g l =
    let f = g.F.Arithmetic in
    (e : List ℕ) (z : Packet) → TableOf (code_in l.self) z l.table.sums
    → Cleared (code_in l.self) f.inv l.self.locators l.self.losses.now.len l.n z 0 e l.initial.sums
    → Cleared (code_in l.self) f.inv l.self.locators l.self.losses.now.len l.n z l.j e l.sums
