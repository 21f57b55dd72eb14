use Rattle.std.proofs.Common.{◌-◌}
use Rattle.code.specs.Solving.{Untouched, SameSolutions, found_of}
use Rattle.code.specs.Values.{code_in}
use Rattle.code.proofs.solver.Solver.solve_of.Given as goal

abbrev pub invariant-loop-n : goal.invariant-loop-n
invariant-loop-n g l =
    let f = g.F.Arithmetic in
    SameSolutions (code_in l.self) f.inv l.self.locators l.self.losses.now.len
    (found_of (code_in l.self) f.inv l.self.locators l.self.losses.now.len (l.self.losses.now.len - 1)) (found_of (code_in l.self) f.inv l.self.locators l.self.losses.now.len (l.n - 1)) l.initial.sums l.sums
    × Untouched (code_in l.self) l.self.losses.now.len l.initial.sums l.sums
