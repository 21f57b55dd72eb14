use Rattle.std.proofs.Common.{◌-◌}
use Rattle.code.specs.Solving.{Untouched, SameSolutions, sums_of, stage_of}
use Rattle.code.proofs.Stages.{part_of}
use Rattle.code.specs.Values.{code_in}
use Rattle.code.proofs.solver.Solver.forward.Given as goal

abbrev pub invariant-loop-j : goal.invariant-loop-j
invariant-loop-j g l =
    let f = g.F.Arithmetic in
    SameSolutions (code_in l.self) f.inv l.self.locators l.self.losses.now.len
    (sums_of (code_in l.self) f.inv l.self.locators l.self.losses.now.len) (stage_of (code_in l.self) f.inv l.self.locators l.self.losses.now.len (l.j - 1)) l.initial.sums l.sums
    × Untouched (code_in l.self) l.self.losses.now.len l.initial.sums l.sums

abbrev pub invariant-loop-i : goal.invariant-loop-i
invariant-loop-i g l =
    let f = g.F.Arithmetic in
    SameSolutions (code_in l.self) f.inv l.self.locators l.self.losses.now.len
    (stage_of (code_in l.self) f.inv l.self.locators l.self.losses.now.len (l.j - 1)) (part_of (code_in l.self) f.inv l.self.locators l.self.losses.now.len (l.j - 1) (l.i - l.j)) l.initial.sums l.sums
    × Untouched (code_in l.self) l.self.losses.now.len l.initial.sums l.sums
