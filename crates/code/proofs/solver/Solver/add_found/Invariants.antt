use Rattle.std.proofs.Common.{◌≡◌, length}
use Rattle.code.specs.Found.{FoundAdded}
use Rattle.code.specs.Values.{code_in}
use Rattle.code.proofs.solver.Solver.add_found.Given as goal

abbrev pub invariant-loop-s : goal.invariant-loop-s
invariant-loop-s g l =
    (length l.sums ≡ length l.initial.sums) × FoundAdded (code_in l.self) l.self.locators l.self.losses.now.len l.s l.initial.sums l.sums
