use Rattle.std.proofs.Common.{◌≡◌, ℕ, ◌<◌, ◌≤◌, length}
use Rattle.galois.specs.Field.{power}
use Rattle.layout.specs.Sizes.{lost}
use Rattle.code.specs.Solving.{locator_at}
use Rattle.code.proofs.solver.Solver.new.Given as goal

abbrev pub invariant-loop-s : goal.invariant-loop-s
invariant-loop-s g l =
    (length l.locators ≡ 32) × ((k : ℕ) → k < l.s → locator_at l.locators k ≡ power g.F.Arithmetic.prod 2 (lost l.losses k))
    × ((k : ℕ) → l.s ≤ k → locator_at l.locators k ≡ 0)
