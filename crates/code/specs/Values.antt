-- The code that a value of the type `Code` stands for, and what the methods of a solver do, in the words of its own code.
use Rattle.std.specs.Prelude.{◌≡◌, ℕ, ◌+◌, ◌-◌, List, length}
use Rattle.field.specs.declared.Arithmetic
use Rattle.algebra.specs.Code
use Rattle.layout.specs.Sizes.{packets_in}
use Rattle.layout.specs.Blocks.{code_of, size_of, Run}
use Rattle.code.specs.declared.code.Code.{Code}
use Rattle.code.specs.declared.solver.Solver.{Solver}
use Rattle.code.specs.Solving.{locator_at, gap_of, Untouched, SameSolutions, sums_of, stage_of, found_of}
use Rattle.code.specs.Found.{FoundAdded}
use Rattle.code.specs.Held.{Summed}

abbrev pub code : {F : Type 0} {f : Arithmetic.Ghosts F} → Code F f → Code.Code
code {f} c = code_of c.shape f.prod

module _ {F : Type 0} {f : Arithmetic.Ghosts F} (v : Solver F f) where
  abbrev pub code_in : Code.Code
  code_in = code v.code.now

  -- how many packets are lost
  abbrev pub lost_count : ℕ
  lost_count = v.losses.now.len

  -- a run of as many packets as the code has sums, a block, a work run, and a packet of scratch
  abbrev pub SumsRun : List ℕ → Type 0
  SumsRun run = Run code_in code_in.parity run

  abbrev pub BlockRun : List ℕ → Type 0
  BlockRun run = Run code_in code_in.positions run

  abbrev pub WorkRun : List ℕ → Type 0
  WorkRun run = Run code_in (code_in.parity + 1) run

  abbrev pub Scratch : List ℕ → Type 0
  Scratch run = length run ≡ size_of code_in

  -- the sums behind those that are solved are as they were
  abbrev pub Behind : List ℕ → List ℕ → Type 0
  Behind before after = Untouched code_in lost_count before after

  -- packets have the sums before if and only if they have those after: in the last stage of the forward steps, ..
  abbrev pub Forward : List ℕ → List ℕ → Type 0
  Forward before after =
      SameSolutions code_in f.inv v.locators lost_count
      (sums_of code_in f.inv v.locators lost_count)
      (stage_of code_in f.inv v.locators lost_count (lost_count - 1))
      before after

  -- .. by the backward step that finds packet n, ..
  abbrev pub Backward : ℕ → List ℕ → List ℕ → Type 0
  Backward n before after =
      SameSolutions code_in f.inv v.locators lost_count
      (found_of code_in f.inv v.locators lost_count n)
      (found_of code_in f.inv v.locators lost_count (n - 1))
      before after

  -- .. and by all steps, which leave the packets themselves
  abbrev pub Solves : List ℕ → List ℕ → Type 0
  Solves before after = SameSolutions code_in f.inv v.locators lost_count (sums_of code_in f.inv v.locators lost_count) (λ I. I) before after

  -- the product of x n + x s over the s from j to n - 1
  abbrev pub gap_in : ℕ → ℕ → ℕ
  gap_in j n = gap_of f.prod (locator_at v.locators) j (n - j) (locator_at v.locators n)

  -- the sums behind have gained the shares of all packets found
  abbrev pub AddsFound : List ℕ → List ℕ → Type 0
  AddsFound before after = FoundAdded code_in v.locators lost_count lost_count before after

  -- the sums have gained the packets of a run, at the positions from `start` on, that are not lost
  abbrev pub AddsHeld : ℕ → List ℕ → List ℕ → List ℕ → Type 0
  AddsHeld start run before after = Summed code_in v.losses.now start (packets_in v.code.now.shape run) run before after
