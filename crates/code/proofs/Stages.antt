-- The forward steps of the solver: each leaves the same solutions.
use Rattle.std.proofs.Common.{◌≡◌, ℕ, suc, ◌+◌, ◌<◌, ◌≤◌, List, sym, arith}
use Rattle.algebra.specs.Code.{Code}
use Rattle.galois.specs.Field.{FieldLaws}
use Rattle.algebra.specs.Laws.{Laws}
use Rattle.algebra.specs.Loops.{Added, staged}
use Rattle.algebra.specs.Packets.{Ok, Nz}
use Rattle.algebra.specs.Grids.{Grid, grid_xor, grid_ops}
use Rattle.algebra.proofs.Sums.{sys_right}
use Rattle.algebra.proofs.Coef.{form_zero}
use Rattle.algebra.proofs.Loops.{staged_step, staged_first, staged_last}
use Rattle.algebra.proofs.Bridge.{grid_laws, added_rows}
use Rattle.layout.specs.Blocks.{block_at}
use Rattle.code.specs.Solving.{locator_at, Solvable, entry, Stepped, SameSolutions, sums_of, stage_of}

-- the entries in stage j, with those above j + k done
abbrev pub part_of : (C : Code) (inv : ℕ → ℕ) (x : List ℕ) (t j k : ℕ) → (ℕ → Grid C) → ℕ → Grid C
part_of C inv x t j k = staged (grid_xor C) (grid_ops C inv) (locator_at x) t j k

-- the laws at the width of a shape
pub laws_of : (m n : ℕ) (prod : ℕ → ℕ → ℕ) (inv : ℕ → ℕ) → m ≡ n → FieldLaws n prod inv → FieldLaws m prod inv
laws_of m n prod inv e laws = rw e laws

module _ {C : Code} {inv : ℕ → ℕ} {x : List ℕ} {t : ℕ} (v : Solvable C inv x t) where
  pub laws : Laws (grid_xor C) (grid_ops C inv) (Ok C.rows) (Nz C.rows)
  laws = grid_laws C v.laws

  pub stages_start : (S : List ℕ) → SameSolutions C inv x t (sums_of C inv x t) (stage_of C inv x t 0) S S
  stages_start S I = sys_right t _ _ _ (λ m _. sym (form_zero laws (locator_at x) v.elements t I m))

  pub stage_starts : (S : List ℕ) (j k : ℕ) → t ≤ suc (j + k) → SameSolutions C inv x t (stage_of C inv x t j) (part_of C inv x t j k) S S
  stage_starts S j k h I = sys_right t _ _ _ (staged_first laws (locator_at x) v.elements t j k I h)

  -- a step of the code is a step of the elimination
  pub stage_turn : (j to from a b : ℕ) → to ≡ suc (j + b) → from ≡ j + b → a ≡ suc b → to < t → (S S' : List ℕ)
      → Stepped C (locator_at x j) to from S S' → SameSolutions C inv x t (part_of C inv x t j a) (part_of C inv x t j b) S S'
  stage_turn j to from a b e f g l S S' d I =
      let step : Added (grid_xor C) (grid_ops C inv) t (locator_at x j) to from (entry C S) (entry C S') =
      added_rows C v.laws t (locator_at x j) to from (block_at C S) (block_at C S') d.at (λ μ l q. d.off μ (omega arith) q) in
      rw g (staged_step laws (locator_at x) v.elements t j b (omega arith) _ _ I (rw (e, f) at step))

  pub stage_ends : (S : List ℕ) (j a n : ℕ) → a ≡ 0 → n ≡ suc j → SameSolutions C inv x t (part_of C inv x t j a) (stage_of C inv x t n) S S
  stage_ends S j a n e f I = rw (e, f) (sys_right t _ _ _ (staged_last laws (locator_at x) v.elements t j I))
