-- What the steps of the solver do to the sums. C is the code of the shape, x the locators, and t the number of lost packets.
use Rattle.std.specs.Prelude.{ℕ, zero, suc, ◌+◌, ◌^◌, ◌<◌, ◌≤◌, ◌↔◌, List, ◌≢◌, bit_xor, slice_index}
use Rattle.galois.specs.Field.{FieldLaws}
use Rattle.algebra.specs.Code.{Code, SamePacket, scaled}
use Rattle.algebra.specs.Laws.{vander, form}
use Rattle.algebra.specs.Loops.{Sys, Apart, found}
use Rattle.algebra.specs.Packets.{Nz}
use Rattle.algebra.specs.Grids.{Grid, grid_xor, grid_ops, rows}
use Rattle.layout.specs.Blocks.{block_at}
use Rattle.code.specs.Packets.{plus}

-- locator number s
abbrev pub locator_at : List ℕ → ℕ → ℕ
locator_at x s = slice_index x s

-- what can be solved: a lawful arithmetic as wide as the rows, and t locators, no more than there are sums, that are elements of it and apart
pub record Solvable (C : Code) (inv : ℕ → ℕ) (x : List ℕ) (t : ℕ) : Type 0 where
  pub laws : FieldLaws C.rows C.product inv
  pub few : t ≤ C.parity
  pub elements : (k : ℕ) → locator_at x k < 2 ^ C.rows
  pub apart : Apart (grid_ops C inv) (Nz C.rows) (locator_at x) t

-- the product of y + x s over the s from j to j + k - 1
unfoldable pub gap_of : (ℕ → ℕ → ℕ) → (ℕ → ℕ) → ℕ → ℕ → ℕ → ℕ
gap_of prod x j zero y = 1
gap_of prod x j (suc k) y = prod (bit_xor y (x (j + k))) (gap_of prod x j k y)

module _ (C : Code) where
  -- sum number μ of a run, as an element of the group of packets
  abbrev pub entry : List ℕ → ℕ → Grid C
  entry run μ = rows C (block_at C run μ)

  -- the sums from `first` on are as they were
  abbrev pub Untouched : ℕ → List ℕ → List ℕ → Type 0
  Untouched first before after = (μ : ℕ) → first ≤ μ → μ < C.parity → SamePacket C (block_at C after μ) (block_at C before μ)

  -- sum `to` has become sum `from`, and the others are as they were
  pub record Copied (to from : ℕ) (before after : List ℕ) : Type 0 where
    pub at : SamePacket C (block_at C after to) (block_at C before from)
    pub off : (μ : ℕ) → μ < C.parity → (μ ≢ to) → SamePacket C (block_at C after μ) (block_at C before μ)

  -- sum `to` has gained a times sum `from`, and the others are as they were
  pub record Stepped (a to from : ℕ) (before after : List ℕ) : Type 0 where
    pub at : SamePacket C (block_at C after to) (plus (block_at C before to) (scaled C a (block_at C before from)))
    pub off : (μ : ℕ) → μ < C.parity → (μ ≢ to) → SamePacket C (block_at C after μ) (block_at C before μ)

  module _ (inv : ℕ → ℕ) (x : List ℕ) (t : ℕ) where
    -- packets have the sums before if and only if they have those after, in the two forms
    abbrev pub SameSolutions : ((ℕ → Grid C) → ℕ → Grid C) → ((ℕ → Grid C) → ℕ → Grid C) → List ℕ → List ℕ → Type 0
    SameSolutions F H before after = (I : ℕ → Grid C) → Sys t (entry before) (F I) ↔ Sys t (entry after) (H I)

    -- the sums of packets, after the forward steps, and with the packets above n found
    abbrev pub sums_of : (ℕ → Grid C) → ℕ → Grid C
    sums_of = vander (grid_xor C) (grid_ops C inv) (locator_at x) t

    abbrev pub stage_of : ℕ → (ℕ → Grid C) → ℕ → Grid C
    stage_of j = form (grid_xor C) (grid_ops C inv) (locator_at x) t j

    abbrev pub found_of : ℕ → (ℕ → Grid C) → ℕ → Grid C
    found_of n = found (grid_xor C) (grid_ops C inv) (locator_at x) n
