-- What a repair answers, and what it leaves behind.
use Rattle.std.specs.Prelude.{◌≡◌, ℕ, ◌+◌, ◌<◌, cond, List, Some, None, Option, Result, nat_le}
use Rattle.refusal.specs.declared.Refusal.TheVariants.{Contradictory, TooFew}
use Rattle.refusal.specs.declared.Refusal.{Refusal}
use Rattle.refusal.specs.Numbers.{said, refused_with, or_else}
use Rattle.algebra.specs.Code.{Code, Block, Codeword, SameBlock, count}
use Rattle.layout.specs.declared.shape.Shape.{Shape}
use Rattle.layout.specs.Sizes.{parity_of, Packets}
use Rattle.layout.specs.Checks.{run_refusal}
use Rattle.layout.specs.Blocks.{code_of, size_of}
use Rattle.store.specs.Grids.{Grid}
use Rattle.code.specs.Codewords.{One, Several, NoCodeword, Contradiction}
use Rattle.code.specs.Lost.{Contradicts}
use Rattle.receiver.specs.declared.Whole.{Whole}
use Rattle.receiver.specs.Sound.{IsPacket}
use Rattle.receiver.specs.Meaning.{Meaning}
use Rattle.receiver.specs.Calls.{of_shape, block_refusal, held_in}
use Rattle.receiver.specs.Blocks.{block_of, missing_in, Agrees}

-- TooFew, unless k positions of the block are held
abbrev pub few_refusal : Shape → Grid → ℕ → Option (ℕ × List ℕ)
few_refusal s g i = cond (nat_le s.sources (count (held_in g i) s.positions)) None (Some (said TooFew))

-- the refusal of a repair before any work
abbrev pub repair_refusal : Meaning → ℕ → List ℕ → Option (ℕ × List ℕ)
repair_refusal m i work =
    of_shape m.shape (λ s. or_else (block_refusal s i) (or_else (run_refusal s (parity_of s + 1) work 0) (few_refusal s m.grid i)))

-- h is g with block i completed: it holds the one codeword that agrees with what it held, and all else is as it was
pub record Completes (C : Code) (g : Grid) (i : ℕ) (h : Grid) : Type 0 where
  pub rows_same : h.rows ≡ g.rows
  pub columns_same : h.columns ≡ g.columns
  pub size_same : h.size ≡ g.size
  pub filled : (q : ℕ) → q < C.positions → (ws : List ℕ) × (h.slots i q ≡ Some ws) × IsPacket (size_of C) ws
  pub kept : (q : ℕ) (ws : List ℕ) → g.slots i q ≡ Some ws → h.slots i q ≡ Some ws
  pub others : (a b : ℕ) → (a ≡ i → b < C.positions → ⊥) → h.slots a b ≡ g.slots a b
  pub codeword : Codeword C (block_of C h i)
  pub only : (d : Block) → Codeword C d → Agrees C g i d → SameBlock C d (block_of C h i)

-- the block is whole, with as many packets restored as were missing
pub record MadeWhole (prod : ℕ → ℕ → ℕ) (m : Meaning) (i restored : ℕ) (after : Meaning) : Type 0 where
  pub s : Shape
  pub shape_is : m.shape ≡ Some s
  pub number : count (held_in m.grid i) s.positions + restored ≡ s.positions
  pub shape_same : after.shape ≡ m.shape
  pub capacity_same : after.capacity ≡ m.capacity
  pub completes : Completes (code_of s prod) m.grid i after.grid

module _ (C : Code) (g : Grid) (i : ℕ) where
  -- just one codeword agrees with what the block holds; several do; none does, at a sum and a word
  abbrev pub OneFits : Type 0
  OneFits = One C (Agrees C g i)

  abbrev pub SeveralFit : Type 0
  SeveralFit = Several C (Agrees C g i)

  abbrev pub NoneFits : Type 0
  NoneFits = NoCodeword C (Agrees C g i)

  abbrev pub NoneFitsAt : ℕ → ℕ → Type 0
  NoneFitsAt = Contradiction C (Agrees C g i) (missing_in C g i)

-- refused as contradictory
pub record Conflicts (prod : ℕ → ℕ → ℕ) (m : Meaning) (i : ℕ) (e : Refusal) : Type 0 where
  pub s : Shape
  pub shape_is : m.shape ≡ Some s
  pub contradicts : Contradicts (NoneFitsAt (code_of s prod) m.grid i) e

-- the answer, by how many codewords agree with what the block holds
pub record Judged (C : Code) (g : Grid) (i : ℕ) (r : Result Whole Refusal) : Type 0 where
  pub whole : OneFits C g i → refused_with r ≡ None
  pub is_whole : refused_with r ≡ None → OneFits C g i
  pub few : SeveralFit C g i → refused_with r ≡ Some (said TooFew)
  pub is_few : refused_with r ≡ Some (said TooFew) → SeveralFit C g i
  pub contradictory : NoneFits C g i → (sum word : ℕ) × (refused_with r ≡ Some (said (Contradictory sum word)))
  pub is_contradictory : (sum word : ℕ) → refused_with r ≡ Some (said (Contradictory sum word)) → NoneFitsAt C g i sum word

-- a repair of a block of the shape with a work run of the right length
abbrev pub Judges : (ℕ → ℕ → ℕ) → Meaning → ℕ → List ℕ → Result Whole Refusal → Type 0
Judges prod m i work r =
    (s : Shape) → m.shape ≡ Some s → i < s.blocks → Packets s (parity_of s + 1) work → Judged (code_of s prod) m.grid i r
