-- The steps of a repair, on a grid that fits the shape.
use Rattle.std.specs.Prelude.{◌≡◌, ℕ, ◌+◌, ◌*◌, ◌<◌, true, List, Some, None, Ok, Err, Result, ◌≢◌}
use Rattle.std.specs.List.{between}
use Rattle.refusal.specs.declared.Refusal.{Refusal}
use Rattle.refusal.specs.Numbers.{said}
use Rattle.algebra.specs.Code.{Code, among}
use Rattle.layout.specs.declared.shape.Shape.{Shape}
use Rattle.layout.specs.declared.losses.LossList.{LossList}
use Rattle.layout.specs.Sizes.{packet_of, lost}
use Rattle.layout.specs.Blocks.{code_of}
use Rattle.store.specs.Grids.{Grid}
use Rattle.code.specs.Sums.{SumsTo}
use Rattle.code.specs.Lost.{Contradicts, Contradicted, FoundLost}
use Rattle.receiver.specs.declared.Whole.{Whole}
use Rattle.receiver.specs.Sound.{Fitted}
use Rattle.receiver.specs.Blocks.{block_of, Missing}
use Rattle.receiver.specs.Repairs.{few_refusal, Completes}

-- the grid fits the shape, block i lies inside, and the list has what the block misses
pub record Lacks (s : Shape) (g : Grid) (i : ℕ) (l : LossList) : Type 0 where
  pub fitted : Fitted s g
  pub inside : i < s.blocks
  pub missing : Missing s g i l

-- the positions that are missing, or TooFew if they are too many
abbrev pub ListsMissing : Shape → Grid → ℕ → Result LossList Refusal → Type 0
ListsMissing s g i (Ok l) = Missing s g i l × (few_refusal s g i ≡ None)
ListsMissing s g i (Err e) = few_refusal s g i ≡ Some (said e)

-- the sums of the packets that block i holds; nothing is refused
abbrev pub HeldSummed : Code → Grid → ℕ → List ℕ → Result (Unit {0}) Refusal → Type 0
HeldSummed C g i sums (Ok u) = SumsTo C (block_of C g i) C.positions sums
HeldSummed C g i sums (Err e) = ⊥

-- the lost packets of what block i holds are found, or its packets contradict each other
abbrev pub FoundMissing : Code → LossList → Grid → ℕ → List ℕ → Result (Unit {0}) Refusal → Type 0
FoundMissing C l g i = FoundLost C l (block_of C g i)

abbrev pub ContradictsHeld : Code → LossList → Grid → ℕ → Refusal → Type 0
ContradictsHeld C l g i = Contradicts (Contradicted C l (block_of C g i))

-- the first n packets of a run fill the slots of block i at the first n lost positions; all else is as it was
pub record Put (s : Shape) (l : LossList) (i n : ℕ) (run : List ℕ) (g h : Grid) : Type 0 where
  pub rows_same : h.rows ≡ g.rows
  pub columns_same : h.columns ≡ g.columns
  pub size_same : h.size ≡ g.size
  pub at : (k : ℕ) → k < n → h.slots i (lost l k) ≡ Some (between (k * packet_of s) (k * packet_of s + packet_of s) run)
  pub off : (a b : ℕ) → (a ≡ i → among (lost l) n b ≢ true) → h.slots a b ≡ g.slots a b

-- all packets of a run fill the slots at the lost positions; nothing is refused
abbrev pub AllPut : Shape → LossList → ℕ → List ℕ → Grid → Grid → Result (Unit {0}) Refusal → Type 0
AllPut s l i run g h (Ok u) = Put s l i l.len run g h
AllPut s l i run g h (Err e) = ⊥

-- the block is completed, or its packets contradict each other and nothing changed
abbrev pub Mended : Shape → (ℕ → ℕ → ℕ) → LossList → Grid → ℕ → Result Whole Refusal → Grid → Type 0
Mended s prod l g i (Ok w) h = (w.restored ≡ l.len) × Completes (code_of s prod) g i h × Fitted s h
Mended s prod l g i (Err e) h = ContradictsHeld (code_of s prod) l g i e × (h ≡ g)
