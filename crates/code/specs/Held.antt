-- The packets of a run that are not lost, and the parity found from them.
use Rattle.std.specs.Prelude.{◌≡◌, ℕ, ◌+◌, ◌*◌, ◌<◌, ◌≤◌, true, false, List, Ok, Err, Result}
use Rattle.refusal.specs.declared.Refusal.{Refusal}
use Rattle.galois.specs.Field.{power}
use Rattle.algebra.specs.Code.{Code, Block, SamePacket, ZeroPacket, among, scaled, xors}
use Rattle.layout.specs.declared.losses.LossList.{LossList}
use Rattle.layout.specs.Sizes.{lost}
use Rattle.layout.specs.Blocks.{block_at}
use Rattle.code.specs.Packets.{plus}
use Rattle.code.specs.Sums.{SumsTo}
use Rattle.code.specs.Calls.{Encoded}

-- b has the packets of a run at the positions from `start` on that are not lost, and zeros at the lost ones
pub record Reads (C : Code) (l : LossList) (start count : ℕ) (run : List ℕ) (b : Block) : Type 0 where
  pub held : (j : ℕ) → j < count → among (lost l) l.len (start + j) ≡ false → SamePacket C (block_at C run j) (b (start + j))
  pub gone : (j : ℕ) → j < count → among (lost l) l.len (start + j) ≡ true → ZeroPacket C (b (start + j))

-- the sums of the packets up to `start` have become those of the packets up to `start + count`
abbrev pub Summed : Code → LossList → ℕ → ℕ → List ℕ → List ℕ → List ℕ → Type 0
Summed C l start count run before after = (b : Block) → Reads C l start count run b → SumsTo C b start before → SumsTo C b (start + count) after

-- the sums from `first` on have gained their shares of the packets of a run that are not lost, and the others are as they were
pub record RunAdded (C : Code) (l : LossList) (first start count : ℕ) (run before after : List ℕ) : Type 0 where
  pub at : (b : Block) → Reads C l start count run b → (μ : ℕ) → first ≤ μ → μ < C.parity
      → SamePacket C (block_at C after μ)
      (plus (block_at C before μ) (λ i c. xors count (λ j. scaled C (power C.product 2 (μ * (start + j))) (b (start + j)) i c)))
  pub below : (μ : ℕ) → μ < first → SamePacket C (block_at C after μ) (block_at C before μ)

-- the parity is filled; nothing is refused
abbrev pub Filled : Code → List ℕ → List ℕ → Result (Unit {0}) Refusal → Type 0
Filled C source parity (Ok u) = Encoded C source parity
Filled C source parity (Err e) = ⊥
