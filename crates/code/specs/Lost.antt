-- What the solver finds of a block: its lost packets, or that the packets that are left contradict each other.
use Rattle.std.specs.Prelude.{◌≡◌, ℕ, ◌<◌, false, List, Ok, Err, Result}
use Rattle.refusal.specs.declared.Refusal.{Refusal}
use Rattle.refusal.specs.declared.Refusal.TheVariants.{Contradictory}
use Rattle.algebra.specs.Code.{Code, Block, SamePacket, among}
use Rattle.layout.specs.declared.losses.LossList.{LossList}
use Rattle.layout.specs.Sizes.{lost}
use Rattle.layout.specs.Blocks.{block_at}
use Rattle.code.specs.Codewords.{ZeroSyndromes, Contradiction}

-- refused as contradictory, with a sum and a word of which a fact holds
pub record Contradicts (Fact : ℕ → ℕ → Type 0) (e : Refusal) : Type 0 where
  pub sum : ℕ
  pub word : ℕ
  pub refusal : e ≡ Contradictory sum word
  pub fact : Fact sum word

module _ (C : Code) (l : LossList) where
  -- two blocks have the same packets at the positions that are not lost
  abbrev pub AgreeOff : Block → Block → Type 0
  AgreeOff b d = (q : ℕ) → q < C.positions → among (lost l) l.len q ≡ false → SamePacket C (b q) (d q)

  -- no codeword agrees with b, at a sum and a word
  abbrev pub Contradicted : Block → ℕ → ℕ → Type 0
  Contradicted b = Contradiction C (λ o. AgreeOff o b) l.len

  -- a run begins with the lost packets of b: with them all sums are zero, and with no others
  pub record LostPackets (b : Block) (run : List ℕ) : Type 0 where
    pub zero : (d : Block) → AgreeOff d b → ((k : ℕ) → k < l.len → SamePacket C (d (lost l k)) (block_at C run k))
        → ZeroSyndromes C C.parity d
    pub only : (d : Block) → AgreeOff d b → ZeroSyndromes C C.parity d
        → (k : ℕ) → k < l.len → SamePacket C (d (lost l k)) (block_at C run k)

  abbrev pub FoundLost : Block → List ℕ → Result (Unit {0}) Refusal → Type 0
  FoundLost b run (Ok u) = LostPackets b run
  FoundLost b run (Err e) = Contradicts (Contradicted b) e
