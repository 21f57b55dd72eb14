-- The codewords of a code that agree with something: just one, two that differ, or none.
use Rattle.std.specs.Prelude.{◌≡◌, ℕ, ◌+◌, ◌*◌, ◌<◌, ◌≢◌}
use Rattle.algebra.specs.Code.{Code, Block, Codeword, ZeroPacket, SameBlock, syndrome}
use Rattle.layout.specs.Blocks.{size_of}

-- the first n sums of a block are zero
abbrev pub ZeroSyndromes : Code → ℕ → Block → Type 0
ZeroSyndromes C n d = (μ : ℕ) → μ < n → ZeroPacket C (syndrome C d μ)

module _ (C : Code) (Agree : Block → Type 0) where
  pub record One : Type 0 where
    pub it : Block
    pub codeword : Codeword C it
    pub agrees : Agree it
    pub only : (d : Block) → Codeword C d → Agree d → SameBlock C d it

  pub record Several : Type 0 where
    pub one : Block
    pub other : Block
    pub codeword_one : Codeword C one
    pub codeword_other : Codeword C other
    pub agrees_one : Agree one
    pub agrees_other : Agree other
    pub differ : SameBlock C one other → ⊥

  abbrev pub NoCodeword : Type 0
  NoCodeword = (d : Block) → Codeword C d → Agree d → ⊥

  -- a block that agrees, with as many zero sums as packets are missing, and the only one
  pub record SolvedBlock (missing : ℕ) (d : Block) : Type 0 where
    pub agrees : Agree d
    pub zero : ZeroSyndromes C missing d
    pub only : (o : Block) → Agree o → ZeroSyndromes C missing o → SameBlock C o d

  -- no codeword agrees: with the missing packets solved, sum number `sum` is the lowest that is not zero, and `word` its first word
  -- that is not
  pub record Contradiction (missing sum word : ℕ) : Type 0 where
    pub none : NoCodeword
    pub d : Block
    pub solved : SolvedBlock missing d
    pub sum_lt : sum < C.parity
    pub word_lt : word < size_of C
    pub lower : ZeroSyndromes C sum d
    pub before : (i c : ℕ) → i < C.rows → c < C.words → i * C.words + c < word → syndrome C d sum i c ≡ 0
    pub here : (i c : ℕ) → i < C.rows → c < C.words → i * C.words + c ≡ word → syndrome C d sum i c ≢ 0
