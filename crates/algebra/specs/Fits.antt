-- How many codewords have given packets at the marked positions of a block.
use Rattle.std.specs.Prelude.{◌≡◌, ℕ, ◌<◌, Bool, true}
use Rattle.algebra.specs.Code.{Code, Block, Codeword, Words32, SameBlock, AgreeAt}

-- codewords that agree at the marked positions are equal
abbrev pub FitAtMostOne : Code → (ℕ → Bool) → Type 0
FitAtMostOne C held = (b d : Block) → Codeword C b → Codeword C d → AgreeAt C held b d → SameBlock C b d

-- any packets at the marked positions are those of exactly one codeword
abbrev pub FitOne : Code → (ℕ → Bool) → Type 0
FitOne C held =
    (g : Block) → ((q : ℕ) → q < C.positions → held q ≡ true → Words32 C (g q))
    → (b : Block) × Codeword C b × AgreeAt C held b g × ((d : Block) → Codeword C d → AgreeAt C held d g → SameBlock C d b)

-- any packets at the marked positions are those of two codewords that differ
abbrev pub FitSeveral : Code → (ℕ → Bool) → Type 0
FitSeveral C held =
    (g : Block) → ((q : ℕ) → q < C.positions → held q ≡ true → Words32 C (g q))
    → (b d : Block) × Codeword C b × Codeword C d × AgreeAt C held b g × AgreeAt C held d g × (SameBlock C b d → ⊥)
