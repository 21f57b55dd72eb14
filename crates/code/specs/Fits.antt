-- How many codewords have packets that are held at so many positions.
use Rattle.std.specs.Prelude.{◌≡◌, ℕ, ◌<◌, Bool}
use Rattle.galois.specs.Field.{FieldLaws}
use Rattle.algebra.specs.Code.{Code, count}
use Rattle.algebra.specs.Fits.{FitAtMostOne, FitOne, FitSeveral}
use Rattle.layout.specs.declared.shape.Shape.{Shape}
use Rattle.code.specs.declared.fits.Fit.{Fit}
use Rattle.code.specs.declared.fits.Fit.TheVariants.{AtMostOne, One, Several}
use Rattle.layout.specs.Blocks.{code_of}

-- over every arithmetic and at any `held` positions
abbrev pub Everywhere : Shape → ℕ → (Code → (ℕ → Bool) → Type 0) → Type 0
Everywhere s held Law =
    (prod : ℕ → ℕ → ℕ) (inv : ℕ → ℕ) → FieldLaws s.rows prod inv → (marked : ℕ → Bool) → count marked s.positions ≡ held → Law (code_of s prod) marked

abbrev pub Fits : Shape → ℕ → Fit → Type 0
Fits s held AtMostOne = (s.sources < held) × Everywhere s held FitAtMostOne
Fits s held One = (held ≡ s.sources) × Everywhere s held FitOne
Fits s held Several = (held < s.sources) × Everywhere s held FitSeveral
