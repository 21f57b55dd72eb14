-- A shape over a lawful product is a proper code, so the theorems on codewords that fit hold of it.
use Rattle.std.proofs.Common.{◌≡◌, ℕ, ◌-◌, ◌<◌, sym, ◌∙◌, arith}
use Rattle.galois.specs.Field.{FieldLaws}
use Rattle.algebra.specs.Code.{Proper}
use Rattle.algebra.specs.Fits.{FitAtMostOne, FitOne, FitSeveral}
use Rattle.algebra.proofs.Fits.{at_most_one, exactly_one, several}
use Rattle.layout.specs.declared.shape.Shape.{Shape}
use Rattle.layout.specs.Sizes.{parity_of}
use Rattle.layout.specs.Blocks.{code_of}
use Rattle.code.specs.Fits.{Everywhere}

pub proper : (s : Shape) (prod : ℕ → ℕ → ℕ) (inv : ℕ → ℕ) → FieldLaws s.rows prod inv → Proper (code_of s prod) inv
proper s prod inv laws = record { field = laws; short = s.length; some = let k = s.counts in omega arith; filled = s.sizes.2 }

sources_are : (s : Shape) → s.positions - parity_of s ≡ s.sources
sources_are s = let k = s.counts in omega arith

pub fits_most : (s : Shape) (held : ℕ) → s.sources < held → Everywhere s held FitAtMostOne
fits_most s held h prod inv laws marked e = at_most_one (code_of s prod) inv (proper s prod inv laws) marked (omega (arith, sources_are s, e))

pub fits_one : (s : Shape) (held : ℕ) → held ≡ s.sources → Everywhere s held FitOne
fits_one s held h prod inv laws marked e = exactly_one (code_of s prod) inv (proper s prod inv laws) marked (e ∙ h ∙ sym (sources_are s))

pub fits_several : (s : Shape) (held : ℕ) → held < s.sources → Everywhere s held FitSeveral
fits_several s held h prod inv laws marked e = several (code_of s prod) inv (proper s prod inv laws) marked (omega (arith, sources_are s, e))
