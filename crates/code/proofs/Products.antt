-- A codeword under one product is one under an equal product.
use Rattle.std.proofs.Common.{◌≡◌, ℕ, zero, suc, ◌*◌, ◌^◌, ◌<◌, sym, refl, ap, ◌∙◌}
use Rattle.galois.specs.Field.{FieldLaws, power}
use Rattle.galois.proofs.Powers.{two_lt, power_lt}
use Rattle.algebra.specs.Code.{Block, Codeword, bit, scaled, syndrome}
use Rattle.algebra.proofs.Words.{xors_ext}
use Rattle.layout.specs.declared.shape.Shape.{Shape}
use Rattle.layout.specs.Blocks.{code_of}

module _ (m : ℕ) (p q : ℕ → ℕ → ℕ) (inv : ℕ → ℕ) (laws : FieldLaws m p inv) (same : (a b : ℕ) → a < 2 ^ m → b < 2 ^ m → p a b ≡ q a b) where
  same_power : (e : ℕ) → power p 2 e ≡ power q 2 e
  unfolding power
  same_power zero = refl
  same_power (suc e) = same 2 (power p 2 e) (two_lt laws) (power_lt laws 2 e (two_lt laws)) ∙ ap (q 2) (same_power e)

  -- the product of two powers
  same_powers : (e f : ℕ) → p (power p 2 e) (power p 2 f) ≡ q (power q 2 e) (power q 2 f)
  same_powers e f =
      same _ _ (power_lt laws 2 e (two_lt laws)) (power_lt laws 2 f (two_lt laws))
      ∙ ap (λ a. q a (power p 2 f)) (same_power e) ∙ ap (q (power q 2 e)) (same_power f)

  pub same_syndrome : (s : Shape) (b : Block) (μ r c : ℕ) → syndrome (code_of s p) b μ r c ≡ syndrome (code_of s q) b μ r c
  unfolding syndrome scaled
  same_syndrome s b μ r c =
      xors_ext s.positions _ _ (λ i _. xors_ext s.rows _ _ (λ j _. ap (λ a. bit r a * b i j c) (same_powers (μ * i) j)))

  pub same_codeword : (s : Shape) (b : Block) → Codeword (code_of s p) b → Codeword (code_of s q) b
  same_codeword s b w = record { words = w.words; sums = λ μ l r c lr lc. sym (same_syndrome s b μ r c) ∙ w.sums μ l r c lr lc }
