-- The packets found, added to the sums behind them.
use Rattle.std.proofs.Common.{ℕ, ◌+◌, ◌<◌, List, sym, refl, ap, ◌∙◌, ap₂, add-one}
use lib.Bits.{bit_xor, xor_assoc, xor_zero_r}
use Rattle.galois.specs.Field.{power}
use Rattle.algebra.specs.Code.{Packet, SamePacket, scaled, xors, Code}
use Rattle.algebra.proofs.Words.{scaled_same}
use Rattle.layout.specs.Blocks.{block_at}
use Rattle.code.specs.Sums.{Absorbed}
use Rattle.code.specs.Solving.{locator_at}
use Rattle.code.specs.Found.{FoundAdded}

module _ (C : Code) (x : List ℕ) (t : ℕ) (e : List ℕ) where
  pub found_none : FoundAdded C x t 0 e e
  unfolding xors
  found_none = record {
    packets = λ k h i c a b. refl;
    sums = λ μ h k i c a b. sym (xor_zero_r _);
  }

  -- one packet more is added
  pub found_more : (n : ℕ) (p : Packet) (u u' : List ℕ) → n < t → SamePacket C p (block_at C u n)
      → Absorbed C t C.parity (locator_at x n) p u u' → FoundAdded C x t n e u → FoundAdded C x t (n + 1) e u'
  unfolding xors
  found_more n p u u' lt read d f =
      record {
        packets = λ k h i c a b. d.below k h i c a b ∙ f.packets k h i c a b;
        sums = λ μ h k i c a b.
            let term : ℕ → ℕ = λ m. scaled C (power C.product (locator_at x m) μ) (block_at C e m) i c in
            d.at μ h k i c a b
            ∙ ap₂ bit_xor (f.sums μ h k i c a b) (scaled_same C (power C.product (locator_at x n) μ) p (block_at C e n) (λ j m y z. read j m y z ∙ f.packets n lt j m y z) i c b)
            ∙ xor_assoc (block_at C e μ i c) (xors n term) (term n)
            ∙ ap (bit_xor (block_at C e μ i c)) (ap (λ m. xors m term) (sym (add-one n)));
      }
