-- Exclusive ors of words, and the low 32 bits of a block.
use Rattle.std.proofs.Common.{◌≡◌, ℕ, zero, suc, ◌*◌, ◌%◌, ◌^◌, ◌<◌, sym, refl, ap, ◌∙◌, one-mul, mul-zero, zero-mul, arith, pow_pos}
use lib.Bits.{bit_xor, xor_mod}
use Rattle.std.proofs.lemmas.Nat.{mod_below}
use Rattle.galois.specs.Field.{power}
use Rattle.algebra.specs.Code.{Code, Packet, Block, Codeword, SamePacket, ZeroPacket, xors, bit, scaled, syndrome}
use Rattle.algebra.specs.Laws.{sum}
use Rattle.algebra.specs.Loops.{Sys}
use Rattle.algebra.specs.Packets.{words}
use Rattle.algebra.proofs.Sums.{sum_ext, sum_none}
use Rattle.algebra.proofs.Bits.{bit_lt}

-- the exclusive or is the sum of words
pub xors_sum : (n : ℕ) (f : ℕ → ℕ) → xors n f ≡ sum words n f
unfolding xors sum
xors_sum zero f = refl
xors_sum (suc n) f = ap (λ u. bit_xor u (f n)) (xors_sum n f)

pub xors_ext : (n : ℕ) (f g : ℕ → ℕ) → Sys n f g → xors n f ≡ xors n g
xors_ext n f g h = xors_sum n f ∙ sum_ext words n f g h ∙ sym (xors_sum n g)

pub xors_none : (n : ℕ) (f : ℕ → ℕ) → ((j : ℕ) → j < n → f j ≡ 0) → xors n f ≡ 0
xors_none n f h = xors_sum n f ∙ sum_none words n f h

-- scaled reads the rows and words of the code only
pub scaled_same : (C : Code) (a : ℕ) (p q : Packet) → SamePacket C p q → (i c : ℕ) → c < C.words → scaled C a p i c ≡ scaled C a q i c
unfolding scaled
scaled_same C a p q e i c l = xors_ext C.rows _ _ (λ j h. ap (λ u. bit i (C.product a (power C.product 2 j)) * u) (e j c h l))

-- a zero packet, scaled, is zero
pub scaled_zero : (C : Code) (a : ℕ) (p : Packet) → ZeroPacket C p → (i c : ℕ) → c < C.words → scaled C a p i c ≡ 0
unfolding scaled
scaled_zero C a p e i c l = xors_none C.rows _ (λ j h. ap (λ u. bit i (C.product a (power C.product 2 j)) * u) (e j c h l) ∙ mul-zero _)

-- the low 32 bits of each word
abbrev pub low : Block → Block
low b q i c = b q i c % 2 ^ 32

xors_low : (n : ℕ) (f : ℕ → ℕ) → xors n (λ j. f j % 2 ^ 32) ≡ xors n f % 2 ^ 32
unfolding xors
xors_low zero f = refl
xors_low (suc n) f = ap (λ u. bit_xor u (f n % 2 ^ 32)) (xors_low n f) ∙ sym (xor_mod (xors n f) (f n) 32)

digit_low : (d x : ℕ) → d < 2 → d * (x % 2 ^ 32) ≡ (d * x) % 2 ^ 32
digit_low zero x h = zero-mul _ ∙ ap (λ u. u % 2 ^ 32) (sym (zero-mul x))
digit_low (suc zero) x h = one-mul _ ∙ ap (λ u. u % 2 ^ 32) (sym (one-mul x))
digit_low (suc (suc d)) x h = absurd (omega arith)

-- the sums of the low bits are the low bits of the sums
syndrome_low : (C : Code) (b : Block) (μ i c : ℕ) → syndrome C (low b) μ i c ≡ syndrome C b μ i c % 2 ^ 32
unfolding syndrome scaled
syndrome_low C b μ i c =
    xors_ext C.positions _ _ (λ q _. xors_ext C.rows _ _ (λ j _. digit_low _ (b q j c) (bit_lt i _)) ∙ xors_low C.rows _)
    ∙ xors_low C.positions _

-- a block whose sums are zero, cut to 32 bits, is a codeword
pub low_codeword : (C : Code) (b : Block) → ((μ : ℕ) → μ < C.parity → ZeroPacket C (syndrome C b μ)) → Codeword C (low b)
low_codeword C b e = record {
  words = λ q l i c _ _. mod_below (b q i c) (2 ^ 32) (pow_pos 32);
  sums = λ μ l i c h k. syndrome_low C b μ i c ∙ ap (λ u. u % 2 ^ 32) (e μ l i c h k);
}
