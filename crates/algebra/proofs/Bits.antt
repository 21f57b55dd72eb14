-- Bits of a number, and rows picked by a bit.
use Rattle.std.proofs.Common.{◌≡◌, ℕ, zero, suc, ◌+◌, ◌-◌, ◌*◌, ◌/◌, ◌%◌, ◌^◌, ◌<◌, sym, refl, ap, ◌∙◌, mod-eq_of_lt, one-mul, zero-mul, arith, pow-add}
use native.Mathlib.Nat.{div-eq_of_lt}
use native.Mathlib.Decide.{dec_lt}
use lib.Bits.{bit_xor, xor_comm, xor_self, xor_shr, xor_mod, xor_shifted}
use lib.Pow.{mod-pow-add}
use Rattle.std.proofs.lemmas.Nat.{mod_below, pow_pos, pow_below, shl-shr}
use Rattle.algebra.specs.Laws.{Xor, sum}
use Rattle.algebra.specs.Code.{bit}
use Rattle.algebra.specs.Packets.{words, pick}
use Rattle.algebra.proofs.Sums.{sum_zero, sum_suc, nil_right}

pub bit_lt : (i a : ℕ) → bit i a < 2
unfolding bit
bit_lt i a = mod_below (a / 2 ^ i) 2 (omega arith)

pub bit_xor_lem : (i a b : ℕ) → bit i (bit_xor a b) ≡ bit_xor (bit i a) (bit i b)
unfolding bit
bit_xor_lem i a b = ap (λ u. u % 2) (xor_shr a b i) ∙ xor_mod (a / 2 ^ i) (b / 2 ^ i) 1

pub bit_zero : (i : ℕ) → bit i 0 ≡ 0
unfolding bit
bit_zero i = ap (λ u. bit i u) (sym (xor_self 0)) ∙ bit_xor_lem i 0 0 ∙ xor_self (bit i 0)

pub bit_one : (i : ℕ) → bit i (2 ^ i) ≡ 1
unfolding bit
bit_one i = ap (λ u. u % 2) (ap (λ u. u / 2 ^ i) (sym (one-mul (2 ^ i))) ∙ shl-shr 1 i)

pub bit_other : (i j : ℕ) → (i ≡ j → ⊥) → bit i (2 ^ j) ≡ 0
unfolding bit
bit_other i j q = elim (dec_lt i j) [
  | yes l ↦
      let e : j ≡ suc (j - suc i) + i = omega arith in
      ap (λ u. 2 ^ u / 2 ^ i % 2) e
      ∙ ap (λ u. u / 2 ^ i % 2) (pow-add 2 (suc (j - suc i)) i)
      ∙ ap (λ u. u % 2) (shl-shr (2 ^ suc (j - suc i)) i)
      ∙ omega arith
  | no l ↦ let h : 2 ^ j < 2 ^ i = pow_below j i (omega arith) in ap (λ u. u % 2) (div-eq_of_lt h)
]

module _ {R : Type 0} (G : Xor R) where
  open G use {◌⊞◌, none, self, nil}

  infixl 60 ◌⊞◌
  pick_none : (b : ℕ) → pick G b none ≡ none
  unfolding pick
  pick_none zero = refl
  pick_none (suc b) = refl

  pub pick_add : (b : ℕ) (r s : R) → pick G b (r ⊞ s) ≡ pick G b r ⊞ pick G b s
  unfolding pick
  pick_add zero r s = sym (nil none)
  pick_add (suc b) r s = refl

  pub pick_comm : (a b : ℕ) (r : R) → pick G a (pick G b r) ≡ pick G b (pick G a r)
  unfolding pick
  pick_comm zero zero r = refl
  pick_comm zero (suc b) r = refl
  pick_comm (suc a) zero r = refl
  pick_comm (suc a) (suc b) r = refl

  pub pick_xor : (a b : ℕ) (r : R) → a < 2 → b < 2 → pick G (bit_xor a b) r ≡ pick G a r ⊞ pick G b r
  unfolding pick
  pick_xor zero b r h k = sym (nil _)
  pick_xor (suc zero) zero r h k = sym (nil_right G r)
  pick_xor (suc zero) (suc zero) r h k = sym (self r)
  pick_xor (suc zero) (suc (suc b)) r h k = absurd (omega arith)
  pick_xor (suc (suc a)) b r h k = absurd (omega arith)

  pub pick_sum : (b n : ℕ) (f : ℕ → R) → pick G b (sum G n f) ≡ sum G n (λ j. pick G b (f j))
  pick_sum b zero f = simp (sum_zero G, pick_none)
  pick_sum b (suc n) f = simp (sum_suc G, pick_add, pick_sum b n f)

  -- a bit of a sum of numbers
  pub pick_bits : (i n : ℕ) (f : ℕ → ℕ) (r : R) → pick G (bit i (sum words n f)) r ≡ sum G n (λ j. pick G (bit i (f j)) r)
  unfolding pick
  pick_bits i zero f r = rw (sum_zero words f, bit_zero i, sum_zero G)
  pick_bits i (suc n) f r =
      rw (sum_suc words n f, bit_xor_lem i (sum words n f) (f n), pick_xor (bit i (sum words n f)) (bit i (f n)) r (bit_lt i _) (bit_lt i _), sum_suc G n (λ j. pick G (bit i (f j)) r), pick_bits i n f r)

-- to pick a word by a bit is to multiply it by the bit
pub pick_times : (b n : ℕ) → b < 2 → pick words b n ≡ b * n
unfolding pick
pick_times zero n h = sym (zero-mul n)
pick_times (suc zero) n h = sym (one-mul n)
pick_times (suc (suc b)) n h = absurd (omega arith)

next_bit : (n c : ℕ) → bit n c * 2 ^ n + c % 2 ^ n ≡ c % 2 ^ suc n
unfolding bit
next_bit n c = sym (ap (λ u. c % 2 ^ u) (let e : suc n ≡ 1 + n = omega arith in e) ∙ mod-pow-add c 1 n)

-- a number is the sum of 2 ^ j over its set bits j
low_bits : (n c : ℕ) → sum words n (λ j. pick words (bit j c) (2 ^ j)) ≡ c % 2 ^ n
low_bits zero c = sum_zero words _ ∙ omega arith
low_bits (suc n) c =
    sum_suc words n _ ∙ rw (low_bits n c, pick_times (bit n c) (2 ^ n) (bit_lt n c)) (xor_comm (c % 2 ^ n) (bit n c * 2 ^ n)
    ∙ xor_shifted (bit n c) n (c % 2 ^ n) (mod_below c (2 ^ n) (pow_pos n)) ∙ next_bit n c)

pub all_bits : (n c : ℕ) → c < 2 ^ n → sum words n (λ j. pick words (bit j c) (2 ^ j)) ≡ c
all_bits n c h = low_bits n c ∙ mod-eq_of_lt h
