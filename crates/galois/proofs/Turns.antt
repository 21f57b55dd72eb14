-- What the product by shifts keeps from turn to turn.
use mathlib.Core.Path.{◌≡◌, sym, ap, ◌∙◌}
use Prim.Native.Nat.{ℕ, suc, ◌*◌, ◌/◌, ◌%◌, ◌^◌, ◌<◌, ◌≤◌}
use native.Mathlib.Nat.{zero-mul, one-mul, div-eq_of_lt-le}
use native.Mathlib.Omega.{arith}
use lib.Bits.{bit_xor, bit_and, and_mask, xor_assoc, xor_zero_r}
use Rattle.galois.specs.Field.{double, times}

pub double_big : (m p x : ℕ) → x < 2 ^ m → 2 ^ m ≤ x * 2 → double m p x ≡ bit_xor (x * 2) p
unfolding double
double_big m p x h k =
    ap (λ (u : ℕ). bit_xor (x * 2) (u * p)) (div-eq_of_lt-le {k = 1} (2 ^ m) (omega arith) (omega arith)) ∙ ap (bit_xor (x * 2)) (one-mul p)

-- one bit of r: what is owed stays
pub turn : (m p k s x r : ℕ) → bit_xor s (times m p (suc k) x r) ≡ bit_xor (bit_xor s (r % 2 * x)) (times m p k (double m p x) (r / 2))
unfolding times
turn m p k s x r = sym (xor_assoc s (r % 2 * x) (times m p k (double m p x) (r / 2)))

pub turn_set : (m p k s x r : ℕ) → bit_and r 1 ≡ 1 → bit_xor s (times m p (suc k) x r) ≡ bit_xor (bit_xor s x) (times m p k (double m p x) (r / 2))
turn_set m p k s x r e =
    turn m p k s x r
    ∙ ap (λ (u : ℕ). bit_xor (bit_xor s (u * x)) (times m p k (double m p x) (r / 2))) (sym (and_mask r 1) ∙ e)
    ∙ ap (λ (u : ℕ). bit_xor (bit_xor s u) (times m p k (double m p x) (r / 2))) (one-mul x)

pub turn_clear : (m p k s x r : ℕ) → bit_and r 1 ≡ 0 → bit_xor s (times m p (suc k) x r) ≡ bit_xor s (times m p k (double m p x) (r / 2))
turn_clear m p k s x r e =
    turn m p k s x r
    ∙ ap (λ (u : ℕ). bit_xor (bit_xor s (u * x)) (times m p k (double m p x) (r / 2))) (sym (and_mask r 1) ∙ e)
    ∙ ap (λ (u : ℕ). bit_xor u (times m p k (double m p x) (r / 2))) (ap (bit_xor s) (zero-mul x) ∙ xor_zero_r s)

pub done : (m p s x r : ℕ) → bit_xor s (times m p 0 x r) ≡ s
unfolding times
done m p s x r = xor_zero_r s
