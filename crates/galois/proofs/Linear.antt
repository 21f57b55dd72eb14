-- Doubling and the product are linear over the exclusive or, and the product passes doubling through.
use mathlib.Core.Path.{◌≡◌, refl, sym, ap, ap₂, ◌∙◌, subst}
use Prim.Native.Nat.{ℕ, zero, suc, ◌+◌, ◌*◌, ◌/◌, ◌%◌, ◌^◌, ◌<◌, ◌≤◌}
use native.Mathlib.Nat.{add-zero, zero-add, suc-add, zero-mul, one-mul, mul-zero, mul-one, mul_assoc, mul_comm, zero-div, pow-suc, mod-lt, mod-eq_of_lt, div-eq_of_lt, div-add-mod', div-lt_iff_lt-mul, le_of_suc-le-suc, not-suc-le-zero, add-mul, mul-lt-mul_of_pos_right, le_of_eq}
use native.Mathlib.Omega.{arith}
use lib.Arith.{lt-one}
use lib.Dec.{lit<}
use lib.Pow.{pow_pos, pow-lt}
use lib.Bits.{bit_xor, xor_assoc, xor_comm, xor_self, xor_zero_r, xor_block, xor_mod, xor_shr, xor_lt, xor_shifted}
use Rattle.galois.specs.Field.{double, steps, times, product}

two_pos : 0 < 2
two_pos = lit< tt

pub xor4 : (a b c d : ℕ) → bit_xor (bit_xor a b) (bit_xor c d) ≡ bit_xor (bit_xor a c) (bit_xor b d)
xor4 a b c d =
    xor_assoc a b (bit_xor c d)
    ∙ ap (bit_xor a) (sym (xor_assoc b c d) ∙ ap (λ (x : ℕ). bit_xor x d) (xor_comm b c) ∙ xor_assoc c b d)
    ∙ sym (xor_assoc a c (bit_xor b d))

pub xor_double : (a b : ℕ) → bit_xor a b * 2 ≡ bit_xor (a * 2) (b * 2)
xor_double a b =
    sym (add-zero (bit_xor a b * 2)) ∙ sym (xor_block 1 a b 0 0 (lit< tt) (lit< tt)) ∙ ap₂ bit_xor (add-zero (a * 2)) (add-zero (b * 2))

not_digit {ℓ} : {A : Type ℓ} {x : ℕ} → suc (suc x) < 2 → A
not_digit h = absurd (not-suc-le-zero (le_of_suc-le-suc (le_of_suc-le-suc h)))

-- a digit times a sum
pub digit_sum : (u a b : ℕ) → u < 2 → u * bit_xor a b ≡ bit_xor (u * a) (u * b)
digit_sum zero a b h = zero-mul (bit_xor a b) ∙ sym (ap₂ bit_xor (zero-mul a) (zero-mul b))
digit_sum (suc zero) a b h = one-mul (bit_xor a b) ∙ sym (ap₂ bit_xor (one-mul a) (one-mul b))
digit_sum (suc (suc u)) a b h = not_digit h

-- a sum of digits, times a number
pub sum_digit : (u v a : ℕ) → u < 2 → v < 2 → bit_xor u v * a ≡ bit_xor (u * a) (v * a)
sum_digit zero v a h k = sym (ap (λ (x : ℕ). bit_xor x (v * a)) (zero-mul a))
sum_digit (suc zero) zero a h k = sym (ap (bit_xor (1 * a)) (zero-mul a) ∙ xor_zero_r (1 * a))
sum_digit (suc zero) (suc zero) a h k = zero-mul a ∙ sym (xor_self (1 * a))
sum_digit (suc zero) (suc (suc v)) a h k = not_digit k
sum_digit (suc (suc u)) v a h k = not_digit h

digit : (b : ℕ) → b % 2 < 2
digit b = mod-lt b two_pos

-- the bit that comes out is a digit
pub out_lt : (m x : ℕ) → x < 2 ^ m → x * 2 / 2 ^ m < 2
out_lt m x h = (div-lt_iff_lt-mul (pow_pos m)).1 (subst (λ (y : ℕ). x * 2 < y) (mul_comm (2 ^ m) 2) (mul-lt-mul_of_pos_right h two_pos))

zero_of_div : (n k : ℕ) → n / 2 ^ k ≡ 0 → n < 2 ^ k
zero_of_div n k e = subst (λ (y : ℕ). n < y) (one-mul (2 ^ k)) ((div-lt_iff_lt-mul (pow_pos k)).0 (subst (λ (y : ℕ). y < 1) (sym e) (lit< tt)))

module _ (m p : ℕ) where
  pub double_zero : double m p 0 ≡ 0
  unfolding double
  double_zero = ap (λ (x : ℕ). x * p) (zero-div (2 ^ m)) ∙ zero-mul p

  pub double_sum : (a b : ℕ) → a < 2 ^ m → b < 2 ^ m → double m p (bit_xor a b) ≡ bit_xor (double m p a) (double m p b)
  unfolding double
  double_sum a b ha hb =
      ap₂ bit_xor (xor_double a b)
      (ap (λ (x : ℕ). x / 2 ^ m * p) (xor_double a b) ∙ ap (λ (x : ℕ). x * p) (xor_shr (a * 2) (b * 2) m)
      ∙ sum_digit (a * 2 / 2 ^ m) (b * 2 / 2 ^ m) p (out_lt m a ha) (out_lt m b hb))
      ∙ xor4 (a * 2) (b * 2) (a * 2 / 2 ^ m * p) (b * 2 / 2 ^ m * p)

  pub double_digit : (u a : ℕ) → u < 2 → double m p (u * a) ≡ u * double m p a
  double_digit zero a h = ap (double m p) (zero-mul a) ∙ double_zero ∙ sym (zero-mul (double m p a))
  double_digit (suc zero) a h = ap (double m p) (one-mul a) ∙ sym (one-mul (double m p a))
  double_digit (suc (suc u)) a h = not_digit h

  pub digit_lt : (u a : ℕ) → u < 2 → a < 2 ^ m → u * a < 2 ^ m
  digit_lt zero a h k = subst (λ (x : ℕ). x < 2 ^ m) (sym (zero-mul a)) (pow_pos m)
  digit_lt (suc zero) a h k = subst (λ (x : ℕ). x < 2 ^ m) (sym (one-mul a)) k
  digit_lt (suc (suc u)) a h k = not_digit h

  -- below half, doubling is a shift
  pub double_small : (a : ℕ) → a * 2 < 2 ^ m → double m p a ≡ a * 2
  unfolding double
  double_small a h = ap (λ (x : ℕ). bit_xor (a * 2) (x * p)) (div-eq_of_lt h) ∙ ap (bit_xor (a * 2)) (zero-mul p) ∙ xor_zero_r (a * 2)

  module _ (top : p / 2 ^ m ≡ 1) where
    out_gone : (u : ℕ) → u < 2 → bit_xor u (u * p / 2 ^ m) ≡ 0
    out_gone zero h = ap (λ (x : ℕ). x / 2 ^ m) (zero-mul p) ∙ zero-div (2 ^ m)
    out_gone (suc zero) h = ap (λ (x : ℕ). bit_xor 1 (x / 2 ^ m)) (one-mul p) ∙ ap (bit_xor 1) top
    out_gone (suc (suc u)) h = not_digit h

    pub double_lt : (a : ℕ) → a < 2 ^ m → double m p a < 2 ^ m
    unfolding double
    double_lt a h =
        zero_of_div (bit_xor (a * 2) (a * 2 / 2 ^ m * p)) m
        (xor_shr (a * 2) (a * 2 / 2 ^ m * p) m ∙ out_gone (a * 2 / 2 ^ m) (out_lt m a h))

    pub steps_lt : (i a : ℕ) → a < 2 ^ m → steps m p i a < 2 ^ m
    unfolding steps
    steps_lt zero a h = h
    steps_lt (suc i) a h = double_lt (steps m p i a) (steps_lt i a h)

    pub times_lt : (k a b : ℕ) → a < 2 ^ m → times m p k a b < 2 ^ m
    unfolding times
    times_lt zero a b h = pow_pos m
    times_lt (suc k) a b h =
        xor_lt m (b % 2 * a) (times m p k (double m p a) (b / 2)) (digit_lt (b % 2) a (digit b) h) (times_lt k (double m p a) (b / 2) (double_lt a h))

    pub times_left : (k a c b : ℕ) → a < 2 ^ m → c < 2 ^ m → times m p k (bit_xor a c) b ≡ bit_xor (times m p k a b) (times m p k c b)
    unfolding times
    times_left zero a c b ha hc = refl
    times_left (suc k) a c b ha hc =
        ap₂ bit_xor (digit_sum (b % 2) a c (digit b))
        (ap (λ (x : ℕ). times m p k x (b / 2)) (double_sum a c ha hc)
        ∙ times_left k (double m p a) (double m p c) (b / 2) (double_lt a ha) (double_lt c hc))
        ∙ xor4 (b % 2 * a) (b % 2 * c) (times m p k (double m p a) (b / 2)) (times m p k (double m p c) (b / 2))

    pub times_right : (k a b c : ℕ) → times m p k a (bit_xor b c) ≡ bit_xor (times m p k a b) (times m p k a c)
    unfolding times
    times_right zero a b c = refl
    times_right (suc k) a b c =
        ap₂ bit_xor (ap (λ (x : ℕ). x * a) (xor_mod b c 1) ∙ sum_digit (b % 2) (c % 2) a (digit b) (digit c))
        (ap (times m p k (double m p a)) (xor_shr b c 1) ∙ times_right k (double m p a) (b / 2) (c / 2))
        ∙ xor4 (b % 2 * a) (c % 2 * a) (times m p k (double m p a) (b / 2)) (times m p k (double m p a) (c / 2))

    pub times_double : (k a b : ℕ) → a < 2 ^ m → times m p k (double m p a) b ≡ double m p (times m p k a b)
    unfolding times
    times_double zero a b h = sym double_zero
    times_double (suc k) a b h =
        ap₂ bit_xor (sym (double_digit (b % 2) a (digit b))) (times_double k (double m p a) (b / 2) (double_lt a h))
        ∙ sym (double_sum (b % 2 * a) (times m p k (double m p a) (b / 2)) (digit_lt (b % 2) a (digit b) h) (times_lt k (double m p a) (b / 2) (double_lt a h)))

    pub times_steps : (i k a b : ℕ) → a < 2 ^ m → times m p k (steps m p i a) b ≡ steps m p i (times m p k a b)
    unfolding steps
    times_steps zero k a b h = refl
    times_steps (suc i) k a b h =
        times_double k (steps m p i a) b (steps_lt i a h) ∙ ap (double m p) (times_steps i k a b h)

    pub steps_add : (i j a : ℕ) → steps m p (i + j) a ≡ steps m p i (steps m p j a)
    unfolding steps
    steps_add zero j a = ap (λ (x : ℕ). steps m p x a) (zero-add j)
    steps_add (suc i) j a = ap (λ (x : ℕ). steps m p x a) (suc-add i j) ∙ ap (double m p) (steps_add i j a)

    pub times_zero_l : (k b : ℕ) → times m p k 0 b ≡ 0
    unfolding times
    times_zero_l zero b = refl
    times_zero_l (suc k) b =
        ap₂ bit_xor (mul-zero (b % 2)) (ap (λ (x : ℕ). times m p k x (b / 2)) double_zero ∙ times_zero_l k (b / 2))

    pub times_zero_r : (k a : ℕ) → times m p k a 0 ≡ 0
    unfolding times
    times_zero_r zero a = refl
    times_zero_r (suc k) a = ap₂ bit_xor (zero-mul a) (times_zero_r k (double m p a))

    pub steps_double : (i a : ℕ) → steps m p i (double m p a) ≡ double m p (steps m p i a)
    unfolding steps
    steps_double zero a = refl
    steps_double (suc i) a = ap (double m p) (steps_double i a)

    -- a power of α that no doubling carries out is a shift
    pub times_one : (k j b : ℕ) → j + k ≤ m → b < 2 ^ k → times m p k (2 ^ j) b ≡ b * 2 ^ j
    unfolding times
    times_one zero j b h hb = sym (ap (λ (x : ℕ). x * 2 ^ j) (lt-one hb) ∙ zero-mul (2 ^ j))
    times_one (suc zero) j b h hb =
        xor_zero_r (b % 2 * 2 ^ j) ∙ ap (λ (x : ℕ). x * 2 ^ j) (mod-eq_of_lt hb)
    times_one (suc (suc k)) j b h hb =
        let room : suc j < m = omega arith in
        let grown : double m p (2 ^ j) ≡ 2 ^ suc j =
        double_small (2 ^ j) (subst (λ (x : ℕ). x < 2 ^ m) (pow-suc 2 j) (pow-lt room)) ∙ sym (pow-suc 2 j) in
        let rest : times m p (suc k) (double m p (2 ^ j)) (b / 2) ≡ b / 2 * 2 ^ suc j =
        ap (λ (x : ℕ). times m p (suc k) x (b / 2)) grown
        ∙ times_one (suc k) (suc j) (b / 2) (omega arith)
        ((div-lt_iff_lt-mul two_pos).1 (subst (λ (x : ℕ). b < x) (pow-suc 2 (suc k)) hb)) in
        let low : b % 2 * 2 ^ j < 2 ^ suc j =
        subst (λ (x : ℕ). b % 2 * 2 ^ j < x) (mul_comm 2 (2 ^ j) ∙ sym (pow-suc 2 j)) (mul-lt-mul_of_pos_right (digit b) (pow_pos j)) in
        ap (bit_xor (b % 2 * 2 ^ j)) rest
        ∙ xor_comm (b % 2 * 2 ^ j) (b / 2 * 2 ^ suc j)
        ∙ xor_shifted (b / 2) (suc j) (b % 2 * 2 ^ j) low
        ∙ ap (λ (x : ℕ). b / 2 * x + b % 2 * 2 ^ j) (pow-suc 2 j ∙ mul_comm (2 ^ j) 2)
        ∙ ap (λ (x : ℕ). x + b % 2 * 2 ^ j) (sym (mul_assoc (b / 2) 2 (2 ^ j)))
        ∙ sym (add-mul (b / 2 * 2) (b % 2) (2 ^ j))
        ∙ ap (λ (x : ℕ). x * 2 ^ j) (div-add-mod' b 2)

    pub product_one : (b : ℕ) → b < 2 ^ m → product m p 1 b ≡ b
    unfolding product
    product_one b h = times_one m 0 b (le_of_eq (zero-add m)) h ∙ mul-one b
