-- A field of 2^m elements. An element is a number below 2^m whose bit j stands for α^j, α is the number 2, and the sum is the exclusive or.
-- The polynomial p says how α^m is written by lower powers: 0x11D says α^8 = α^4 + α^3 + α^2 + 1.
use Rattle.std.specs.Prelude.{◌≡◌, ℕ, zero, suc, ◌-◌, ◌*◌, ◌/◌, ◌%◌, ◌^◌, ◌<◌, ◌≤◌}
use Rattle.std.specs.Int.Bits.{bit_xor}

-- α · x: shifted up, and reduced by p where a bit came out at place m
unfoldable pub double : ℕ → ℕ → ℕ → ℕ
double m p x = bit_xor (x * 2) (x * 2 / 2 ^ m * p)

-- α^i · x
unfoldable pub steps : ℕ → ℕ → ℕ → ℕ → ℕ
steps m p zero x = x
steps m p (suc i) x = double m p (steps m p i x)

-- the sum of α^j · a over the bits j of b that are set, of its k low ones
unfoldable pub times : ℕ → ℕ → ℕ → ℕ → ℕ → ℕ
times m p zero a b = 0
times m p (suc k) a b = bit_xor (b % 2 * a) (times m p k (double m p a) (b / 2))

unfoldable pub product : ℕ → ℕ → ℕ → ℕ → ℕ
product m p a b = times m p m a b

-- a^e under a product
unfoldable pub power : (ℕ → ℕ → ℕ) → ℕ → ℕ → ℕ
power prod a zero = 1
power prod a (suc e) = prod a (power prod a e)

-- the inverse of a nonzero element, and 0 at 0
unfoldable pub inverse : ℕ → ℕ → ℕ → ℕ
inverse m p a = power (product m p) a (2 ^ m - 2)

-- what every arithmetic shows of its width, product and inverse, and all that the code above one may use
pub record FieldLaws (m : ℕ) (prod : ℕ → ℕ → ℕ) (inv : ℕ → ℕ) : Type 0 where
  pub wide : 3 ≤ m
  pub narrow : m ≤ 10
  pub closed : (a b : ℕ) → a < 2 ^ m → b < 2 ^ m → prod a b < 2 ^ m
  pub comm : (a b : ℕ) → a < 2 ^ m → b < 2 ^ m → prod a b ≡ prod b a
  pub assoc : (a b c : ℕ) → a < 2 ^ m → b < 2 ^ m → c < 2 ^ m → prod (prod a b) c ≡ prod a (prod b c)
  pub distrib : (a b c : ℕ) → a < 2 ^ m → b < 2 ^ m → c < 2 ^ m → prod a (bit_xor b c) ≡ bit_xor (prod a b) (prod a c)
  pub one : (a : ℕ) → a < 2 ^ m → prod 1 a ≡ a
  pub inverse_lt : (a : ℕ) → a < 2 ^ m → inv a < 2 ^ m
  pub inverse_zero : inv 0 ≡ 0
  pub inverts : (a : ℕ) → 0 < a → a < 2 ^ m → prod a (inv a) ≡ 1
  pub doubles : (a : ℕ) → a * 2 < 2 ^ m → prod 2 a ≡ a * 2
  pub distinct : (i j : ℕ) → i < 2 ^ m - 1 → j < 2 ^ m - 1 → power prod 2 i ≡ power prod 2 j → i ≡ j

-- p is a polynomial under which the powers of α go through all nonzero elements; log a is the exponent of α at a
pub record Primitive (m p : ℕ) : Type 0 where
  pub wide : 3 ≤ m
  pub narrow : m ≤ 10
  pub top : p / 2 ^ m ≡ 1
  pub round : steps m p (2 ^ m - 1) 1 ≡ 1
  pub log : ℕ → ℕ
  pub log_lt : (a : ℕ) → 0 < a → a < 2 ^ m → log a < 2 ^ m - 1
  pub log_is : (a : ℕ) → 0 < a → a < 2 ^ m → steps m p (log a) 1 ≡ a
  pub log_of : (i : ℕ) → i < 2 ^ m - 1 → log (steps m p i 1) ≡ i
