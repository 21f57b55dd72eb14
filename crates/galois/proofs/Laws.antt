-- The laws of a field, where α goes through every nonzero element.
use mathlib.Core.Path.{◌≡◌, sym, ap, ap₂, ◌∙◌}
use Prim.Native.Nat.{ℕ, zero, suc, ◌+◌, ◌-◌, ◌*◌, ◌/◌, ◌%◌, ◌^◌, ◌<◌, ◌≤◌}
use native.Mathlib.Nat.{add_comm, suc-mul, zero-mul, one-mul, mul_comm, div-add-mod', zero-lt-suc, pow-suc, mod-lt}
use native.Mathlib.Omega.{arith}
use lib.Bits.{bit_xor, xor_assoc, xor_self, xor_zero_l, xor_shifted}
use lib.Pow.{pow_pos, pow_mono}
use Rattle.galois.specs.Field.{steps, product, power, inverse, FieldLaws, Primitive}
use Rattle.galois.proofs.Linear.{double_small, steps_lt, times_lt, times_right, times_steps, steps_add, times_zero_l, times_zero_r, product_one}
use Rattle.galois.proofs.Turns.{double_big}

module _ (m p : ℕ) (t : Primitive m p) where
  four : 4 ≤ 2 ^ m
  four = pow_mono {i = 2} (let h = t.wide in omega arith)

  one_lt : 1 < 2 ^ m
  one_lt = let h = four in omega arith

  two_lt : 2 < 2 ^ m
  two_lt = let h = four in omega arith

  pub lt : (a b : ℕ) → a < 2 ^ m → b < 2 ^ m → product m p a b < 2 ^ m
  unfolding product
  lt a b ha hb = times_lt m p t.top m a b ha

  pub zero_l : (b : ℕ) → product m p 0 b ≡ 0
  unfolding product
  zero_l b = times_zero_l m p t.top m b

  pub zero_r : (a : ℕ) → product m p a 0 ≡ 0
  unfolding product
  zero_r a = times_zero_r m p t.top m a

  pub one_l : (b : ℕ) → b < 2 ^ m → product m p 1 b ≡ b
  one_l b h = product_one m p t.top b h

  -- the logarithm of a nonzero element
  pub is_power : (a : ℕ) → 0 < a → a < 2 ^ m → a ≡ steps m p (t.log a) 1
  is_power a z h = sym (t.log_is a z h)

  pub product_steps : (i a b : ℕ) → a < 2 ^ m → product m p (steps m p i a) b ≡ steps m p i (product m p a b)
  unfolding product
  product_steps i a b h = times_steps m p t.top i m a b h

  pub by_power : (i b : ℕ) → b < 2 ^ m → product m p (steps m p i 1) b ≡ steps m p i b
  by_power i b h = product_steps i 1 b one_lt ∙ ap (steps m p i) (one_l b h)

  pub by_log : (a b : ℕ) → 0 < a → a < 2 ^ m → b < 2 ^ m → product m p a b ≡ steps m p (t.log a) b
  by_log a b z ha hb = ap (λ (x : ℕ). product m p x b) (is_power a z ha) ∙ by_power (t.log a) b hb

  pub power_add : (i j : ℕ) → steps m p (i + j) 1 ≡ steps m p i (steps m p j 1)
  power_add i j = steps_add m p t.top i j 1

  pub by_logs : (a b : ℕ) → 0 < a → a < 2 ^ m → 0 < b → b < 2 ^ m → product m p a b ≡ steps m p (t.log a + t.log b) 1
  by_logs a b za ha zb hb =
      by_log a b za ha hb ∙ ap (steps m p (t.log a)) (is_power b zb hb) ∙ sym (power_add (t.log a) (t.log b))

  pub comm : (a b : ℕ) → a < 2 ^ m → b < 2 ^ m → product m p a b ≡ product m p b a
  comm zero b ha hb = zero_l b ∙ sym (zero_r b)
  comm (suc a) zero ha hb = zero_r (suc a) ∙ sym (zero_l (suc a))
  comm (suc a) (suc b) ha hb =
      by_logs (suc a) (suc b) (zero-lt-suc a) ha (zero-lt-suc b) hb
      ∙ ap (λ (n : ℕ). steps m p n 1) (add_comm (t.log (suc a)) (t.log (suc b)))
      ∙ sym (by_logs (suc b) (suc a) (zero-lt-suc b) hb (zero-lt-suc a) ha)

  pub assoc : (a b c : ℕ) → a < 2 ^ m → b < 2 ^ m → c < 2 ^ m → product m p (product m p a b) c ≡ product m p a (product m p b c)
  assoc zero b c ha hb hc = ap (λ (x : ℕ). product m p x c) (zero_l b) ∙ zero_l c ∙ sym (zero_l (product m p b c))
  assoc (suc a) b c ha hb hc =
      ap (λ (x : ℕ). product m p x c) (by_log (suc a) b (zero-lt-suc a) ha hb)
      ∙ product_steps (t.log (suc a)) b c hb
      ∙ sym (by_log (suc a) (product m p b c) (zero-lt-suc a) ha (lt b c hb hc))

  pub distrib : (a b c : ℕ) → product m p a (bit_xor b c) ≡ bit_xor (product m p a b) (product m p a c)
  unfolding product
  distrib a b c = times_right m p t.top m a b c

  pub doubles : (a : ℕ) → a * 2 < 2 ^ m → product m p 2 a ≡ a * 2
  unfolding steps
  doubles a h =
      let small : a < 2 ^ m = omega arith in
      ap (λ (x : ℕ). product m p x a) (sym (double_small m p 1 two_lt)) ∙ by_power 1 a small ∙ double_small m p a h

  -- powers
  pub power_step : (i e : ℕ) → power (product m p) (steps m p i 1) e ≡ steps m p (e * i) 1
  unfolding power steps
  power_step i zero = ap (λ (n : ℕ). steps m p n 1) (sym (zero-mul i))
  power_step i (suc e) =
      ap (product m p (steps m p i 1)) (power_step i e) ∙ by_power i (steps m p (e * i) 1) (steps_lt m p t.top (e * i) 1 one_lt)
      ∙ sym (power_add i (e * i)) ∙ ap (λ (n : ℕ). steps m p n 1) (add_comm i (e * i) ∙ sym (suc-mul e i))

  pub rounds : (i : ℕ) → steps m p (i * (2 ^ m - 1)) 1 ≡ 1
  unfolding steps
  rounds zero = ap (λ (n : ℕ). steps m p n 1) (zero-mul (2 ^ m - 1))
  rounds (suc i) =
      ap (λ (n : ℕ). steps m p n 1) (suc-mul i (2 ^ m - 1)) ∙ power_add (i * (2 ^ m - 1)) (2 ^ m - 1)
      ∙ ap (steps m p (i * (2 ^ m - 1))) t.round ∙ rounds i

  pub steps_mod : (i : ℕ) → steps m p (i % (2 ^ m - 1)) 1 ≡ steps m p i 1
  steps_mod i =
      let n = 2 ^ m - 1 in
      ap (steps m p (i % n)) (sym (rounds (i / n))) ∙ sym (power_add (i % n) (i / n * n))
      ∙ ap (λ (k : ℕ). steps m p k 1) (add_comm (i % n) (i / n * n) ∙ div-add-mod' i n)

  pub inverts : (a : ℕ) → 0 < a → a < 2 ^ m → product m p a (inverse m p a) ≡ 1
  unfolding inverse power
  inverts a z h =
      let h4 = four in
      let e : suc (2 ^ m - 2) ≡ 2 ^ m - 1 = omega arith in
      ap (power (product m p) a) e ∙ ap (λ (x : ℕ). power (product m p) x (2 ^ m - 1)) (is_power a z h)
      ∙ power_step (t.log a) (2 ^ m - 1) ∙ ap (λ (n : ℕ). steps m p n 1) (mul_comm (2 ^ m - 1) (t.log a)) ∙ rounds (t.log a)

  pub inverse_zero : inverse m p 0 ≡ 0
  unfolding inverse power
  inverse_zero =
      let h4 = four in
      let e : 2 ^ m - 2 ≡ suc (2 ^ m - 3) = omega arith in
      ap (power (product m p) 0) e ∙ zero_l (power (product m p) 0 (2 ^ m - 3))

  pub power_lt : (a e : ℕ) → a < 2 ^ m → power (product m p) a e < 2 ^ m
  unfolding power
  power_lt a zero h = one_lt
  power_lt a (suc e) h = lt a (power (product m p) a e) h (power_lt a e h)

  pub inverse_lt : (a : ℕ) → a < 2 ^ m → inverse m p a < 2 ^ m
  unfolding inverse
  inverse_lt a h = power_lt a (2 ^ m - 2) h

  pub inverse_unique : (a r : ℕ) → 0 < a → a < 2 ^ m → r < 2 ^ m → product m p a r ≡ 1 → r ≡ inverse m p a
  inverse_unique a r z h k e =
      sym (one_l r k) ∙ ap (λ (x : ℕ). product m p x r) (sym (inverts a z h) ∙ comm a (inverse m p a) h (inverse_lt a h))
      ∙ assoc (inverse m p a) a r (inverse_lt a h) h k ∙ ap (product m p (inverse m p a)) e ∙ comm (inverse m p a) 1 (inverse_lt a h) one_lt ∙ one_l (inverse m p a) (inverse_lt a h)

  pub alpha : (i : ℕ) → power (product m p) 2 i ≡ steps m p i 1
  unfolding steps
  alpha i =
      ap (λ (x : ℕ). power (product m p) x i) (sym (double_small m p 1 two_lt)) ∙ power_step 1 i
      ∙ ap (λ (n : ℕ). steps m p n 1) (omega arith)

  -- α^m by lower powers
  pub alpha_to_width : product m p 2 (2 ^ (m - 1)) ≡ p % 2 ^ m
  unfolding steps
  alpha_to_width =
      let top = 2 ^ m in
      let half = 2 ^ (m - 1) in
      let wide = t.wide in
      let twice : half * 2 ≡ top = sym (pow-suc 2 (m - 1)) ∙ ap (λ (k : ℕ). 2 ^ k) (omega arith) in
      let pos : 0 < half = pow_pos (m - 1) in
      let leads : p ≡ bit_xor top (p % top) =
      sym (div-add-mod' p top) ∙ ap (λ (k : ℕ). k * top + p % top) t.top ∙ sym (xor_shifted 1 m (p % top) (mod-lt p (pow_pos m))) ∙ ap (λ (k : ℕ). bit_xor k (p % top)) (one-mul top) in
      ap (λ (x : ℕ). product m p x half) (sym (double_small m p 1 two_lt)) ∙ by_power 1 half (omega arith)
      ∙ double_big m p half (omega arith) (omega arith)
      ∙ ap₂ bit_xor twice leads ∙ sym (xor_assoc top top (p % top))
      ∙ ap (λ (x : ℕ). bit_xor x (p % top)) (xor_self top) ∙ xor_zero_l (p % top)

  pub distinct : (i j : ℕ) → i < 2 ^ m - 1 → j < 2 ^ m - 1 → power (product m p) 2 i ≡ power (product m p) 2 j → i ≡ j
  distinct i j hi hj e = sym (t.log_of i hi) ∙ ap t.log (sym (alpha i) ∙ e ∙ alpha j) ∙ t.log_of j hj

  pub laws : FieldLaws m (product m p) (inverse m p)
  laws = record {
    wide = t.wide;
    narrow = t.narrow;
    closed = lt;
    comm = comm;
    assoc = assoc;
    distrib = λ a b c ha hb hc. distrib a b c;
    one = one_l;
    inverse_lt = inverse_lt;
    inverse_zero = inverse_zero;
    inverts = inverts;
    doubles = doubles;
    distinct = distinct;
  }

  -- products and inverses by exponents
  pub product_by_logs : (a b i j : ℕ) → b < 2 ^ m → steps m p i 1 ≡ a → steps m p j 1 ≡ b → steps m p (i + j) 1 ≡ product m p a b
  product_by_logs a b i j hb ea eb =
      power_add i j ∙ ap (steps m p i) eb ∙ sym (by_power i b hb) ∙ ap (λ (x : ℕ). product m p x b) ea

  pub inverse_by_log : (a i : ℕ) → 0 < a → a < 2 ^ m → i < 2 ^ m - 1 → steps m p i 1 ≡ a → steps m p (2 ^ m - 1 - i) 1 ≡ inverse m p a
  inverse_by_log a i z h below e =
      let n = 2 ^ m - 1 in
      let sums : i + (n - i) ≡ n = omega arith in
      let r = steps m p (n - i) 1 in
      let r-lt : r < 2 ^ m = steps_lt m p t.top (n - i) 1 one_lt in
      inverse_unique a r z h r-lt
      (ap (λ (x : ℕ). product m p x r) (sym e) ∙ by_power i r r-lt ∙ sym (power_add i (n - i)) ∙ ap (λ (k : ℕ). steps m p k 1) sums ∙ t.round)
