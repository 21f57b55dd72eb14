-- What the laws of a field say of zero, of powers and of the powers of α.
use mathlib.Core.Path.{◌≡◌, refl, sym, ap, subst, ◌∙◌}
use Prim.Native.Nat.{ℕ, zero, suc, ◌+◌, ◌-◌, ◌*◌, ◌/◌, ◌%◌, ◌^◌, ◌<◌, ◌≤◌}
use native.Mathlib.Nat.{add_comm, suc-add, zero-add, suc-mul, zero-mul, pow-suc}
use native.Mathlib.Decide.{ℕ_discrete}
use native.Mathlib.Omega.{arith}
use lib.Pow.{pow_pos, pow-lt, pow_mono}
use lib.Bits.{bit_xor, xor_self, xor_assoc, xor_zero_l, xor_zero_r}
use Rattle.galois.specs.Field.{FieldLaws, power}

module _ {m : ℕ} {prod : ℕ → ℕ → ℕ} {inv : ℕ → ℕ} (laws : FieldLaws m prod inv) where
  pub one_lt : 1 < 2 ^ m
  one_lt = pow_mono {i = 1} (let h = laws.wide in omega arith)

  pub two_lt : 2 < 2 ^ m
  two_lt = let h : 4 ≤ 2 ^ m = pow_mono {i = 2} (let k = laws.wide in omega arith) in omega arith

  pub prod_zero : (a : ℕ) → a < 2 ^ m → prod a 0 ≡ 0
  prod_zero a h = laws.distrib a 0 0 h (pow_pos m) (pow_pos m) ∙ xor_self (prod a 0)

  pub prod_one : (a : ℕ) → a < 2 ^ m → prod a 1 ≡ a
  prod_one a h = laws.comm a 1 h one_lt ∙ laws.one a h

  -- (a b)(c d) = (a c)(b d)
  pub prod_swap : (a b c d : ℕ) → a < 2 ^ m → b < 2 ^ m → c < 2 ^ m → d < 2 ^ m → prod (prod a b) (prod c d) ≡ prod (prod a c) (prod b d)
  prod_swap a b c d ha hb hc hd =
      laws.assoc a b (prod c d) ha hb (laws.closed c d hc hd)
      ∙ ap (prod a) (sym (laws.assoc b c d hb hc hd) ∙ ap (λ (x : ℕ). prod x d) (laws.comm b c hb hc) ∙ laws.assoc c b d hc hb hd)
      ∙ sym (laws.assoc a c (prod b d) ha hc (laws.closed b d hb hd))

  -- no two nonzero elements have the product 0
  pub prod_pos : (a b : ℕ) → 0 < a → a < 2 ^ m → 0 < b → b < 2 ^ m → 0 < prod a b
  prod_pos a b za ha zb hb = elim (ℕ_discrete (prod a b) 0) [
    | no q ↦ omega arith
    | yes q ↦ absurd (
        let i = laws.inverse_lt a ha in
        let e : b ≡ 0 =
        sym (laws.one b hb) ∙ ap (λ (x : ℕ). prod x b) (sym (laws.inverts a za ha) ∙ laws.comm a (inv a) ha i)
        ∙ laws.assoc (inv a) a b i ha hb ∙ ap (prod (inv a)) q ∙ prod_zero (inv a) i in
        omega arith)
  ]

  pub power_lt : (a e : ℕ) → a < 2 ^ m → power prod a e < 2 ^ m
  unfolding power
  power_lt a zero h = one_lt
  power_lt a (suc e) h = laws.closed a (power prod a e) h (power_lt a e h)

  pub power_add : (a e f : ℕ) → a < 2 ^ m → power prod a (e + f) ≡ prod (power prod a e) (power prod a f)
  unfolding power
  power_add a zero f h = ap (power prod a) (zero-add f) ∙ sym (laws.one (power prod a f) (power_lt a f h))
  power_add a (suc e) f h =
      ap (power prod a) (suc-add e f) ∙ ap (prod a) (power_add a e f h)
      ∙ sym (laws.assoc a (power prod a e) (power prod a f) h (power_lt a e h) (power_lt a f h))

  pub power_mul : (a e f : ℕ) → a < 2 ^ m → power prod (power prod a e) f ≡ power prod a (f * e)
  unfolding power
  power_mul a e zero h = ap (power prod a) (sym (zero-mul e))
  power_mul a e (suc f) h =
      ap (prod (power prod a e)) (power_mul a e f h) ∙ sym (power_add a e (f * e) h)
      ∙ ap (power prod a) (add_comm e (f * e) ∙ sym (suc-mul f e))

  -- one turn of raising by squares
  power_square : (a e : ℕ) → a < 2 ^ m → power prod (prod a a) e ≡ power prod a (e * 2)
  unfolding power
  power_square a e h = ap (λ (x : ℕ). power prod (prod a x) e) (sym (prod_one a h)) ∙ power_mul a 2 e h

  pub power_even : (a e : ℕ) → a < 2 ^ m → e % 2 ≡ 0 → power prod (prod a a) (e / 2) ≡ power prod a e
  power_even a e h z = power_square a (e / 2) h ∙ ap (power prod a) (omega arith)

  pub power_odd : (a e : ℕ) → a < 2 ^ m → e % 2 ≡ 1 → prod a (power prod (prod a a) (e / 2)) ≡ power prod a e
  unfolding power
  power_odd a e h z =
      let k : suc (e / 2 * 2) ≡ e = omega arith in
      ap (prod a) (power_square a (e / 2) h) ∙ ap (power prod a) k

  pub power_pos : (a e : ℕ) → 0 < a → a < 2 ^ m → 0 < power prod a e
  unfolding power
  power_pos a zero z h = omega arith
  power_pos a (suc e) z h = prod_pos a (power prod a e) z h (power_pos a e z h) (power_lt a e h)

  -- below m, a power of α is a power of two
  pub power_alpha : (j : ℕ) → j < m → power prod 2 j ≡ 2 ^ j
  unfolding power
  power_alpha zero h = refl
  power_alpha (suc j) h =
      let e : 2 ^ suc j ≡ 2 ^ j * 2 = pow-suc 2 j in
      let lt : 2 ^ j * 2 < 2 ^ m = subst (λ (x : ℕ). x < 2 ^ m) e (pow-lt h) in
      ap (prod 2) (power_alpha j (omega arith)) ∙ laws.doubles (2 ^ j) lt ∙ sym e

  -- different powers of α have a nonzero difference
  pub alpha_apart : (i j : ℕ) → i < 2 ^ m - 1 → j < 2 ^ m - 1 → (i ≡ j → ⊥) → 0 < bit_xor (power prod 2 i) (power prod 2 j)
  alpha_apart i j hi hj ne =
      elim (ℕ_discrete (bit_xor (power prod 2 i) (power prod 2 j)) 0) [
        | no q ↦ omega arith
        | yes q ↦ absurd (ne (laws.distinct i j hi hj (
            sym (xor_zero_r x) ∙ ap (bit_xor x) (sym (xor_self y)) ∙ sym (xor_assoc x y y) ∙ ap (λ (u : ℕ). bit_xor u y) q ∙ xor_zero_l y)))
      ]
    where
      x : ℕ
      x = power prod 2 i

      y : ℕ
      y = power prod 2 j
