-- Sums over an XOR group V that scalars F act on, and the coefficients of the solver's system.
use Rattle.std.specs.Prelude.{◌≡◌, ℕ, zero, suc, ◌+◌, ◌-◌, min}

-- a commutative group in which each element is its own inverse
pub record Xor (V : Type 0) : Type 0 where
  pub none : V
  pub ◌⊞◌ : V → V → V
  pub assoc : (p q r : V) → ◌⊞◌ (◌⊞◌ p q) r ≡ ◌⊞◌ p (◌⊞◌ q r)
  pub comm : (p q : V) → ◌⊞◌ p q ≡ ◌⊞◌ q p
  pub self : (p : V) → ◌⊞◌ p p ≡ none
  pub nil : (p : V) → ◌⊞◌ none p ≡ p

-- the operations on scalars F and packets V
pub record Ops (F V : Type 0) : Type 0 where
  pub ◌·◌ : F → V → V
  pub ◌⊕◌ : F → F → F
  pub ◌⊗◌ : F → F → F
  pub one : F
  pub inv : F → F

-- their laws, for the scalars that are Ok, elements of the field, and Nz, nonzero elements
pub record Laws {F V : Type 0} (G : Xor V) (O : Ops F V) (Ok Nz : F → Type 0) : Type 0 where
  pub act_add : (a : F) (p q : V) → O.◌·◌ a (G.◌⊞◌ p q) ≡ G.◌⊞◌ (O.◌·◌ a p) (O.◌·◌ a q)
  pub act_xor : (a b : F) (p : V) → Ok a → Ok b → O.◌·◌ (O.◌⊕◌ a b) p ≡ G.◌⊞◌ (O.◌·◌ a p) (O.◌·◌ b p)
  pub act_mul : (a b : F) (p : V) → Ok a → Ok b → O.◌·◌ (O.◌⊗◌ a b) p ≡ O.◌·◌ a (O.◌·◌ b p)
  pub act_comm : (a b : F) (p : V) → Ok a → Ok b → O.◌·◌ a (O.◌·◌ b p) ≡ O.◌·◌ b (O.◌·◌ a p)
  pub act_one : (p : V) → O.◌·◌ O.one p ≡ p
  pub act_inv : (a : F) (p : V) → Nz a → O.◌·◌ (O.inv a) (O.◌·◌ a p) ≡ p
  pub ok_one : Ok O.one
  pub ok_xor : (a b : F) → Ok a → Ok b → Ok (O.◌⊕◌ a b)
  pub ok_mul : (a b : F) → Ok a → Ok b → Ok (O.◌⊗◌ a b)
  pub ok_inv : (a : F) → Nz a → Ok (O.inv a)
  pub nz_one : Nz O.one
  pub nz_mul : (a b : F) → Nz a → Nz b → Nz (O.◌⊗◌ a b)

module _ {V : Type 0} (G : Xor V) where
  open G use {◌⊞◌, none}

  infixl 60 ◌⊞◌
  -- f 0 ⊞ .. ⊞ f (n - 1)
  unfoldable pub sum : ℕ → (ℕ → V) → V
  sum zero f = none
  sum (suc n) f = sum n f ⊞ f n

module _ {F V : Type 0} (O : Ops F V) where
  open O use {◌⊕◌, ◌⊗◌, one}

  infixl 60 ◌⊕◌
  infixl 70 ◌⊗◌
  -- y to the power k
  unfoldable pub pow : F → ℕ → F
  pow y zero = one
  pow y (suc k) = y ⊗ pow y k

  -- the product of y ⊕ x s over s in j .. j + k - 1
  unfoldable pub gap : (ℕ → F) → ℕ → ℕ → F → F
  gap x j zero y = one
  gap x j (suc k) y = (y ⊕ x (j + k)) ⊗ gap x j k y

  -- the product of y ⊕ x s over s in 0 .. m - 1
  abbrev pub newton : (ℕ → F) → ℕ → F → F
  newton x m y = gap x 0 m y

  -- the coefficient of node y in entry m after j stages of the forward loop
  unfoldable pub coef : (ℕ → F) → ℕ → ℕ → F → F
  coef x j m y = pow y (m - j) ⊗ newton x (min j m) y

module _ {F V : Type 0} (G : Xor V) (O : Ops F V) where
  open O use {◌·◌}

  infixr 80 ◌·◌
  -- entry m after j stages, for the packets I at the nodes x 0 .. x (t - 1)
  unfoldable pub form : (ℕ → F) → ℕ → ℕ → (ℕ → V) → ℕ → V
  form x t j I m = sum G t (λ s. coef O x j m (x s) · I s)

  -- entry m after the forward loop, of the first n nodes
  unfoldable pub tri : (ℕ → F) → ℕ → (ℕ → V) → ℕ → V
  tri x n I m = sum G n (λ s. newton O x m (x s) · I s)

  -- sum number m of the packets I at the nodes x 0 .. x (t - 1)
  unfoldable pub vander : (ℕ → F) → ℕ → (ℕ → V) → ℕ → V
  vander x t I m = sum G t (λ s. pow O (x s) m · I s)
