-- The states of the solver's loops over an XOR group.
use Rattle.std.specs.Prelude.{◌≡◌, ℕ, suc, ◌+◌, ◌-◌, ◌<◌, cond, ◌==◌, ◌≢◌, nat_lt}
use Rattle.algebra.specs.Laws.{Xor, Ops, gap, form, tri}

-- two families that agree below t
abbrev pub Sys : {V : Type 0} → ℕ → (ℕ → V) → (ℕ → V) → Type 0
Sys t S T = (m : ℕ) → m < t → S m ≡ T m

-- S with v at i
unfoldable pub upd : {V : Type 0} → (ℕ → V) → ℕ → V → ℕ → V
upd S i v m = cond (m == i) v (S m)

-- A below k, and B from k on
unfoldable pub till : {V : Type 0} → ℕ → (ℕ → V) → (ℕ → V) → ℕ → V
till k A B m = cond (nat_lt m k) (A m) (B m)

-- the factor of entry j in the step back of node n
unfoldable pub theta : {F V : Type 0} → Ops F V → (ℕ → F) → ℕ → ℕ → F
theta O x n j = O.inv (gap O x j (n - j) (x n))

-- the nodes below t are pairwise different
abbrev pub Apart : {F V : Type 0} → Ops F V → (F → Type 0) → (ℕ → F) → ℕ → Type 0
Apart O Nz x t = (s n : ℕ) → s < n → n < t → Nz (O.◌⊕◌ (x n) (x s))

module _ {F V : Type 0} (G : Xor V) (O : Ops F V) where
  open G use {◌⊞◌}
  open O use {◌·◌}

  infixl 60 ◌⊞◌
  infixr 80 ◌·◌
  -- S' is S with a times entry k added to entry i
  pub record Added (t : ℕ) (a : F) (i k : ℕ) (S S' : ℕ → V) : Type 0 where
    pub at : S' i ≡ S i ⊞ a · S k
    pub off : (m : ℕ) → m < t → (m ≢ i) → S' m ≡ S m

  -- S' is S with entry i multiplied by a
  pub record Scaled (t : ℕ) (a : F) (i : ℕ) (S S' : ℕ → V) : Type 0 where
    pub at : S' i ≡ a · S i
    pub off : (m : ℕ) → m < t → (m ≢ i) → S' m ≡ S m

module _ {F V : Type 0} (G : Xor V) (O : Ops F V) (x : ℕ → F) where
  -- the state of the forward loop in its stage j, with entries above j + k done
  unfoldable pub staged : ℕ → ℕ → ℕ → (ℕ → V) → ℕ → V
  staged t j k I = till (suc (j + k)) (form G O x t j I) (form G O x t (suc j) I)

  -- the state of the backward loop, with the packets above n found
  unfoldable pub found : ℕ → (ℕ → V) → ℕ → V
  found n I = till (suc n) (tri G O x (suc n) I) I

  -- .. and packet n taken out of the entries below j
  unfoldable pub taking : ℕ → ℕ → (ℕ → V) → ℕ → V
  taking n j I = till j (tri G O x n I) (found n I)
