-- The entries of the system after each stage of the solver.
use Rattle.std.proofs.Common.{◌≡◌, ℕ, zero, suc, ◌+◌, ◌-◌, ◌<◌, ◌≤◌, min, sym, refl, ap, ◌∙◌, ap₂, add-zero, add-suc, zero-add, arith}
use native.Mathlib.Decide.{ℕ_discrete}
use Rattle.algebra.specs.Loops.{theta, Apart}
use Rattle.algebra.specs.Laws.{Xor, Ops, Laws, pow, gap, newton, coef, form, tri, vander}
use Rattle.algebra.proofs.Sums.{nil_right, act_none, sum_suc, sum_ext, sum_none, sum_add, sum_act}

module _ {F V : Type 0} {G : Xor V} {O : Ops F V} {Ok Nz : F → Type 0} (L : Laws G O Ok Nz) (x : ℕ → F) (ox : (s : ℕ) → Ok (x s)) where
  open G use {◌⊞◌, none, assoc, self, nil}
  open O use {◌·◌, ◌⊕◌, ◌⊗◌, inv}
  open L use {act_add, act_xor, act_mul, act_comm, act_one, act_inv, ok_one, ok_xor, ok_mul, ok_inv, nz_one, nz_mul}

  infixl 60 ◌⊞◌
  infixr 80 ◌·◌
  infixl 60 ◌⊕◌
  infixl 70 ◌⊗◌
  pow_ok : (y : F) (k : ℕ) → Ok y → Ok (pow O y k)
  unfolding pow
  pow_ok y zero o = ok_one
  pow_ok y (suc k) o = ok_mul _ _ o (pow_ok y k o)

  gap_ok : (j k : ℕ) (y : F) → Ok y → Ok (gap O x j k y)
  unfolding gap
  gap_ok j zero y o = ok_one
  gap_ok j (suc k) y o = ok_mul _ _ (ok_xor _ _ o (ox (j + k))) (gap_ok j k y o)

  pow_zero : (y : F) (p : V) → pow O y 0 · p ≡ p
  unfolding pow
  pow_zero y p = act_one p

  pow_suc : (y : F) (k : ℕ) (p : V) → Ok y → pow O y (suc k) · p ≡ y · pow O y k · p
  unfolding pow
  pow_suc y k p o = act_mul y (pow O y k) p o (pow_ok y k o)

  pub gap_zero : (j : ℕ) (y : F) (p : V) → gap O x j 0 y · p ≡ p
  unfolding gap
  gap_zero j y p = act_one p

  gap_suc : (j k : ℕ) (y : F) (p : V) → Ok y → gap O x j (suc k) y · p ≡ y · gap O x j k y · p ⊞ x (j + k) · gap O x j k y · p
  unfolding gap
  gap_suc j k y p o = act_mul _ _ p (ok_xor _ _ o (ox (j + k))) (gap_ok j k y o) ∙ act_xor y (x (j + k)) _ o (ox (j + k))

  newton_suc : (m : ℕ) (y : F) (p : V) → Ok y → newton O x (suc m) y · p ≡ y · newton O x m y · p ⊞ x m · newton O x m y · p
  newton_suc m y p o = rw zero-add at (gap_suc 0 m y p o)

  -- a product over j + k nodes is one over the first j times one over the next k
  newton_split : (j k : ℕ) (y : F) (p : V) → Ok y → newton O x (j + k) y · p ≡ gap O x j k y · newton O x j y · p
  newton_split j zero y p o = rw (add-zero j, gap_zero)
  newton_split j (suc k) y p o = rw (add-suc j k, newton_suc (j + k) y p o, gap_suc j k y (newton O x j y · p) o, newton_split j k y p o)

  -- at a node among the first m, the product is zero
  newton_node : (m s : ℕ) (p : V) → s < m → newton O x m (x s) · p ≡ none
  newton_node zero s p h = absurd (omega arith)
  newton_node (suc m) s p h = elim (ℕ_discrete s m) [
    | yes q ↦ rw q (newton_suc m (x m) p (ox m) ∙ self _)
    | no q ↦ rw (newton_suc m (x s) p (ox s), newton_node m s p (omega arith), act_none L (x s), act_none L (x m)) (nil none)
  ]

  gap_nz : (j k : ℕ) (y : F) → ((s : ℕ) → j ≤ s → s < j + k → Nz (y ⊕ x s)) → Nz (gap O x j k y)
  unfolding gap
  gap_nz j zero y h = nz_one
  gap_nz j (suc k) y h = nz_mul _ _ (h (j + k) (omega arith) (omega arith)) (gap_nz j k y (λ s a b. h s a (omega arith)))

  coef_is : (j m : ℕ) (y : F) (a b : ℕ) (p : V) → Ok y → m - j ≡ a → min j m ≡ b → coef O x j m y · p ≡ pow O y a · newton O x b y · p
  unfolding coef
  coef_is j m y a b p o e f = ap₂ (λ u v. (pow O y u ⊗ newton O x v y) · p) e f ∙ act_mul _ _ p (pow_ok y a o) (gap_ok 0 b y o)

  coef_zero : (m : ℕ) (y : F) (p : V) → Ok y → coef O x 0 m y · p ≡ pow O y m · p
  coef_zero m y p o = rw (coef_is 0 m y m 0 p o (omega arith) (omega arith), gap_zero)

  coef_full : (j m : ℕ) (y : F) (p : V) → Ok y → m ≤ j → coef O x j m y · p ≡ newton O x m y · p
  coef_full j m y p o h = rw (coef_is j m y 0 m p o (omega arith) (omega arith), pow_zero)

  -- the coefficient in entry j + k after j stages
  coef_high : (j m k : ℕ) (y : F) (p : V) → Ok y → m ≡ j + k → coef O x j m y · p ≡ pow O y k · newton O x j y · p
  coef_high j m k y p o h = coef_is j m y k j p o (omega arith) (omega arith)

  -- the coefficients after stage j
  coef_next : (j k : ℕ) (y : F) (p : V) → Ok y
      → coef O x (suc j) (suc (j + k)) y · p ≡ coef O x j (suc (j + k)) y · p ⊞ x j · coef O x j (j + k) y · p
  coef_next j k y p o =
      rw (
        coef_high (suc j) (suc (j + k)) k y p o (omega arith),
        coef_high j (suc (j + k)) (suc k) y p o (omega arith),
        coef_high j (j + k) k y p o refl,
        newton_suc j y p o,
        pow_suc y k (newton O x j y · p) o,
        act_add,
        act_comm (pow O y k) y (newton O x j y · p) (pow_ok y k o) o,
        act_comm (pow O y k) (x j) (newton O x j y · p) (pow_ok y k o) (ox j),
      )

  -- before the first stage, the entries are the sums
  pub form_zero : (t : ℕ) (I : ℕ → V) (m : ℕ) → form G O x t 0 I m ≡ vander G O x t I m
  unfolding form vander
  form_zero t I m = sum_ext G t _ _ (λ s _. coef_zero m (x s) (I s) (ox s))

  -- after stage m, entry m is final
  pub form_full : (t j : ℕ) (I : ℕ → V) (m : ℕ) → m ≤ j → form G O x t j I m ≡ tri G O x t I m
  unfolding form tri
  form_full t j I m h = sum_ext G t _ _ (λ s _. coef_full j m (x s) (I s) (ox s) h)

  -- stage j leaves the entries up to j
  pub form_low : (t j : ℕ) (I : ℕ → V) (m : ℕ) → m ≤ j → form G O x t (suc j) I m ≡ form G O x t j I m
  form_low t j I m h = form_full t (suc j) I m (omega arith) ∙ sym (form_full t j I m h)

  -- stage j adds x j times the entry before to each entry above j
  pub form_next : (t j k : ℕ) (I : ℕ → V)
      → form G O x t (suc j) I (suc (j + k)) ≡ form G O x t j I (suc (j + k)) ⊞ x j · form G O x t j I (j + k)
  unfolding form
  form_next t j k I =
      sum_ext G t _ _ (λ s _. coef_next j k (x s) (I s) (ox s)) ∙ sum_add G t _ _ ∙ ap (λ u. form G O x t j I (suc (j + k)) ⊞ u) (sym (sum_act L t (x j) _))

  tri_suc : (n : ℕ) (I : ℕ → V) (m : ℕ) → tri G O x (suc n) I m ≡ tri G O x n I m ⊞ newton O x m (x n) · I n
  unfolding tri
  tri_suc n I m = sum_suc G n _

  -- the last entry is the last packet alone, times a nonzero factor
  pub tri_last : (n : ℕ) (I : ℕ → V) → tri G O x (suc n) I n ≡ newton O x n (x n) · I n
  unfolding tri
  tri_last n I = sum_suc G n _ ∙ ap (λ u. u ⊞ newton O x n (x n) · I n) (sum_none G n _ (λ s h. newton_node n s (I s) h)) ∙ nil _

  module _ (t : ℕ) (d : Apart O Nz x t) (n : ℕ) (l : n < t) where
    theta_nz : (j : ℕ) → j ≤ n → Nz (gap O x j (n - j) (x n))
    theta_nz j h = gap_nz j (n - j) (x n) (λ s _ b. d s n (omega arith) l)

    theta_back : (j : ℕ) (p : V) → j ≤ n → theta O x n j · newton O x n (x n) · p ≡ newton O x j (x n) · p
    unfolding theta
    theta_back j p h =
        let e : n ≡ j + (n - j) = omega arith in
        ap (λ u. inv (gap O x j (n - j) (x n)) · newton O x u (x n) · p) e
        ∙ ap (λ u. inv (gap O x j (n - j) (x n)) · u) (newton_split j (n - j) (x n) p (ox n))
        ∙ act_inv _ _ (theta_nz j h)

    -- a factor and its inverse
    pub theta_undo : (j : ℕ) → j ≤ n → (p : V) → gap O x j (n - j) (x n) · theta O x n j · p ≡ p
    unfolding theta
    theta_undo j h p = act_comm _ _ p (gap_ok j (n - j) (x n) (ox n)) (ok_inv _ (theta_nz j h)) ∙ act_inv _ p (theta_nz j h)

    -- the last packet taken out of entry j
    pub tri_back : (j : ℕ) (I : ℕ → V) → j ≤ n → tri G O x n I j ≡ tri G O x (suc n) I j ⊞ theta O x n j · tri G O x (suc n) I n
    tri_back j I h = rw (tri_suc n I j, tri_last n I, theta_back j (I n) h) (simp (assoc, self, nil_right G))

    -- the last packet is its factor times the last entry
    pub tri_out : (I : ℕ → V) → I n ≡ theta O x n 0 · tri G O x (suc n) I n
    tri_out I = rw (tri_last n I, theta_back 0 (I n) (omega arith), gap_zero)
