-- The steps of the solver's loops keep the solutions of a system, and a system with pairwise different nodes has exactly one solution.
use Rattle.std.proofs.Common.{◌≡◌, ℕ, zero, suc, ◌+◌, ◌-◌, ◌<◌, ◌≤◌, ◌↔◌, sym, refl, ap, ◌∙◌, add-suc, arith}
use mathlib.Core.Logic.Iff
use native.Mathlib.Decide.{dec_lt}
use Rattle.algebra.specs.Loops.{Sys, till, staged, found, taking, Added, Scaled, theta, Apart}
use Rattle.algebra.specs.Laws.{Xor, Ops, Laws, form, tri, vander}
use Rattle.algebra.proofs.Sums.{till_lo, till_hi, sys_right, added_iff, scaled_iff, upd_added, upd_scaled}
use Rattle.algebra.proofs.Coef.{form_zero, form_low, form_full, form_next, tri_last, tri_back, tri_out, theta_undo, gap_zero}

module _ {F V : Type 0} {G : Xor V} {O : Ops F V} {Ok Nz : F → Type 0} (L : Laws G O Ok Nz) (x : ℕ → F) (ox : (s : ℕ) → Ok (x s)) where
  open G use {◌⊞◌}
  open O use {◌·◌}

  infixl 60 ◌⊞◌
  infixr 80 ◌·◌
  -- from B above entry i + 1 to B above entry i
  till_added : (t : ℕ) (a : F) (i : ℕ) (A B : ℕ → V) → B (suc i) ≡ A (suc i) ⊞ a · A i
      → Added G O t a (suc i) i (till (suc (suc i)) A B) (till (suc i) A B)
  till_added t a i A B h = record {
    at = rw (till_hi (suc i) A B (suc i) (omega arith), till_lo (suc (suc i)) A B (suc i) (omega arith), till_lo (suc (suc i)) A B i (omega arith)) h;
    off = λ m _ q. elim (dec_lt m (suc i)) [
      | yes l ↦ till_lo (suc i) A B m l ∙ sym (till_lo (suc (suc i)) A B m (omega arith))
      | no l ↦ till_hi (suc i) A B m (omega arith) ∙ sym (till_hi (suc (suc i)) A B m (omega arith))
    ];
  }

  -- one step of the forward loop
  pub staged_step : (t j k : ℕ) → suc (j + k) < t → (S S' I : ℕ → V) → Added G O t (x j) (suc (j + k)) (j + k) S S'
      → Sys t S (staged G O x t j (suc k) I) ↔ Sys t S' (staged G O x t j k I)
  unfolding staged
  staged_step t j k h S S' I d =
      added_iff L t (x j) (suc (j + k)) (j + k) (λ q. omega arith) (omega arith) S S' _ _ d
      (rw (add-suc j k) (till_added t (x j) (j + k) _ _ (form_next L x ox t j k I)))

  -- a stage begins with the entries after j stages
  pub staged_first : (t j k : ℕ) (I : ℕ → V) → t ≤ suc (j + k) → Sys t (form G O x t j I) (staged G O x t j k I)
  unfolding staged
  staged_first t j k I h m l = sym (till_lo _ _ _ m (omega arith))

  -- .. and ends with the entries after j + 1 stages
  pub staged_last : (t j : ℕ) (I : ℕ → V) → Sys t (staged G O x t j 0 I) (form G O x t (suc j) I)
  unfolding staged
  staged_last t j I m l = elim (dec_lt m (suc (j + 0))) [
    | yes q ↦ till_lo _ _ _ m q ∙ sym (form_low L x ox t j I m (omega arith))
    | no q ↦ till_hi _ _ _ m (omega arith)
  ]

  found_lo : (n : ℕ) (I : ℕ → V) (m : ℕ) → m ≤ n → found G O x n I m ≡ tri G O x (suc n) I m
  unfolding found
  found_lo n I m h = till_lo _ _ _ m (omega arith)

  found_hi : (n : ℕ) (I : ℕ → V) (m : ℕ) → n < m → found G O x n I m ≡ I m
  unfolding found
  found_hi n I m h = till_hi _ _ _ m h

  taking_lo : (n j : ℕ) (I : ℕ → V) (m : ℕ) → m < j → taking G O x n j I m ≡ tri G O x n I m
  unfolding taking
  taking_lo n j I m h = till_lo _ _ _ m h

  taking_hi : (n j : ℕ) (I : ℕ → V) (m : ℕ) → j ≤ m → taking G O x n j I m ≡ found G O x n I m
  unfolding taking
  taking_hi n j I m h = till_hi _ _ _ m h

  -- one step of the backward loop: packet n taken out of entry j
  pub taking_step : (t n j : ℕ) → Apart O Nz x t → j < n → n < t → (S S' I : ℕ → V) → Added G O t (theta O x n j) j n S S'
      → Sys t S (taking G O x n j I) ↔ Sys t S' (taking G O x n (suc j) I)
  taking_step t n j d h l S S' I e =
      added_iff L t (theta O x n j) j n (λ q. omega arith) l S S' _ _ e
      (record {
        at = taking_lo n (suc j) I j (omega arith) ∙ tri_back L x ox t d n l j I (omega arith)
            ∙ sym (rw (taking_hi n j I j (omega arith), taking_hi n j I n (omega arith), found_lo n I j (omega arith), found_lo n I n (omega arith)));
        off = λ m _ q. elim (dec_lt m j) [
          | yes k ↦ taking_lo n (suc j) I m (omega arith) ∙ sym (taking_lo n j I m k)
          | no k ↦ taking_hi n (suc j) I m (omega arith) ∙ sym (taking_hi n j I m (omega arith))
        ];
      })

  -- packet n + 1 found in its entry
  pub taken_step : (t n : ℕ) → Apart O Nz x t → suc n < t → (S S' I : ℕ → V) → Scaled G O t (theta O x (suc n) 0) (suc n) S S'
      → Sys t S (taking G O x (suc n) (suc n) I) ↔ Sys t S' (found G O x n I)
  taken_step t n d l S S' I e =
      scaled_iff L t _ _ (suc n) (theta_undo L x ox t d (suc n) l 0 (omega arith)) S S' _ _ e
      (record {
        at = found_hi n I (suc n) (omega arith) ∙ tri_out L x ox t d (suc n) l I
            ∙ sym (rw (taking_hi (suc n) (suc n) I (suc n) (omega arith), found_lo (suc n) I (suc n) (omega arith)));
        off = λ m _ q. elim (dec_lt m (suc n)) [
          | yes k ↦ found_lo n I m (omega arith) ∙ sym (taking_lo (suc n) (suc n) I m k)
          | no k ↦ found_hi n I m (omega arith) ∙ sym (taking_hi (suc n) (suc n) I m (omega arith) ∙ found_hi (suc n) I m (omega arith))
        ];
      })

  -- at the end all packets are found
  pub found_all : (t : ℕ) (I : ℕ → V) → Sys t (found G O x 0 I) I
  found_all t I m l = elim (dec_lt m 1) [
    | yes k ↦ let z : m ≡ 0 = omega arith in rw z (found_lo 0 I 0 (omega arith) ∙ tri_last L x ox 0 I ∙ gap_zero L x ox 0 _ _)
    | no k ↦ found_hi 0 I m (omega arith)
  ]

  -- the backward loop begins with the entries after the forward loop
  pub found_tri : (t n : ℕ) (I : ℕ → V) → t ≡ suc n → Sys t (tri G O x t I) (found G O x n I)
  found_tri t n I e m l = ap (λ u. tri G O x u I m) e ∙ sym (found_lo n I m (omega arith))

  pub found_first : (u : ℕ) (I : ℕ → V) → Sys (suc u) (form G O x (suc u) u I) (found G O x u I)
  found_first u I m l = form_full L x ox (suc u) u I m (omega arith) ∙ found_tri (suc u) u I refl m l

  -- before packet n is taken out of any entry
  pub taking_none : (t n : ℕ) (I : ℕ → V) → Sys t (found G O x n I) (taking G O x n 0 I)
  taking_none t n I m _ = sym (taking_hi n 0 I m (omega arith))

  -- each system S = A I has the solutions of some system S' = B I
  abbrev Reduces : ℕ → ((ℕ → V) → ℕ → V) → ((ℕ → V) → ℕ → V) → Type 0
  Reduces t A B = (S : ℕ → V) → (S' : ℕ → V) × ((I : ℕ → V) → Sys t S (A I) ↔ Sys t S' (B I))

  reduces_trans : (t : ℕ) (A B C : (ℕ → V) → ℕ → V) → Reduces t A B → Reduces t B C → Reduces t A C
  reduces_trans t A B C f g S = ((g (f S).0).0, λ I. Iff.trans ((f S).1 I) ((g (f S).0).1 I))

  reduces_same : (t : ℕ) (A B : (ℕ → V) → ℕ → V) → ((I : ℕ → V) → Sys t (A I) (B I)) → Reduces t A B
  reduces_same t A B h S = (S, λ I. sys_right t S _ _ (h I))

  -- one stage of the forward loop
  stage : (t j k : ℕ) → j + k < t → Reduces t (staged G O x t j k) (staged G O x t j 0)
  stage t j zero h S = (S, λ I. Iff.rfl)
  stage t j (suc k) h S =
      reduces_trans t _ _ _ (λ S. (_, λ I. staged_step t j k (omega arith) S _ I (upd_added L t (x j) (suc (j + k)) (j + k) S))) (stage t j k (omega arith)) S

  forward : (u j : ℕ) → j ≤ u → Reduces (suc u) (vander G O x (suc u)) (form G O x (suc u) j)
  forward u zero h = reduces_same (suc u) _ _ (λ I m _. sym (form_zero L x ox (suc u) I m))
  forward u (suc j) h =
      reduces_trans (suc u) _ _ _ (forward u j (omega arith))
      (reduces_trans (suc u) _ _ _ (reduces_same (suc u) _ _ (λ I. staged_first (suc u) j (u - j) I (omega arith)))
      (reduces_trans (suc u) _ _ _ (stage (suc u) j (u - j) (omega arith)) (reduces_same (suc u) _ _ (staged_last (suc u) j))))

  module _ (t : ℕ) (d : Apart O Nz x t) where
    -- packet n taken out of the entries below j
    take_out : (n j : ℕ) → j ≤ n → n < t → Reduces t (found G O x n) (taking G O x n j)
    take_out n zero h l = reduces_same t _ _ (taking_none t n)
    take_out n (suc j) h l =
        reduces_trans t _ _ _ (take_out n j (omega arith) l) (λ S. (_, λ I. taking_step t n j d h l S _ I (upd_added L t (theta O x n j) j n S)))

    backward : (n : ℕ) → n < t → Reduces t (found G O x n) (λ I. I)
    backward zero l = reduces_same t _ _ (found_all t)
    backward (suc n) l =
        reduces_trans t _ _ _ (take_out (suc n) (suc n) (omega arith) l)
        (reduces_trans t _ _ _ (λ S. (_, λ I. taken_step t n d l S _ I (upd_scaled L t (theta O x (suc n) 0) (suc n) S))) (backward n (omega arith)))

  -- a system with pairwise different nodes has exactly one solution
  pub solution : (t : ℕ) → Apart O Nz x t → (S : ℕ → V) → (I : ℕ → V) × ((J : ℕ → V) → Sys t S (vander G O x t J) ↔ Sys t I J)
  solution zero d S = (S, λ J. (λ _ m l. absurd (omega arith), λ _ m l. absurd (omega arith)))
  solution (suc u) d S =
      reduces_trans (suc u) _ _ _ (forward u u (omega arith))
      (reduces_trans (suc u) _ _ _ (reduces_same (suc u) _ _ (found_first u)) (backward (suc u) d u (omega arith))) S
