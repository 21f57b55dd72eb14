-- Families with one entry changed, sums over an XOR group, and the two elementary steps on a system.
use Rattle.std.proofs.Common.{◌≡◌, ℕ, zero, suc, ◌<◌, ◌≤◌, ◌↔◌, sym, refl, ap, ◌∙◌, ap₂, arith}
use native.Mathlib.Decide.{ℕ_discrete}
use Rattle.algebra.specs.Loops.{Sys, upd, till, Added, Scaled}
use Rattle.algebra.specs.Laws.{Xor, Ops, Laws, sum}

pub till_lo : {V : Type 0} (k : ℕ) (A B : ℕ → V) (m : ℕ) → m < k → till k A B m ≡ A m
unfolding till
till_lo k A B m h = grind arith

pub till_hi : {V : Type 0} (k : ℕ) (A B : ℕ → V) (m : ℕ) → k ≤ m → till k A B m ≡ B m
unfolding till
till_hi k A B m h = grind arith

pub upd_at : {V : Type 0} (S : ℕ → V) (i : ℕ) (v : V) → upd S i v i ≡ v
unfolding upd
upd_at S i v = grind arith

pub upd_off : {V : Type 0} (S : ℕ → V) (i : ℕ) (v : V) (m : ℕ) → (m ≡ i → ⊥) → upd S i v m ≡ S m
unfolding upd
upd_off S i v m h = grind arith

pub sys_right : {V : Type 0} (t : ℕ) (S G G' : ℕ → V) → Sys t G G' → Sys t S G ↔ Sys t S G'
sys_right t S G G' h = (λ k m l. k m l ∙ h m l, λ k m l. k m l ∙ sym (h m l))

module _ {V : Type 0} (G : Xor V) where
  open G use {◌⊞◌, none, assoc, comm, self, nil}

  infixl 60 ◌⊞◌
  left_comm : (p q r : V) → p ⊞ (q ⊞ r) ≡ q ⊞ (p ⊞ r)
  left_comm p q r = sym (assoc p q r) ∙ ap (λ u. u ⊞ r) (comm p q) ∙ assoc q p r

  pub cancel : (p q : V) → p ⊞ (p ⊞ q) ≡ q
  cancel p q = sym (assoc p p q) ∙ ap (λ u. u ⊞ q) (self p) ∙ nil q

  pub nil_right : (p : V) → p ⊞ none ≡ p
  nil_right p = comm p none ∙ nil p

  pub sum_zero : (f : ℕ → V) → sum G 0 f ≡ none
  unfolding sum
  sum_zero f = refl

  pub sum_suc : (n : ℕ) (f : ℕ → V) → sum G (suc n) f ≡ sum G n f ⊞ f n
  unfolding sum
  sum_suc n f = refl

  pub sum_ext : (n : ℕ) (f g : ℕ → V) → Sys n f g → sum G n f ≡ sum G n g
  sum_ext zero f g h = simp sum_zero
  sum_ext (suc n) f g h = rw (sum_suc n f, sum_suc n g, sum_ext n f g (λ m l. h m (omega arith)), h n (omega arith))

  pub sum_none : (n : ℕ) (f : ℕ → V) → ((m : ℕ) → m < n → f m ≡ none) → sum G n f ≡ none
  sum_none zero f h = sum_zero f
  sum_none (suc n) f h = rw (sum_suc, sum_none n f (λ m l. h m (omega arith)), h n (omega arith)) (nil none)

  pub sum_add : (n : ℕ) (f g : ℕ → V) → sum G n (λ s. f s ⊞ g s) ≡ sum G n f ⊞ sum G n g
  sum_add zero f g = simp (sum_zero, nil)
  sum_add (suc n) f g = simp (sum_suc, sum_add n f g, assoc, comm, left_comm)

  -- the order of a double sum does not matter
  pub sum_swap : (n k : ℕ) (f : ℕ → ℕ → V) → sum G n (λ i. sum G k (λ j. f i j)) ≡ sum G k (λ j. sum G n (λ i. f i j))
  sum_swap zero k f = rw sum_zero (sym (sum_none k _ (λ j _. sum_zero _)))
  sum_swap (suc n) k f = rw (sum_suc n (λ i. sum G k (λ j. f i j)), sum_swap n k f) (sym (sum_ext k _ _ (λ j _. sum_suc n (λ i. f i j)) ∙ sum_add k _ _))

  -- a sum whose terms other than f i are zero
  pub sum_one : (n i : ℕ) (f : ℕ → V) → i < n → ((j : ℕ) → j < n → (i ≡ j → ⊥) → f j ≡ none) → sum G n f ≡ f i
  sum_one zero i f h o = absurd (omega arith)
  sum_one (suc n) i f h o = rw (sum_suc n f) (elim (ℕ_discrete i n) [
    | yes q ↦ rw q (ap (λ u. u ⊞ f n) (sum_none n f (λ j l. o j (omega arith) (λ z. omega arith))) ∙ nil (f n))
    | no q ↦ rw (o n (omega arith) q) (nil_right _ ∙ sum_one n i f (omega arith) (λ j l. o j (omega arith)))
  ])

module _ {F V : Type 0} {G : Xor V} {O : Ops F V} {Ok Nz : F → Type 0} (L : Laws G O Ok Nz) where
  open G use {◌⊞◌, none, assoc, comm, self, nil}
  open O use {◌·◌}
  open L use {act_add}

  infixl 60 ◌⊞◌
  infixr 80 ◌·◌
  pub act_none : (a : F) → a · none ≡ none
  act_none a = ap (λ u. a · u) (sym (self none)) ∙ act_add a none none ∙ self (a · none)

  -- the action of a on a sum
  pub sum_act : (n : ℕ) (a : F) (f : ℕ → V) → a · sum G n f ≡ sum G n (λ s. a · f s)
  sum_act zero a f = simp (sum_zero G, act_none)
  sum_act (suc n) a f = simp (sum_suc G, act_add, sum_act n a f)

  module _ (t : ℕ) (a : F) (i k : ℕ) (apart : i ≡ k → ⊥) (within : k < t) where
    -- the same addition undoes an addition
    added_back : (S S' : ℕ → V) → Added G O t a i k S S' → Added G O t a i k S' S
    added_back S S' d =
        let e = d.at in
        let same : S' k ≡ S k = d.off k within (λ q. apart (sym q)) in
        record {
          at = rw (e, same) (simp (assoc, comm, self, nil));
          off = λ m h q. sym (d.off m h q);
        }

    added_sys : (S S' T T' : ℕ → V) → Added G O t a i k S S' → Added G O t a i k T T' → Sys t S T → Sys t S' T'
    added_sys S S' T T' d e h m l = elim (ℕ_discrete m i) [
      | yes q ↦ rw q (d.at ∙ ap₂ (λ u v. u ⊞ a · v) (h i (rw q at l)) (h k within) ∙ sym e.at)
      | no q ↦ d.off m l q ∙ h m l ∙ sym (e.off m l q)
    ]

    -- a multiple of one equation added to another leaves the solutions as they are
    pub added_iff : (S S' T T' : ℕ → V) → Added G O t a i k S S' → Added G O t a i k T T' → Sys t S T ↔ Sys t S' T'
    added_iff S S' T T' d e = (added_sys S S' T T' d e, added_sys S' S T' T (added_back S S' d) (added_back T T' e))

  scaled_back : (t : ℕ) (a b : F) (i : ℕ) → ((p : V) → b · a · p ≡ p) → (S S' : ℕ → V) → Scaled G O t a i S S' → Scaled G O t b i S' S
  scaled_back t a b i undo S S' d = record {
    at = rw d.at (sym (undo (S i)));
    off = λ m h q. sym (d.off m h q);
  }

  scaled_sys : (t : ℕ) (a : F) (i : ℕ) (S S' T T' : ℕ → V) → Scaled G O t a i S S' → Scaled G O t a i T T' → Sys t S T → Sys t S' T'
  scaled_sys t a i S S' T T' d e h m l = elim (ℕ_discrete m i) [
    | yes q ↦ rw q (d.at ∙ ap (λ u. a · u) (h i (rw q at l)) ∙ sym e.at)
    | no q ↦ d.off m l q ∙ h m l ∙ sym (e.off m l q)
  ]

  -- an equation multiplied by an invertible scalar leaves the solutions as they are
  pub scaled_iff : (t : ℕ) (a b : F) (i : ℕ) → ((p : V) → b · a · p ≡ p) → (S S' T T' : ℕ → V) → Scaled G O t a i S S' → Scaled G O t a i T T' → Sys t S T ↔ Sys t S' T'
  scaled_iff t a b i undo S S' T T' d e =
      (scaled_sys t a i S S' T T' d e, scaled_sys t b i S' S T' T (scaled_back t a b i undo S S' d) (scaled_back t a b i undo T T' e))

  pub upd_added : (t : ℕ) (a : F) (i k : ℕ) (S : ℕ → V) → Added G O t a i k S (upd S i (S i ⊞ a · S k))
  upd_added t a i k S = record { at = upd_at S i _; off = λ m _ q. upd_off S i _ m q }

  pub upd_scaled : (t : ℕ) (a : F) (i : ℕ) (S : ℕ → V) → Scaled G O t a i S (upd S i (a · S i))
  upd_scaled t a i S = record { at = upd_at S i _; off = λ m _ q. upd_off S i _ m q }
