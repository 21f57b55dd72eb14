-- A sum over all positions, split at the lost positions p 0 .. p (t - 1).
use Rattle.std.proofs.Common.{◌≡◌, ℕ, zero, suc, ◌*◌, ◌<◌, false, cond, sym, refl, ap, ◌∙◌, subst, ap₂, inl, inr, arith}
use native.Mathlib.Decide.{ℕ_discrete}
use lib.Bits.{bit_xor}
use Rattle.galois.specs.Field.{power}
use Rattle.algebra.specs.Code.{Code, Block, SamePacket, ZeroPacket, xors, scaled, syndrome, among}
use Rattle.algebra.specs.Laws.{Xor, sum}
use Rattle.algebra.specs.Loops.{upd}
use Rattle.algebra.specs.Packets.{words}
use Rattle.algebra.proofs.Sums.{upd_at, upd_off, nil_right, sum_zero, sum_suc, sum_ext, sum_add, sum_one}
use Rattle.algebra.proofs.Marks.{Rising, Below, two, true_false, among_find, among_next, among_skip, among_at}
use Rattle.algebra.proofs.Words.{xors_sum, scaled_same, scaled_zero}

module _ {V : Type 0} (G : Xor V) where
  open G use {◌⊞◌, none, assoc, comm, nil}

  infixl 60 ◌⊞◌
  -- a sum, split at position i
  split_one : (n i : ℕ) (f : ℕ → V) → i < n → sum G n f ≡ sum G n (upd f i none) ⊞ f i
  split_one n i f h =
      let g : ℕ → V = upd (λ q. none) i (f i) in
      let at : (q : ℕ) → f q ≡ upd f i none q ⊞ g q = λ q. elim (ℕ_discrete q i) [
        | yes z ↦ rw (z, upd_at f i none, upd_at (λ q. none) i (f i)) (sym (nil (f i)))
        | no z ↦ rw (upd_off f i none q z, upd_off (λ q. none) i (f i) q z) (sym (nil_right G (f q)))
      ] in
      sum_ext G n f _ (λ q _. at q) ∙ sum_add G n _ _
      ∙ ap (λ u. sum G n (upd f i none) ⊞ u) (sum_one G n i g h (λ q _ z. upd_off (λ q. none) i (f i) q (λ e. z (sym e))) ∙ upd_at (λ q. none) i (f i))

  -- a sum is that of the other positions plus that of the lost ones
  pub split : (n : ℕ) (f : ℕ → V) (p : ℕ → ℕ) (t : ℕ) → Rising p t → Below p t n
      → sum G n f ≡ sum G n (λ q. cond (among p t q) none (f q)) ⊞ sum G t (λ s. f (p s))
  unfolding among upd
  split n f p zero up lo = rw (sum_zero G (λ s. f (p s))) (sym (nil_right G (sum G n f)))
  split n f p (suc t) up lo =
      let A : ℕ → V = λ q. cond (among p t q) none (f q) in
      let B : ℕ → V = λ q. cond (among p (suc t) q) none (f q) in
      let T : V = sum G t (λ s. f (p s)) in
      let at : A (p t) ≡ f (p t) = ap (λ b. cond b none (f (p t))) (among_next p t up) in
      let rest : (q : ℕ) → upd A (p t) none q ≡ B q = λ q. grind arith in
      split n f p t (λ i j a b. up i j a (omega arith)) (λ s l. lo s (omega arith))
      ∙ ap (λ u. u ⊞ T) (split_one n (p t) A (lo t (omega arith)) ∙ ap₂ ◌⊞◌ (sum_ext G n _ B (λ q _. rest q)) at)
      ∙ assoc (sum G n B) (f (p t)) T
      ∙ ap (λ u. sum G n B ⊞ u) (comm (f (p t)) T ∙ sym (sum_suc G t (λ s. f (p s))))

-- the sums of a block are those of the packets that are left plus those of the lost ones
pub syndrome_split : (C : Code) (b z : Block) (p : ℕ → ℕ) (t : ℕ) → Rising p t → Below p t C.positions
    → ((q : ℕ) → q < C.positions → among p t q ≡ false → SamePacket C (z q) (b q))
    → ((s : ℕ) → s < t → ZeroPacket C (z (p s)))
    → (μ i c : ℕ) → c < C.words
    → syndrome C b μ i c ≡ bit_xor (syndrome C z μ i c) (xors t (λ s. scaled C (power C.product 2 (μ * p s)) (b (p s)) i c))
unfolding syndrome
syndrome_split C b z p t up lo same gone μ i c l =
    let a : ℕ → ℕ = λ q. power C.product 2 (μ * q) in
    let f : ℕ → ℕ = λ q. scaled C (a q) (b q) i c in
    let left : (q : ℕ) → q < C.positions → cond (among p t q) 0 (f q) ≡ scaled C (a q) (z q) i c = λ q h. elim (two (among p t q)) [
      | inl e ↦
          let s = among_find p t q e in
          rw e (sym (scaled_zero C (a q) (z q) (subst (λ u. ZeroPacket C (z u)) s.2 (gone s.0 s.1)) i c l))
      | inr e ↦ rw e (sym (scaled_same C (a q) (z q) (b q) (same q h e) i c l))
    ] in
    xors_sum C.positions f ∙ split words C.positions f p t up lo
    ∙ ap₂ bit_xor (sum_ext words C.positions _ _ left ∙ sym (xors_sum C.positions _)) (sym (xors_sum t (λ s. f (p s))))

-- g with I s at position p s
unfoldable pub put : {V : Type 0} → (ℕ → ℕ) → ℕ → (ℕ → V) → (ℕ → V) → ℕ → V
put p zero I g = g
put p (suc t) I g = upd (put p t I g) (p t) (I t)

module _ {V : Type 0} (p : ℕ → ℕ) (I g : ℕ → V) where
  -- what stands at position p s
  pub put_at : (t s : ℕ) → Rising p t → s < t → put p t I g (p s) ≡ I s
  unfolding put
  put_at zero s up h = absurd (omega arith)
  put_at (suc t) s up h = elim (ℕ_discrete s t) [
    | yes q ↦ rw q (upd_at (put p t I g) (p t) (I t))
    | no q ↦
        upd_off (put p t I g) (p t) (I t) (p s) (λ e. let k = up s t (omega arith) (omega arith) in omega arith)
        ∙ put_at t s (λ i j a b. up i j a (omega arith)) (omega arith)
  ]

  -- what stands at the other positions
  pub put_off : (t q : ℕ) → among p t q ≡ false → put p t I g q ≡ g q
  unfolding put
  put_off zero q e = refl
  put_off (suc t) q e =
      let n : q ≡ p t → ⊥ = λ z. true_false _ (ap (among p (suc t)) z ∙ among_at p (suc t) t (omega arith)) e in
      upd_off (put p t I g) (p t) (I t) q n ∙ put_off t q (sym (among_skip p t q n) ∙ e)
