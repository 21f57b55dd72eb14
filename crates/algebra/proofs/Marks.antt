-- Marked positions: how many there are, and the marked positions in ascending order.
use Rattle.std.proofs.Common.{◌≡◌, ℕ, zero, suc, ◌+◌, ◌-◌, ◌<◌, ◌≤◌, Bool, true, false, cond, not, ◌⊎◌, sym, refl, ap, ◌∙◌, ap₂, inl, inr, arith}
use native.Mathlib.Decide.{ℕ_discrete}
use Rattle.algebra.specs.Code.{count, among}
use Rattle.algebra.specs.Loops.{upd}
use Rattle.algebra.proofs.Sums.{upd_at, upd_off}

pub two : (b : Bool) → (b ≡ true) ⊎ (b ≡ false)
two true = inl refl
two false = inr refl

pub true_false : {A : Type 0} (b : Bool) → b ≡ true → b ≡ false → A
true_false b e f = absurd (let z : ◌≡◌ {A = ℕ} 0 1 = cc in omega arith)

module _ (f : ℕ → Bool) where
  count_zero : count f 0 ≡ 0
  unfolding count
  count_zero = refl

  count_yes : (n : ℕ) → f n ≡ true → count f (suc n) ≡ suc (count f n)
  unfolding count
  count_yes n e = ap (λ b. cond b (suc (count f n)) (count f n)) e

  count_no : (n : ℕ) → f n ≡ false → count f (suc n) ≡ count f n
  unfolding count
  count_no n e = ap (λ b. cond b (suc (count f n)) (count f n)) e

  -- each position is marked or not
  pub count_not : (n : ℕ) → count f n + count (λ q. not (f q)) n ≡ n
  unfolding count
  count_not zero = refl
  count_not (suc n) =
      let ih = count_not n in
      elim (two (f n)) [
        | inl e ↦ rw e (omega arith)
        | inr e ↦ rw e (omega arith)
      ]

  count_none : (n : ℕ) → ((q : ℕ) → q < n → f q ≡ false) → count f n ≡ 0
  count_none zero h = count_zero
  count_none (suc n) h = count_no n (h n (omega arith)) ∙ count_none n (λ q l. h q (omega arith))

  -- if fewer than n are marked, some position is not
  pub unmarked : (n : ℕ) → count f n < n → (q : ℕ) × (q < n) × (f q ≡ false)
  unmarked zero h = absurd (omega arith)
  unmarked (suc n) h = elim (two (f n)) [
    | inr e ↦ (n, omega arith, e)
    | inl e ↦ let c = count_yes n e in let u = unmarked n (omega arith) in (u.0, omega arith, u.2)
  ]

pub count_ext : (f g : ℕ → Bool) (n : ℕ) → ((q : ℕ) → q < n → f q ≡ g q) → count f n ≡ count g n
unfolding count
count_ext f g zero h = refl
count_ext f g (suc n) h = ap₂ (λ b k. cond b (suc k) k) (h n (omega arith)) (count_ext f g n (λ q l. h q (omega arith)))

-- one more marked position
pub count_mark : (f : ℕ → Bool) (i n : ℕ) → i < n → f i ≡ false → count (upd f i true) n ≡ suc (count f n)
count_mark f i zero h e = absurd (omega arith)
count_mark f i (suc n) h e = elim (ℕ_discrete i n) [
  | yes q ↦
      count_yes (upd f i true) n (ap (upd f i true) (sym q) ∙ upd_at f i true)
      ∙ ap suc (count_ext _ f n (λ k l. upd_off f i true k (λ z. omega arith)) ∙ sym (count_no f n (ap f (sym q) ∙ e)))
  | no q ↦
      let ih = count_mark f i n (omega arith) e in
      let same : upd f i true n ≡ f n = upd_off f i true n (λ z. q (sym z)) in
      elim (two (f n)) [
        | inl d ↦ let a = count_yes f n d in let b = count_yes (upd f i true) n (same ∙ d) in omega arith
        | inr d ↦ let a = count_no f n d in let b = count_no (upd f i true) n (same ∙ d) in omega arith
      ]
]

pub marked_still : (f : ℕ → Bool) (i q : ℕ) → f q ≡ true → upd f i true q ≡ true
marked_still f i q e = elim (ℕ_discrete q i) [ yes z ↦ rw z (upd_at f i true) | no z ↦ upd_off f i true q z ∙ e ]

-- d more marked positions
pub mark_more : (n d : ℕ) (f : ℕ → Bool) → count f n + d ≤ n → (g : ℕ → Bool) × (count g n ≡ count f n + d) × ((q : ℕ) → f q ≡ true → g q ≡ true)
mark_more n zero f h = (f, omega arith, λ q e. e)
mark_more n (suc d) f h =
    let u = unmarked f n (omega arith) in
    let c = count_mark f u.0 n u.1 u.2 in
    let r = mark_more n d (upd f u.0 true) (omega arith) in
    (r.0, omega arith, λ q e. r.2 q (marked_still f u.0 q e))

-- p 0 .. p (t - 1) ascend
abbrev pub Rising : (ℕ → ℕ) → ℕ → Type 0
Rising p t = (i j : ℕ) → i < j → j < t → p i < p j

-- p 0 .. p (t - 1) are below n
abbrev pub Below : (ℕ → ℕ) → ℕ → ℕ → Type 0
Below p t n = (s : ℕ) → s < t → p s < n

-- each p s is among p
pub among_at : (p : ℕ → ℕ) (t s : ℕ) → s < t → among p t (p s) ≡ true
unfolding among
among_at p zero s h = absurd (omega arith)
among_at p (suc t) s h = elim (ℕ_discrete s t) [
  | yes q ↦ rw q (grind arith)
  | no q ↦ let ih = among_at p t s (omega arith) in grind arith
]

-- if q is not p t
pub among_skip : (p : ℕ → ℕ) (t q : ℕ) → (q ≡ p t → ⊥) → among p (suc t) q ≡ among p t q
unfolding among
among_skip p t q h = grind arith

-- what is among p is some p s
pub among_find : (p : ℕ → ℕ) (t q : ℕ) → among p t q ≡ true → (s : ℕ) × (s < t) × (p s ≡ q)
unfolding among
among_find p zero q e = true_false _ e refl
among_find p (suc t) q e = elim (ℕ_discrete q (p t)) [
  | yes z ↦ (t, omega arith, sym z)
  | no z ↦ let r = among_find p t q (sym (among_skip p t q z) ∙ e) in (r.0, omega arith, r.2)
]

-- what differs from each p s is not among p
pub among_off : (p : ℕ → ℕ) (t q : ℕ) → ((s : ℕ) → s < t → p s ≡ q → ⊥) → among p t q ≡ false
among_off p t q h = elim (two (among p t q)) [
  | inr e ↦ e
  | inl e ↦ let r = among_find p t q e in absurd (h r.0 r.1 r.2)
]

pub among_ext : (p r : ℕ → ℕ) (t q : ℕ) → ((s : ℕ) → s < t → p s ≡ r s) → among p t q ≡ among r t q
unfolding among
among_ext p r zero q h = refl
among_ext p r (suc t) q h = rw (h t (omega arith), among_ext p r t q (λ s l. h s (omega arith)))

module _ (p : ℕ → ℕ) where
  -- an ascending sequence does not repeat
  pub among_next : (t : ℕ) → Rising p (suc t) → among p t (p t) ≡ false
  among_next t up = among_off p t (p t) (λ s l e. let k = up s t l (omega arith) in omega arith)

  -- t of the positions below n are among p
  pub count_among : (n t : ℕ) → Rising p t → Below p t n → count (among p t) n ≡ t
  unfolding among upd
  count_among n zero up lo = count_none (among p 0) n (λ q l. refl)
  count_among n (suc t) up lo =
      count_mark (among p t) (p t) n (lo t (omega arith)) (among_next t up)
      ∙ ap suc (count_among n t (λ i j a b. up i j a (omega arith)) (λ s l. lo s (omega arith)))

  -- n - t of the positions below n are not among p
  pub count_others : (n t : ℕ) → Rising p t → Below p t n → count (λ q. not (among p t q)) n ≡ n - t
  count_others n t up lo = omega (arith, count_among n t up lo, count_not (among p t) n)

-- p lists the t marked positions below n in ascending order
pub record Lists (f : ℕ → Bool) (n t : ℕ) (p : ℕ → ℕ) : Type 0 where
  pub up : Rising p t
  pub below : Below p t n
  pub same : (q : ℕ) → q < n → among p t q ≡ f q

-- the marked positions can be listed
pub listed : (f : ℕ → Bool) (n : ℕ) → (p : ℕ → ℕ) × Lists f n (count f n) p
listed f zero = (λ s. s, rw (count_zero f) (record { up = λ i j _ l. absurd (omega arith); below = λ s l. absurd (omega arith); same = λ q l. absurd (omega arith) }))
listed f (suc n) =
    let r = listed f n in
    let p : ℕ → ℕ = r.0 in
    let t : ℕ = count f n in
    let L : Lists f n t p = r.1 in
    let off : (s : ℕ) → s < t → upd p t n s ≡ p s = λ s l. upd_off p t n s (λ z. omega arith) in
    elim (two (f n)) [
      | inr e ↦ (
        p,
        rw (count_no f n e) (record {
          up = L.up;
          below = λ s l. let k = L.below s l in omega arith;
          same = λ q l. elim (ℕ_discrete q n) [
            | yes z ↦ rw z (among_off p t n (λ s k d. let b = L.below s k in omega arith) ∙ sym e)
            | no z ↦ L.same q (omega arith)
          ];
        }),
      )
      | inl e ↦ (
        upd p t n,
        rw (count_yes f n e) (record {
          up = λ i j a b. rw (off i (omega arith)) (elim (ℕ_discrete j t) [
            | yes z ↦ rw (z, upd_at p t n) (L.below i (omega arith))
            | no z ↦ rw (off j (omega arith)) (L.up i j a (omega arith))
          ]);
          below = λ s l. elim (ℕ_discrete s t) [
            | yes z ↦ rw (z, upd_at p t n) (omega arith)
            | no z ↦ rw (off s (omega arith)) (let k = L.below s (omega arith) in omega arith)
          ];
          same = λ q l. elim (ℕ_discrete q n) [
            | yes z ↦ rw z (ap (among (upd p t n) (suc t)) (sym (upd_at p t n)) ∙ among_at (upd p t n) (suc t) t (omega arith) ∙ sym e)
            | no z ↦ among_skip (upd p t n) t q (λ d. z (d ∙ upd_at p t n)) ∙ among_ext (upd p t n) p t q off ∙ L.same q (omega arith)
          ];
        }),
      )
    ]
