-- The positions that a block does not hold, collected one after another.
use Rattle.std.proofs.Common.{◌≡◌, ℕ, zero, suc, ◌+◌, ◌-◌, ◌<◌, ◌≤◌, Bool, true, false, not, Some, Ok, Err, sym, refl, ap, ◌∙◌, inl, inr, add-zero, add-suc, add-one, arith}
use native.Mathlib.Decide.{ℕ_discrete}
use Rattle.refusal.specs.declared.Refusal.TheVariants.{TooFew}
use Rattle.refusal.specs.declared.Refusal.{Refusal}
use Rattle.algebra.specs.Code.{count, among}
use Rattle.algebra.proofs.Marks.{Below, among_at, among_skip, among_off, among_ext}
use Rattle.layout.specs.declared.shape.Shape.{Shape}
use Rattle.layout.specs.declared.losses.LossList.{LossList}
use Rattle.layout.specs.Sizes.{parity_of, lost}
use Rattle.layout.specs.Made.{Pushed}
use Rattle.refusal.specs.Numbers.{said}
use Rattle.store.specs.Grids.{Grid}
use Rattle.receiver.specs.Calls.{held_in}
use Rattle.receiver.specs.Repairs.{few_refusal}
use Rattle.receiver.proofs.Counts.{count_none, count_marked, count_unmarked}

-- the list has the positions below n that are not held, in ascending order
pub record Collected (held : ℕ → Bool) (n : ℕ) (s : Shape) (l : LossList) : Type 0 where
  pub below : Below (lost l) l.len n
  pub same : (q : ℕ) → q < n → among (lost l) l.len q ≡ not (held q)
  pub number : count held n + l.len ≡ n
  pub few : l.len ≤ parity_of s

module _ (held : ℕ → Bool) (s : Shape) where
  pub collected_none : (l : LossList) → l.len ≡ 0 → Collected held 0 s l
  collected_none l e = record {
    below = λ k h. absurd (omega arith);
    same = λ q h. absurd (omega arith);
    number = let z = count_none held in omega arith;
    few = omega arith;
  }

  module _ (n : ℕ) (l : LossList) (c : Collected held n s l) where
    -- position n is held
    pub collected_held : true ≡ held n → Collected held (n + 1) s l
    collected_held e = record {
      below = λ k h. let b = c.below k h in omega arith;
      same = λ q h. elim (ℕ_discrete q n) [
        | yes z ↦ rw z (among_off (lost l) l.len n (λ k h d. let b = c.below k h in omega arith) ∙ ap not e)
        | no z ↦ c.same q (omega arith)
      ];
      number = let m = count_marked held n (count held n) refl e in let k = c.number in omega arith;
      few = c.few;
    }

    -- position n is not held, and stands in the list now
    pub collected_missing : false ≡ held n → (after : LossList) → Pushed s l n after (Ok tt) → Collected held (n + 1) s after
    collected_missing e after p =
        let len = p.len in
        record {
          below = λ k h. elim (ℕ_discrete k l.len) [
            | yes z ↦ rw (z, p.last) (omega arith)
            | no z ↦ rw (p.kept k (omega arith)) (let b = c.below k (omega arith) in omega arith)
          ];
          same = λ q h. ap (λ m. among (lost after) m q) (len ∙ add-one l.len) ∙ elim (ℕ_discrete q n) [
            | yes z ↦ rw z (ap (among (lost after) (suc l.len)) (sym p.last) ∙ among_at (lost after) (suc l.len) l.len (omega arith) ∙ ap not e)
            | no z ↦ among_skip (lost after) l.len q (λ d. z (d ∙ p.last)) ∙ among_ext _ (lost l) l.len q p.kept ∙ c.same q (omega arith)
          ];
          number = let m = count_unmarked held n (count held n) refl e in let k = c.number in omega arith;
          few = let lt = p.room in omega arith;
        }

-- of the next d positions at most d are held
count_most : (held : ℕ → Bool) (k d : ℕ) → count held (k + d) ≤ count held k + d
unfolding count
count_most held k zero = rw (add-zero k, add-zero (count held k)) (omega arith)
count_most held k (suc d) = rw (add-suc k d) (grind (arith, count_most held k d))

module _ (s : Shape) (g : Grid) (i : ℕ) where
  -- one position more is missing than the block has parity positions
  too_few : (n : ℕ) (l : LossList) → Collected (held_in g i) n s l → n < s.positions → parity_of s ≤ l.len → false ≡ held_in g i n → few_refusal s g i ≡ Some (said TooFew)
  too_few n l c lt le e =
      let held = held_in g i in
      let rest = s.positions - (n + 1) in
      let most : count held (n + 1 + rest) ≤ count held (n + 1) + rest = count_most held (n + 1) rest in
      let all : n + 1 + rest ≡ s.positions = omega arith in
      let same = count_unmarked held n (count held n) refl e in
      let bound : count held s.positions ≤ count held (n + 1) + rest = rw all at most in
      let k = c.number in
      let w = s.counts in
      grind (arith, bound, same, k, w)

  -- a missing position is refused only if too many are missing
  pub push_refused : (n : ℕ) (l after : LossList) (e : Refusal) → Collected (held_in g i) n s l → n < s.positions → false ≡ held_in g i n → Pushed s l n after (Err e) → few_refusal s g i ≡ Some (said e)
  push_refused n l after e c lt h p = elim p.1 [
    | inl b ↦ absurd (b.0 (lt, λ k m. c.below k m))
    | inr b ↦ too_few n l c lt b.1 h ∙ ap (λ x. Some x) (sym b.2)
  ]
