-- Packets put into the slots of a block at the lost positions, one after another.
use Rattle.std.proofs.Common.{◌≡◌, ℕ, suc, ◌+◌, ◌*◌, ◌<◌, true, not, List, length, is_some, Some, None, Option, sym, refl, ap, ◌∙◌, add-one, arith}
use native.Mathlib.Decide.{ℕ_discrete}
use Rattle.std.specs.List.{between}
use Rattle.algebra.specs.Code.{among}
use Rattle.algebra.proofs.Marks.{true_false, among_at, among_find, among_next}
use Rattle.layout.specs.declared.shape.Shape.{Shape}
use Rattle.layout.specs.declared.losses.LossList.{LossList}
use Rattle.layout.specs.Sizes.{packet_of, lost}
use Rattle.store.specs.Grids.{Grid, Filled, put_refusal}
use Rattle.receiver.specs.Steps.{Lacks, Put}

none_from : (o : Option (List ℕ)) → true ≡ not (is_some o) → o ≡ None
none_from None e = refl
none_from (Some ws) e = absurd (let z : ◌≡◌ {A = ℕ} 0 1 = cc in omega arith)

module _ (s : Shape) (l : LossList) (i : ℕ) (run : List ℕ) (g : Grid) where
  pub put_none : Put s l i 0 run g g
  put_none = record { rows_same = refl; columns_same = refl; size_same = refl; at = λ k h. absurd (omega arith); off = λ a b n. refl }

  -- one packet more is put
  pub put_more : (n : ℕ) (ws : List ℕ) (h h' : Grid) → n < l.len → ws ≡ between (n * packet_of s) (n * packet_of s + packet_of s) run
      → Put s l i n run g h → Filled h i (lost l n) ws h' → Put s l i (n + 1) run g h'
  put_more n ws h h' lt is p f = record {
    rows_same = f.rows_same ∙ p.rows_same;
    columns_same = f.columns_same ∙ p.columns_same;
    size_same = f.size_same ∙ p.size_same;
    at = λ k m. elim (ℕ_discrete k n) [
      | yes z ↦ rw z (f.here ∙ ap Some is)
      | no z ↦ f.others i (lost l k) (λ _ e. let up = l.ascends k n (omega arith) lt in omega arith) ∙ p.at k (omega arith)
    ];
    off = λ a b ne.
        let next : among (lost l) (suc n) b ≡ true → a ≡ i → ⊥ = λ e z. ne z (ap (λ m. among (lost l) m b) (add-one n) ∙ e) in
        f.others a b (λ z e. next (ap (among (lost l) (suc n)) e ∙ among_at (lost l) (suc n) n (omega arith)) z)
        ∙ p.off a b (λ z e. let m = among_find (lost l) n b e in next (ap (among (lost l) (suc n)) (sym m.2) ∙ among_at (lost l) (suc n) m.0 (let k = m.1 in omega arith)) z);
  }

  module _ (A : Lacks s g i l) where
    -- the slot of a lost position was empty
    pub was_empty : (n : ℕ) → n < l.len → g.slots i (lost l n) ≡ None
    was_empty n h = let M = A.missing in none_from _ (sym (among_at (lost l) l.len n h) ∙ M.same (lost l n) (M.below n h))

    -- the next packet can be put
    pub put_passes : (n : ℕ) (ws : List ℕ) (h : Grid) → n < l.len → length ws ≡ packet_of s → Put s l i n run g h → put_refusal h i (lost l n) ws ≡ None
    put_passes n ws h lt long p =
        let q = lost l n in
        let F = A.fitted in
        let row : i < h.rows = let e = p.rows_same in let f = F.rows in let k = A.inside in omega arith in
        let column : q < h.columns = let e = p.columns_same in let f = F.columns in let k = A.missing.below n lt in omega arith in
        let next = among_next (lost l) n (λ a b u v. l.ascends a b u (omega arith)) in
        let empty : h.slots i q ≡ None = p.off i q (λ _ e. true_false _ e next) ∙ was_empty n lt in
        let size : length ws ≡ h.size = long ∙ sym (p.size_same ∙ F.size) in
        grind (arith, row, column, size, empty)
