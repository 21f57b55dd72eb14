-- The packets found, written to the block.
use Rattle.std.proofs.Common.{◌≡◌, ℕ, suc, ◌+◌, ◌<◌, List, sym, ap, ◌∙◌, add-one, arith}
use native.Mathlib.Decide.{ℕ_discrete}
use Rattle.algebra.specs.Code.{among, Code}
use Rattle.algebra.proofs.Marks.{true_false, among_at, among_skip}
use Rattle.layout.specs.declared.losses.LossList.{LossList}
use Rattle.layout.specs.Sizes.{lost}
use Rattle.layout.specs.Blocks.{block_at}
use Rattle.code.specs.Written.{Written}

module _ (C : Code) (l : LossList) (sums e : List ℕ) where
  -- one packet more is written
  pub written_more : (n : ℕ) (u u' : List ℕ) → n < l.len
      → ((i c : ℕ) → i < C.rows → c < C.words → block_at C u' (lost l n) i c ≡ block_at C sums n i c)
      → ((q i c : ℕ) → (q ≡ lost l n → ⊥) → i < C.rows → c < C.words → block_at C u' q i c ≡ block_at C u q i c)
      → Written C l n sums e u → Written C l (n + 1) sums e u'
  written_more n u u' lt at off d = record {
    at = λ k i c h a b. elim (ℕ_discrete k n) [
      | yes q ↦ rw q (at i c a b)
      | no q ↦ off (lost l k) i c (λ z. let up = l.ascends k n (omega arith) lt in omega arith) a b ∙ d.at k i c (omega arith) a b
    ];
    off = λ q i c h a b.
        let away : q ≡ lost l n → ⊥ = λ z. true_false (among (lost l) (suc n) q) (ap (among (lost l) (suc n)) z ∙ among_at (lost l) (suc n) n (omega arith)) (ap (λ m. among (lost l) m q) (sym (add-one n)) ∙ h) in
        off q i c away a b ∙ d.off q i c (sym (among_skip (lost l) n q away) ∙ ap (λ m. among (lost l) m q) (sym (add-one n)) ∙ h) a b;
  }
