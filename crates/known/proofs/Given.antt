-- What the contracts of the calls leave as answers, where a codeword agrees and where none does.
use Rattle.std.proofs.Common.{◌≡◌, ℕ, List, Some, None, Ok, Err, Option, Result, sym, refl, ap, ◌∙◌, ap₂, inl, inr}
use Rattle.std.specs.Prelude.{IfOk}
use Rattle.refusal.specs.declared.Refusal.{Refusal}
use Rattle.refusal.specs.declared.Refusal.TheVariants.{Contradictory}
use Rattle.refusal.specs.Numbers.{said, refused_with}
use Rattle.algebra.specs.Code.{Code}
use Rattle.layout.specs.declared.shape.Shape.{Shape}
use Rattle.layout.specs.declared.losses.LossList.{LossList}
use Rattle.layout.specs.Blocks.{code_of, block_at}
use Rattle.layout.specs.Checks.{CheckedFirst}
use Rattle.layout.proofs.Passes.{passed}
use Rattle.code.specs.Lost.{AgreeOff, Contradicted}
use Rattle.code.specs.Calls.{Repaired, ContradictoryRun}
use Rattle.code.proofs.Contradicting.{contradiction_only}

module _ (s : Shape) (prod : ℕ → ℕ → ℕ) (l : LossList) (block after : List ℕ) (check : Option (ℕ × List ℕ)) (passes : check ≡ None) where
  abbrev C : Code
  C = code_of s prod

  pub restores : (r : Result (Unit {0}) Refusal) (codeword : List ℕ) → Repaired C l block codeword → IfOk r (λ u. Repaired C l block after)
      → CheckedFirst check (ContradictoryRun C l block) r → (refused_with r ≡ None) × (after ≡ codeword)
  restores (Ok u) codeword is a n = (refl, is.only after a.codeword a.agrees)
  restores (Err e) codeword is a (inl n) = passed check (said e) passes (sym n)
  restores (Err e) codeword is a (inr n) = absurd (n.1.fact.none (block_at C codeword) is.codeword.1 is.agrees)

  pub refuses : (r : Result (Unit {0}) Refusal) (sum word : ℕ) → Contradicted C l (block_at C block) sum word → IfOk r (λ u. Repaired C l block after)
      → CheckedFirst check (ContradictoryRun C l block) r → refused_with r ≡ Some (said (Contradictory sum word))
  refuses (Ok u) sum word is a n = absurd (is.none (block_at C after) a.codeword.1 a.agrees)
  refuses (Err e) sum word is a (inl n) = passed check (said e) passes (sym n)
  refuses (Err e) sum word is a (inr n) =
      let f = n.1 in
      let same = contradiction_only s prod prod (λ o. AgreeOff C l o (block_at C block)) l.len _ _ _ _ (λ b μ r c. refl) f.fact is in
      ap (λ e. Some (said e)) f.refusal ∙ ap₂ (λ x y. Some (said (Contradictory x y))) same.0 same.1
