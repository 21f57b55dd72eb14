-- How many slots of a block are filled, one position after another.
use Rattle.std.proofs.Common.{◌≡◌, ℕ, suc, ◌+◌, Bool, true, false, sym, refl, ap, ◌∙◌, add-one}
use Rattle.std.proofs.lemmas.Bool.{cond-true, cond-false}
use Rattle.algebra.specs.Code.{count}

pub count_none : (marked : ℕ → Bool) → 0 ≡ count marked 0
unfolding count
count_none marked = refl

pub count_marked : (marked : ℕ → Bool) (n c : ℕ) → c ≡ count marked n → true ≡ marked n → c + 1 ≡ count marked (n + 1)
unfolding count
count_marked marked n c e t = rw (add-one n, add-one c) (ap suc e ∙ sym (cond-true (marked n) _ _ (sym t)))

pub count_unmarked : (marked : ℕ → Bool) (n c : ℕ) → c ≡ count marked n → false ≡ marked n → c ≡ count marked (n + 1)
unfolding count
count_unmarked marked n c e f = rw (add-one n) (e ∙ sym (cond-false (marked n) _ _ (sym f)))
