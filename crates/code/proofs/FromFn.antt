-- What is known of an array that is made by calls of a function that stays as it is.
use Rattle.std.proofs.Common.{◌≡◌, ℕ, zero, suc, ◌+◌, ◌-◌, ◌<◌, List, get_or, sym, subst, add-zero, zero-add, arith}
use denote.Param.Members.{Mut, Called}
use native.Mathlib.Decide.{ℕ_discrete}
use Rattle.std.specs.Array.{IsFromFnResultFrom}

module _ {F : Type 0} (g : Mut F (ℕ × Unit {0}) ℕ) (f : F) (P : ℕ → ℕ → Type 0) (ys : List ℕ) (step : (k y : ℕ) (q : F) → Called g f (k, tt) y q → (q ≡ f) × P k y) where
  each_from : (i n k : ℕ) → IsFromFnResultFrom g f ys i n → k < n → P (i + k) (get_or ys (i + k) 0)
  each_from i zero k made h = absurd (omega arith)
  each_from i (suc n) k made h =
      let (q, y, at, called, rest) = made in
      let (same, holds) = step i y q called in
      elim (ℕ_discrete k 0) [
        | yes e ↦ rw (e, add-zero i) (subst (P i) (sym (at.1 0)) holds)
        | no e ↦
            let r = each_from (i + 1) n (k - 1) (subst (λ p. IsFromFnResultFrom g p ys (i + 1) n) same rest) (omega arith) in
            let z : i + 1 + (k - 1) ≡ i + k = omega arith in
            subst (λ m. P m (get_or ys m 0)) z r
      ]

  pub each_made : (n k : ℕ) → IsFromFnResultFrom g f ys 0 n → k < n → P k (get_or ys k 0)
  each_made n k made h = subst (λ m. P m (get_or ys m 0)) (zero-add k) (each_from 0 n k made h)
