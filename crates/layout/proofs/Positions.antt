-- Lists of positions, by their places.
use Rattle.std.proofs.Common.{◌≡◌, ℕ, zero, suc, ◌+◌, ◌-◌, ◌<◌, ◌≤◌, Bool, true, false, true≢false, ◌&&◌, eqb, ltb, ltb-true, lt-ltb, add-one, refl, List, length, Some, None, Option, Bor, get_or, sym, ap, ◌∙◌, inl, inr, arith}
use Rattle.std.specs.Option.{MatchOption}
use Rattle.std.specs.List.{HoldsAt, IsAllAdjacentAnswer, IsAnyAnswer}
use Rattle.std.proofs.lemmas.Bool.{cases_eq}
use Rattle.algebra.specs.Code.{among}
use Rattle.algebra.proofs.Marks.{among_at, among_off}
use Rattle.layout.specs.Rules.{Ascends, Ordered}

ascends_by_steps : (xs : List ℕ) → ((k : ℕ) → k + 1 < length xs → get_or xs k 0 < get_or xs (k + 1) 0) → Ascends xs (length xs)
ascends_by_steps xs step i zero lt le = absurd (omega arith)
ascends_by_steps xs step i (suc j) lt le =
    let s = step j (omega arith) in
    elim (cases_eq i j) [
      | inl e ↦ rw e (grind arith)
      | inr e ↦ let h = ascends_by_steps xs step i j (omega arith) (omega arith) in grind arith
    ]

below_by_steps : (xs : List ℕ) (end : ℕ) → (0 < length xs → get_or xs 0 0 < end) → ((k : ℕ) → k + 1 < length xs → get_or xs (k + 1) 0 < end) → (i : ℕ) → i < length xs → get_or xs i 0 < end
below_by_steps xs end first step zero lt = first lt
below_by_steps xs end first step (suc i) lt = rw (sym (add-one i)) (step i (omega arith))

-- positions are in order just when the first lies below an end, and of any two neighbours the second lies above the first and below the end
both_true : (a b : Bool) → true ≡ (a && b) → (a ≡ true) × (b ≡ true)
both_true true b e = (refl, sym e)
both_true false b e = absurd (true≢false e)

pub ordered_by_steps : (xs : List ℕ) (end : ℕ) (r : Bool) → (0 < length xs → get_or xs 0 0 < end) → IsAllAdjacentAnswer (λ x y b. b ≡ (ltb x y && ltb y end)) xs r → Ordered xs end r
ordered_by_steps xs end true first steps =
    (ascends_by_steps xs (λ k h. ltb-true _ _ (both_true _ _ (steps k 0 h)).0), below_by_steps xs end first (λ k h. ltb-true _ _ (both_true _ _ (steps k 0 h)).1))
ordered_by_steps xs end false first steps = λ o. let (k, h, f) = steps in let lt = o.0 k (k + 1) (omega arith) h in let b = o.1 (k + 1) h in let e = f 0 in
    absurd (true≢false (sym (rw (lt-ltb _ _ lt, lt-ltb _ _ b) at e)))

-- whether a position is among the positions of a list
pub among_by_any : (p : ℕ → ℕ) (xs : List ℕ) (q : ℕ) (r : Bool) → ((s : ℕ) → s < length xs → get_or xs s 0 ≡ p s) → IsAnyAnswer (λ y b. eqb y q ≡ b) xs r → r ≡ among p (length xs) q
among_by_any p xs q true e any =
    let (k, h, f) = any in
    let z : p k ≡ q = let g = f 0 in let a = e k h in grind arith in
    sym (ap (among p (length xs)) (sym z) ∙ among_at p (length xs) k h)
among_by_any p xs q false e none = sym (among_off p (length xs) q (λ s h z. let g = none s 0 (omega arith) h in let a = e s h in grind arith))

-- a fact about what is there, of one that follows
match_map : {A : Type 0} (B : Type 0) (P Q : A → Type 0) (o : Option A) → ((x : A) → P x → Q x) → MatchOption o B P → MatchOption o (Unit {0}) Q
match_map B P Q None f m = tt
match_map B P Q (Some x) f m = f x m

last_below : (xs : List ℕ) (o : Option (Bor ℕ)) (end : ℕ) → MatchOption o (length xs ≤ 0) (λ x. (0 < length xs) × HoldsAt (λ y. x.now ≡ y) xs (length xs - 1))
    → MatchOption o (Unit {0}) (λ x. x.now < end) → 0 < length xs → get_or xs (length xs - 1) 0 < end
last_below xs None end m h lt = absurd (omega arith)
last_below xs (Some x) end m h lt = let e = m.1 0 in omega arith

-- positions that ascend are below an end if the last is; the facts are those of `last` and `is_some_and`
pub all_below_last : (xs : List ℕ) (o : Option (Bor ℕ)) (end : ℕ) (B : Type 0) (P : Bor ℕ → Type 0) → Ascends xs (length xs)
    → MatchOption o (length xs ≤ 0) (λ x. (0 < length xs) × HoldsAt (λ y. x.now ≡ y) xs (length xs - 1)) → MatchOption o B P → ((x : Bor ℕ) → P x → x.now < end)
    → (s : ℕ) → s < length xs → get_or xs s 0 < end
all_below_last xs o end B P asc m h f s lt =
    let top = last_below xs o end m (match_map B P _ o f h) (omega arith) in
    elim (cases_eq s (length xs - 1)) [
      | inl e ↦ rw e top
      | inr e ↦ let b = asc s (length xs - 1) (omega arith) (omega arith) in omega arith
    ]
