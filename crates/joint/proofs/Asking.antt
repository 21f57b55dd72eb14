-- A list of calls with one more at its end.
use Rattle.std.proofs.Common.{◌≡◌, ℕ, zero, suc, ◌+◌, ◌<◌, ◌≤◌, inl, inr, List, [], ◌∷◌, ◌++◌, length, Some, sym, refl, ap, ◌∙◌, subst, arith, length-append}
use Rattle.std.proofs.lemmas.Bool.{cases_lt}
use Rattle.std.proofs.lemmas.Option.{same_Some, slice_get_within}
use Rattle.std.specs.List.{slice_get}
use Rattle.history.specs.declared.call.Entry.{Entry}
use Rattle.joint.specs.declared.head_end.HeadEnd.{HeadEnd}
use Rattle.joint.specs.Asked.{AtEach, AsksTurn, InTurns}

get_front : (es : List Entry) (y : Entry) (k : ℕ) → k < length es → slice_get (es ++ y ∷ []) k ≡ slice_get es k
get_front [] y k lt = absurd (omega arith)
get_front (x ∷ es) y zero lt = refl
get_front (x ∷ es) y (suc k) lt = get_front es y k (omega arith)

get_last : (es : List Entry) (y : Entry) → slice_get (es ++ y ∷ []) (length es) ≡ Some y
get_last [] y = refl
get_last (x ∷ es) y = get_last es y

pub at_each_none : (P : ℕ → Entry → Type 0) → AtEach P []
at_each_none P k e q = let lt = slice_get_within [] k e q in absurd (omega arith)

pub at_each_push : (P : ℕ → Entry → Type 0) (es : List Entry) (y : Entry) → AtEach P es → P (length es) y → AtEach P (es ++ y ∷ [])
at_each_push P es y h p k e q = elim (cases_lt k (length es)) [
  | inl lt ↦ h k e (sym (get_front es y k lt) ∙ q)
  | inr ge ↦
      let within = slice_get_within (es ++ y ∷ []) k e q in
      let is : length es ≡ k = let long = length-append es (y ∷ []) in omega arith in
      let same : y ≡ e = same_Some _ _ (sym (get_last es y) ∙ ap (slice_get (es ++ y ∷ [])) is ∙ q) in
      subst (λ k. P k e) is (subst (P (length es)) same p)
]

-- frames up to one turn are frames up to a later one
pub in_turns_more : (h : HeadEnd) (from last end : ℕ) (es : List Entry) → last ≤ end → InTurns h from last es → InTurns h from end es
in_turns_more h from last end [] le none = tt
in_turns_more h from last end (x ∷ es) le (t, lo, up, its, rest) = (t, lo, omega arith, its, in_turns_more h (t + 1) last end es le rest)

-- the frame of a later turn behind them
pub in_turns_push : (h : HeadEnd) (from last turn end : ℕ) (es : List Entry) (e : Entry) → from ≤ turn → last ≤ turn → turn < end → InTurns h from last es → AsksTurn h turn e
    → InTurns h from end (es ++ e ∷ [])
in_turns_push h from last turn end [] e le behind within none asks = (turn, le, within, asks, tt)
in_turns_push h from last turn end (x ∷ es) e le behind within (t, lo, up, its, rest) asks =
    (t, lo, omega arith, its, in_turns_push h (t + 1) last turn end es e (omega arith) behind within rest asks)
