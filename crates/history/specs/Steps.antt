-- The calls of a transcript as a receiver makes them, by the contracts of its calls alone. What the functions that make them promise
-- is said by these; the law does not name them.
use Rattle.std.specs.Prelude.{◌≡◌, ℕ, List, [], ◌∷◌, length, Ok, Err, Result, IfOk, IfErr}
use Rattle.refusal.specs.declared.Refusal.{Refusal}
use Rattle.refusal.specs.Numbers.{refused_with}
use Rattle.layout.specs.Checks.{CheckedFirst, Cleared}
use Rattle.frame.specs.Frames.{parse}
use Rattle.store.specs.Grids.{after_get}
use Rattle.receiver.specs.declared.Taken.{Taken}
use Rattle.receiver.specs.declared.Taken.TheVariants.{Shaped as shape_set, Fresh as packet_put, Known as packet_held}
use Rattle.receiver.specs.declared.Whole.{Whole as Completed}
use Rattle.receiver.specs.Meaning.{Meaning}
use Rattle.receiver.specs.Sound.{Sound}
use Rattle.receiver.specs.Calls.{take_refusal, Took, fetch_refusal, count_refusal, Counted}
use Rattle.receiver.specs.Repairs.{repair_refusal, MadeWhole, Conflicts, Judges}
use Rattle.history.specs.declared.call.Call.{Call}
use Rattle.history.specs.declared.call.Call.TheVariants.{Take, Repair, Fetch, Count}
use Rattle.history.specs.declared.call.Answer.{Answer}
use Rattle.history.specs.declared.call.Answer.TheVariants.{Shaped, Fresh, Known, Whole, Fetched, Held, Refused}
use Rattle.history.specs.Turns.{Turn}

-- The answers, by what the receiver returned

abbrev pub taken : Result Taken Refusal → Answer
taken (Ok shape_set) = Shaped
taken (Ok packet_put) = Fresh
taken (Ok packet_held) = Known
taken (Err e) = Refused e

abbrev pub repaired : Result Completed Refusal → Answer
repaired (Ok w) = Whole w.restored
repaired (Err e) = Refused e

abbrev pub fetched : Result (Unit {0}) Refusal → Answer
fetched (Ok u) = Fetched
fetched (Err e) = Refused e

abbrev pub counted : Result ℕ Refusal → Answer
counted (Ok n) = Held n
counted (Err e) = Refused e

-- One call each

pub record Takes (bits : ℕ) (m : Meaning) (t : Turn) (after : Meaning) : Type 0 where
  pub said : Result Taken Refusal
  pub answer_is : t.answer ≡ taken said
  pub refusal : refused_with said ≡ take_refusal bits m (parse t.before)
  pub took : Took m (parse t.before) said after
  pub same_run : t.after ≡ t.before

-- what a repair does, by its outcome
pub record AfterRepair (prod : ℕ → ℕ → ℕ) (m : Meaning) (i : ℕ) (work work' : List ℕ) (r : Result Completed Refusal) (after : Meaning) : Type 0 where
  pub whole : IfOk r (λ w. MadeWhole prod m i w.restored after)
  pub answer : CheckedFirst (repair_refusal m i work) (Conflicts prod m i) r
  pub left : IfErr r (λ e. after ≡ m)
  pub cleared : Cleared (repair_refusal m i work) work work'

pub record Repairs (prod : ℕ → ℕ → ℕ) (m : Meaning) (i : ℕ) (t : Turn) (after : Meaning) : Type 0 where
  pub said : Result Completed Refusal
  pub answer_is : t.answer ≡ repaired said
  pub changed : AfterRepair prod m i t.before t.after said after
  pub judged : Judges prod m i t.before said
  pub same_length : length t.after ≡ length t.before

pub record Fetches (m : Meaning) (i j : ℕ) (t : Turn) (after : Meaning) : Type 0 where
  pub said : Result (Unit {0}) Refusal
  pub answer_is : t.answer ≡ fetched said
  pub refusal : refused_with said ≡ fetch_refusal m i j t.before
  pub copied : t.after ≡ after_get said m.grid i j t.before
  pub same : after ≡ m

pub record Counts (m : Meaning) (i : ℕ) (t : Turn) (after : Meaning) : Type 0 where
  pub said : Result ℕ Refusal
  pub answer_is : t.answer ≡ counted said
  pub refusal : refused_with said ≡ count_refusal m i
  pub number : Counted m i said
  pub same_run : t.after ≡ t.before
  pub same : after ≡ m

abbrev pub Makes : ℕ → (ℕ → ℕ → ℕ) → Meaning → Turn → Call → Meaning → Type 0
Makes bits prod m t Take after = Takes bits m t after
Makes bits prod m t (Repair i) after = Repairs prod m i t after
Makes bits prod m t (Fetch i j) after = Fetches m i j t after
Makes bits prod m t (Count i) after = Counts m i t after

-- one turn, on a receiver whose store fits its shape
pub record Step (bits : ℕ) (prod : ℕ → ℕ → ℕ) (m : Meaning) (t : Turn) (after : Meaning) : Type 0 where
  pub sound : Sound bits m.shape m.grid
  pub makes : Makes bits prod m t t.call after

-- all turns in order
abbrev pub AllSteps : ℕ → (ℕ → ℕ → ℕ) → Meaning → List Turn → Meaning → Type 0
AllSteps bits prod m [] after = after ≡ m
AllSteps bits prod m (t ∷ ts) after = (mid : Meaning) × Step bits prod m t mid × AllSteps bits prod mid ts after
