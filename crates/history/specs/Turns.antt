-- A transcript: the calls that were made, one after another, with their runs and their answers.
use Rattle.std.specs.Prelude.{◌≡◌, ℕ, List, [], ◌∷◌, map, Some, None, Option}
use Rattle.refusal.specs.declared.Refusal.TheVariants.{Contradictory, TooFew}
use Rattle.refusal.specs.Numbers.{said}
use Rattle.history.specs.declared.call.Call.{Call}
use Rattle.history.specs.declared.call.Answer.{Answer}
use Rattle.history.specs.declared.call.Answer.TheVariants.{Whole, Refused}
use Rattle.history.specs.declared.call.Entry.{Entry}

-- a call, with its run before and after it, and its answer
pub record Turn : Type 0 where
  pub call : Call
  pub before : List ℕ
  pub answer : Answer
  pub after : List ℕ

-- the transcript of entries: what each was when they were lent, and what it is when they come back
-- (as many come back as were lent, since the calls stay)
abbrev pub turn : Entry → Entry → Turn
turn old new = record { call = old.call; before = old.run.items; answer = new.answer; after = new.run.items }

abbrev pub transcript : List Entry → List Entry → List Turn
transcript (old ∷ olds) (new ∷ news) = turn old new ∷ transcript olds news
transcript [] news = []
transcript (old ∷ olds) [] = []

-- the calls of entries
abbrev pub calls : List Entry → List Call
calls entries = map (λ (e : Entry). e.call) entries

-- what was asked in a transcript: the calls with their runs before them
abbrev pub asked : List Turn → List (Call × List ℕ)
asked ts = map (λ (t : Turn). (t.call, t.before)) ts

-- the number and the values of a refusal
abbrev pub refusal_in : Answer → Option (ℕ × List ℕ)
refusal_in (Refused e) = Some (said e)
refusal_in answer = None

-- the three answers to a repair that is not refused before its work: whole, too few, contradictory
abbrev pub SaysWhole : Turn → Type 0
SaysWhole t = (n : ℕ) × (t.answer ≡ Whole n)

abbrev pub SaysTooFew : Turn → Type 0
SaysTooFew t = refusal_in t.answer ≡ Some (said TooFew)

abbrev pub SaysContradictory : Turn → Type 0
SaysContradictory t = (sum word : ℕ) × (refusal_in t.answer ≡ Some (said (Contradictory sum word)))

-- an answer, or a refusal, and the run is as it was
abbrev pub Answers : Turn → Answer → Type 0
Answers t a = (t.answer ≡ a) × (t.after ≡ t.before)

abbrev pub Refuses : Turn → ℕ × List ℕ → Type 0
Refuses t e = (refusal_in t.answer ≡ Some e) × (t.after ≡ t.before)

-- what a check refuses with is answered, and else a law holds
abbrev pub Checked : Turn → Option (ℕ × List ℕ) → Type 0 → Type 0
Checked t (Some e) Law = Refuses t e
Checked t None Law = Law
