-- What the calls of a slot store answer and do, by a format and a slot.
use Rattle.std.specs.Prelude.{◌≡◌, ℕ, ◌+◌, ◌*◌, Bool, List, IsTrue, Ok, Err, Option, Result}
use Rattle.refusal.specs.declared.Refusal.{Refusal}
use Rattle.store.specs.declared.slots.Format.{Format}
use Rattle.store.specs.declared.slots.Slot.{Slot}
use Rattle.store.specs.Grids.{Grid, format_fits, format_refusal, Emptied, held_answer, put_refusal, Filled, get_refusal, after_get}

-- how many words the slots of a format take, each a mark and a packet
abbrev pub word_count : Format → ℕ
word_count f = f.rows * f.columns * (f.size + 1)

-- whether so many words are enough for a format that stores take
abbrev pub fits_in : ℕ → Format → Bool
fits_in capacity f = format_fits capacity f.rows f.columns f.size

-- stores with words enough take the format
abbrev pub IsStorable : Format → Type 0
IsStorable f = IsTrue (fits_in (word_count f) f)

abbrev pub refusal_of_format : ℕ → Format → Option (ℕ × List ℕ)
refusal_of_format capacity f = format_refusal capacity f.rows f.columns f.size

-- a grid of this format with every slot empty
abbrev pub EmptyGrid : Format → Grid → Type 0
EmptyGrid f h = Emptied f.rows f.columns f.size h

abbrev pub AfterFormat : Result (Unit {0}) Refusal → Grid → Format → Grid → Type 0
AfterFormat (Ok u) g f h = EmptyGrid f h
AfterFormat (Err e) g f h = h ≡ g

abbrev pub answer_of_held : Grid → Slot → Result Bool Refusal
answer_of_held g s = held_answer g s.row s.column

abbrev pub refusal_of_put : Grid → Slot → List ℕ → Option (ℕ × List ℕ)
refusal_of_put g s ws = put_refusal g s.row s.column ws

abbrev pub AfterPut : Result (Unit {0}) Refusal → Grid → Slot → List ℕ → Grid → Type 0
AfterPut (Ok u) g s ws h = Filled g s.row s.column ws h
AfterPut (Err e) g s ws h = h ≡ g

abbrev pub refusal_of_get : Grid → Slot → List ℕ → Option (ℕ × List ℕ)
refusal_of_get g s run = get_refusal g s.row s.column run

-- the run after a get
abbrev pub run_after_get : Result (Unit {0}) Refusal → Grid → Slot → List ℕ → List ℕ
run_after_get result g s run = after_get result g s.row s.column run
