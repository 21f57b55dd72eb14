-- How slots lie in words: one after another, row by row, each a mark and then its packet.
use Rattle.std.specs.Prelude.{◌≡◌, ℕ, ◌+◌, ◌*◌, ◌≤◌, Bool, true, false, cond, ◌&&◌, List, ◌++◌, length, take, drop, replicate, Some, None, Ok, Err, Option, Result, nat_lt}
use Rattle.std.specs.List.{between}
use Rattle.refusal.specs.declared.Refusal.{Refusal}
use Rattle.refusal.specs.declared.Refusal.TheVariants.{OutsideGrid}
use Rattle.store.specs.declared.slots.Format.{Format}
use Rattle.store.specs.declared.slots.Slot.{Slot}
use Rattle.store.specs.Calls.{fits_in}
use Rattle.store.specs.Grids.{Grid}

-- where the slot (i, j) begins
abbrev pub slot_at : Format → ℕ → ℕ → ℕ
slot_at f i j = (i * f.columns + j) * (f.size + 1)

abbrev pub start_of : Format → Slot → ℕ
start_of f s = slot_at f s.row s.column

-- the mark and the packet of the slot that begins at `at`
abbrev pub slot_words : List ℕ → ℕ → ℕ → List ℕ
slot_words xs at n = between at (at + n + 1) xs

-- what a slot holds, by a test that its words are those of an empty one
abbrev pub content_of : (List ℕ → Bool) → List ℕ → Option (List ℕ)
content_of empty ws = cond (empty ws) None (Some (drop 1 ws))

-- the rows of a format in this many words; none if it does not fit
abbrev pub rows_of : ℕ → Format → ℕ
rows_of capacity f = cond (fits_in capacity f) f.rows 0

-- whether a format in this many words has the slot (i, j)
abbrev pub has_slot : ℕ → Format → ℕ → ℕ → Bool
has_slot capacity f i j = nat_lt i (rows_of capacity f) && nat_lt j f.columns

abbrev pub grid_in : (List ℕ → Bool) → Format → List ℕ → Grid
grid_in empty f xs = record {
  rows = rows_of (length xs) f;
  columns = f.columns;
  size = f.size;
  slots = λ i j. cond (has_slot (length xs) f i j) (content_of empty (slot_words xs (slot_at f i j) f.size)) None;
}

-- the words after the slot that begins at `at` was overwritten
abbrev pub slot_put : List ℕ → ℕ → List ℕ → List ℕ
slot_put xs at ws = take at xs ++ (ws ++ drop (at + length ws) xs)

-- the slot of a format is inside its grid, and begins at `at`
pub record StartsAt (capacity : ℕ) (f : Format) (s : Slot) (at : ℕ) : Type 0 where
  pub is_inside : has_slot capacity f s.row s.column ≡ true
  pub at_is : at ≡ start_of f s
  pub within : at + f.size + 1 ≤ capacity

-- the words of a slot of a format reach from `at` to `end`
pub record SlotRange (capacity : ℕ) (f : Format) (s : Slot) (at end : ℕ) : Type 0 where
  pub start : StartsAt capacity f s at
  pub end_is : end ≡ at + f.size + 1

-- the slot of a format is outside its grid, and so refused
abbrev pub RefusedOutside : ℕ → Format → Slot → Refusal → Type 0
RefusedOutside capacity f s refusal = (has_slot capacity f s.row s.column ≡ false) × (refusal ≡ OutsideGrid)

-- the slot of a format is inside its grid, and its words are ws
pub record InSlot (xs : List ℕ) (f : Format) (s : Slot) (ws : List ℕ) : Type 0 where
  pub is_inside : has_slot (length xs) f s.row s.column ≡ true
  pub words_are : ws ≡ slot_words xs (start_of f s) f.size
  pub length_is : length ws ≡ f.size + 1

-- the format that a store keeps after it was to take f
abbrev pub format_after : Result (Unit {0}) Refusal → Format → Format → Format
format_after (Ok u) f before = f
format_after (Err e) f before = before

-- the words after a format was to be made: all blank, or as they were
abbrev pub words_after_clear : Result (Unit {0}) Refusal → ℕ → List ℕ → List ℕ
words_after_clear (Ok u) blank xs = replicate (length xs) blank
words_after_clear (Err e) blank xs = xs

-- the words after the slot that begins at `at` was to be filled
abbrev pub words_after_put : Result (Unit {0}) Refusal → List ℕ → ℕ → List ℕ → List ℕ
words_after_put (Ok u) xs at ws = slot_put xs at ws
words_after_put (Err e) xs at ws = xs
