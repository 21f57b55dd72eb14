-- What a slot store means, and what its calls answer and do, by the numbers of a format and a slot.
use Rattle.std.specs.Prelude.{◌≡◌, ℕ, ◌+◌, ◌*◌, Bool, cond, ◌&&◌, List, length, is_some, Some, None, Ok, Err, Option, Result, ◌==◌, ◌≢◌, nat_le, nat_lt}
use Rattle.refusal.specs.declared.Refusal.{Refusal}
use Rattle.refusal.specs.declared.Refusal.TheVariants.{BadFormat, OutsideGrid, SlotFilled, SlotEmpty, WrongSize}
use Rattle.refusal.specs.Numbers.{said}

-- in each slot nothing or one packet of `size` words
pub record Grid : Type 0 where
  pub rows : ℕ
  pub columns : ℕ
  pub size : ℕ
  pub slots : ℕ → ℕ → Option (List ℕ)

abbrev pub transposed : Grid → Grid
transposed g = record { rows = g.columns; columns = g.rows; size = g.size; slots = λ i j. g.slots j i }

abbrev pub inside : Grid → ℕ → ℕ → Bool
inside g i j = nat_lt i g.rows && nat_lt j g.columns

-- a new store's grid
pub record NoSlots (g : Grid) : Type 0 where
  pub no_rows : g.rows ≡ 0
  pub no_columns : g.columns ≡ 0

-- two grids are the same, slot by slot
pub record SameGrid (g h : Grid) : Type 0 where
  pub rows_same : h.rows ≡ g.rows
  pub columns_same : h.columns ≡ g.columns
  pub size_same : h.size ≡ g.size
  pub slots_same : (i j : ℕ) → h.slots i j ≡ g.slots i j

-- Format

abbrev pub format_fits : ℕ → ℕ → ℕ → ℕ → Bool
format_fits capacity r c n =
    nat_lt 0 r && (nat_le r 1023 && (nat_lt 0 c && (nat_le c 1023 && (nat_lt 0 n && (nat_le n 256 && nat_le (r * c * (n + 1)) capacity)))))

abbrev pub format_refusal : ℕ → ℕ → ℕ → ℕ → Option (ℕ × List ℕ)
format_refusal capacity r c n = cond (format_fits capacity r c n) None (Some (said BadFormat))

-- a grid of this format with every slot empty
pub record Emptied (r c n : ℕ) (h : Grid) : Type 0 where
  pub rows_is : h.rows ≡ r
  pub columns_is : h.columns ≡ c
  pub size_is : h.size ≡ n
  pub empty : (i j : ℕ) → h.slots i j ≡ None

-- Held

abbrev pub held_answer : Grid → ℕ → ℕ → Result Bool Refusal
held_answer g i j = cond (inside g i j) (Ok (is_some (g.slots i j))) (Err OutsideGrid)

-- Put

abbrev pub put_refusal : Grid → ℕ → ℕ → List ℕ → Option (ℕ × List ℕ)
put_refusal g i j ws =
    cond (inside g i j)
    (cond (length ws == g.size) (cond (is_some (g.slots i j)) (Some (said SlotFilled)) None) (Some (said WrongSize)))
    (Some (said OutsideGrid))

-- h is g with the packet ws in the slot (i, j)
pub record Filled (g : Grid) (i j : ℕ) (ws : List ℕ) (h : Grid) : Type 0 where
  pub rows_same : h.rows ≡ g.rows
  pub columns_same : h.columns ≡ g.columns
  pub size_same : h.size ≡ g.size
  pub here : h.slots i j ≡ Some ws
  pub others : (a b : ℕ) → (a ≡ i → b ≢ j) → h.slots a b ≡ g.slots a b

-- Get

abbrev pub get_refusal : Grid → ℕ → ℕ → List ℕ → Option (ℕ × List ℕ)
get_refusal g i j run =
    cond (inside g i j)
    (cond (length run == g.size) (cond (is_some (g.slots i j)) None (Some (said SlotEmpty))) (Some (said WrongSize)))
    (Some (said OutsideGrid))

abbrev pub packet_or : Option (List ℕ) → List ℕ → List ℕ
packet_or (Some ws) run = ws
packet_or None run = run

-- the run after a get
abbrev pub after_get : Result (Unit {0}) Refusal → Grid → ℕ → ℕ → List ℕ → List ℕ
after_get (Ok u) g i j run = packet_or (g.slots i j) run
after_get (Err e) g i j run = run
