-- Lists of positions, over numbers alone.
use Rattle.std.specs.Prelude.{ℕ, ◌<◌, Bool, true, false, List, length, slice_index}

-- the first n ascend strictly
abbrev pub Ascends : List ℕ → ℕ → Type 0
Ascends xs n = (i j : ℕ) → i < j → j < n → slice_index xs i < slice_index xs j

-- strictly ascending and below the end
abbrev pub InOrder : List ℕ → ℕ → Type 0
InOrder xs end = Ascends xs (length xs) × ((i : ℕ) → i < length xs → slice_index xs i < end)

-- whether they are
abbrev pub Ordered : List ℕ → ℕ → Bool → Type 0
Ordered xs end true = InOrder xs end
Ordered xs end false = InOrder xs end → ⊥
