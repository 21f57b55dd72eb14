-- Slots in memory, and what a store over them means.
use Rattle.std.specs.Prelude.{ℕ, Bool, List, length, ◌==◌, slice_index}
use Rattle.store.specs.declared.memory.MemoryStore.{MemoryStore}
use Rattle.store.specs.Grids.{Grid}
use Rattle.store.specs.Layout.{grid_in}

-- a slot is empty when its mark is 0
abbrev pub unmarked : List ℕ → Bool
unmarked ws = slice_index ws 0 == 0

abbrev pub capacity_of : MemoryStore → ℕ
capacity_of s = length s.words.now

abbrev pub grid_of : MemoryStore → Grid
grid_of s = grid_in unmarked s.format s.words.now
