-- Two stores with one meaning.
use Rattle.std.specs.Prelude.{◌≡◌}
use Rattle.store.specs.declared.SlotStore
use Rattle.store.specs.Grids.{SameGrid}

-- a store means what another does: it has the same capacity, and the same grid
pub record SameMeaning {S T : Type 0} (s : SlotStore.Ghosts S) (store : S) (t : SlotStore.Ghosts T) (other : T) : Type 0 where
  pub capacity_same : t.capacity other ≡ s.capacity store
  pub grid_same : SameGrid (s.grid store) (t.grid other)
