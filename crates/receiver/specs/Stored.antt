-- What a block in a store holds, and what is read of it.
use Rattle.std.specs.Prelude.{◌≡◌, ℕ, Bool, List, Ok, Option, Result}
use Rattle.refusal.specs.declared.Refusal.{Refusal}
use Rattle.algebra.specs.Code.{count}
use Rattle.layout.specs.declared.losses.LossList.{LossList}
use Rattle.store.specs.declared.SlotStore
use Rattle.store.specs.Grids.{Grid, after_get}
use Rattle.receiver.specs.declared.stored.StoredBlock.{StoredBlock}
use Rattle.receiver.specs.Calls.{held_in, read_refusal}
use Rattle.receiver.specs.Steps.{ListsMissing}

module _ {S : Type 0} {t : SlotStore.Ghosts S} (v : StoredBlock S t) where
  -- the grid of the store
  abbrev pub grid_in : Grid
  grid_in = t.grid v.store.now

  -- whether a position is held
  abbrev pub has : ℕ → Bool
  has = held_in grid_in v.block

  abbrev pub read_refused : ℕ → List ℕ → Option (ℕ × List ℕ)
  read_refused position run = read_refusal v.shape grid_in v.block position run

  -- the run after a packet was to be copied to it
  abbrev pub after_read : Result (Unit {0}) Refusal → ℕ → List ℕ → List ℕ
  after_read r position run = after_get r grid_in v.block position run

  -- how many positions are held; nothing is refused
  abbrev pub Counts : Result ℕ Refusal → Type 0
  Counts r = r ≡ Ok (count has v.shape.positions)

  abbrev pub Lists : Result LossList Refusal → Type 0
  Lists = ListsMissing v.shape grid_in v.block
