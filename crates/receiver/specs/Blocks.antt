-- The packets that a block of a grid holds, and the blocks that have them.
use Rattle.std.specs.Prelude.{◌≡◌, ℕ, ◌-◌, ◌<◌, ◌≤◌, not, List, [], Some}
use Rattle.algebra.specs.Code.{Code, Block, SamePacket, among, count}
use Rattle.layout.specs.declared.shape.Shape.{Shape}
use Rattle.layout.specs.declared.losses.LossList.{LossList}
use Rattle.layout.specs.Sizes.{parity_of, lost, LostBelow}
use Rattle.layout.specs.Blocks.{packet_in}
use Rattle.store.specs.Grids.{Grid, packet_or}
use Rattle.receiver.specs.Calls.{held_in}

-- block i of a grid, with zeros at the positions that it does not hold
abbrev pub block_of : Code → Grid → ℕ → Block
block_of C g i q = packet_in C.words (packet_or (g.slots i q) [])

-- the list has the positions that block i does not hold
pub record Missing (s : Shape) (g : Grid) (i : ℕ) (l : LossList) : Type 0 where
  pub same : (q : ℕ) → q < s.positions → among (lost l) l.len q ≡ not (held_in g i q)
  pub below : LostBelow l s.positions
  pub few : l.len ≤ parity_of s

-- how many positions of a block are not held
abbrev pub missing_in : Code → Grid → ℕ → ℕ
missing_in C g i = C.positions - count (held_in g i) C.positions

-- a block has every packet that block i of a grid holds
abbrev pub Agrees : Code → Grid → ℕ → Block → Type 0
Agrees C g i d = (q : ℕ) (ws : List ℕ) → q < C.positions → g.slots i q ≡ Some ws → SamePacket C (d q) (packet_in C.words ws)
