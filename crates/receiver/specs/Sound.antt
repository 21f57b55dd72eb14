-- When a store fits a shape.
use Rattle.std.specs.Prelude.{◌≡◌, ℕ, ◌^◌, ◌<◌, List, length, Some, Option, slice_index}
use Rattle.layout.specs.declared.shape.Shape.{Shape}
use Rattle.layout.specs.Sizes.{packet_of}
use Rattle.store.specs.Grids.{Grid}

-- the words are a packet of this size
pub record IsPacket (size : ℕ) (ws : List ℕ) : Type 0 where
  pub long : length ws ≡ size
  pub words : (k : ℕ) → slice_index ws k < 2 ^ 32

-- the grid has the shape's sizes, and each filled slot holds one of its packets
pub record Fitted (s : Shape) (g : Grid) : Type 0 where
  pub rows : g.rows ≡ s.blocks
  pub columns : g.columns ≡ s.positions
  pub size : g.size ≡ packet_of s
  pub packets : (i j : ℕ) (ws : List ℕ) → g.slots i j ≡ Some ws → IsPacket (packet_of s) ws

-- if a shape is set, then it is one for the arithmetic, and the store has been formatted for it
abbrev pub Sound : ℕ → Option Shape → Grid → Type 0
Sound bits shape g = (s : Shape) → shape ≡ Some s → (s.rows ≡ bits) × Fitted s g
