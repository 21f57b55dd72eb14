-- Frame 0 is the shape; frame f, from 1 on, carries a packet.
use Rattle.std.specs.Prelude.{◌≡◌, ℕ, ◌-◌, ◌*◌, ◌/◌, ◌%◌, ◌<◌, ◌≤◌, cond, ◌&&◌, List, Some, None, Option, nat_le}
use Rattle.refusal.specs.declared.Refusal.TheVariants.{OutsideShape}
use Rattle.refusal.specs.Numbers.{said}
use Rattle.layout.specs.declared.shape.Shape.{Shape}

abbrev pub frame_block : Shape → ℕ → ℕ
frame_block s f = (f - 1) % s.blocks

abbrev pub frame_position : Shape → ℕ → ℕ
frame_position s f = (f - 1) / s.blocks

-- a block and a position within it
abbrev pub InsideShape : Shape → ℕ × ℕ → Type 0
InsideShape s at = (at.0 < s.blocks) × (at.1 < s.positions)

-- the block and the position whose packet a frame carries
abbrev pub Carries : Shape → ℕ → ℕ × ℕ → Type 0
Carries s f at = (at.0 ≡ frame_block s f) × (at.1 ≡ frame_position s f)

-- the number of the last frame
abbrev pub last_frame : Shape → ℕ
last_frame s = s.blocks * s.positions

-- refused, unless the frame is one of a packet
abbrev pub number_refusal : Shape → ℕ → Option (ℕ × List ℕ)
number_refusal s f = cond (nat_le 1 f && nat_le f (last_frame s)) None (Some (said OutsideShape))

-- the frame that carries a position of a block, and the only one
pub record Carried (s : Shape) (block position : ℕ) : Type 0 where
  pub frame : ℕ
  pub numbered : (1 ≤ frame) × (frame ≤ last_frame s)
  pub at : (frame_block s frame ≡ block) × (frame_position s frame ≡ position)
  pub only : (f : ℕ) → 1 ≤ f → frame_block s f ≡ block → frame_position s f ≡ position → f ≡ frame

-- each position of each block comes exactly once
abbrev pub EachOnce : Shape → Type 0
EachOnce s = (block position : ℕ) → block < s.blocks → position < s.positions → Carried s block position
