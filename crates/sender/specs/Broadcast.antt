-- A broadcast sends one frame a turn, from turn 0 on.
use Rattle.std.specs.Prelude.{◌≡◌, ℕ, ◌+◌, ◌-◌, ◌/◌, ◌%◌, ◌<◌, ◌≤◌, cond, ◌↔◌, List, Some, None, Option, ◌==◌, nat_lt}
use Rattle.refusal.specs.declared.Refusal.TheVariants.{OutsideShape}
use Rattle.refusal.specs.Numbers.{said}
use Rattle.layout.specs.declared.shape.Shape.{Shape}
use Rattle.sender.specs.Numbering.{last_frame}

-- the number of the frame of a turn: the shape's, then fifty packet frames, and so on
abbrev pub frame_in : ℕ → ℕ
frame_in turn = cond (turn % 51 == 0) 0 (turn - turn / 51)

-- how many turns there are: one for the shape, one for each packet, and one for every fiftieth of them
abbrev pub turns_of : Shape → ℕ
turns_of s = 1 + last_frame s + last_frame s / 50

-- refused, unless a frame goes out in the turn
abbrev pub turn_refusal : Shape → ℕ → Option (ℕ × List ℕ)
turn_refusal s turn = cond (nat_lt turn (turns_of s)) None (Some (said OutsideShape))

-- a frame goes out in one turn and in no other
abbrev pub GoesOnce : Shape → ℕ → Type 0
GoesOnce s f = (turn : ℕ) × (turn < turns_of s) × ((u : ℕ) → (frame_in u ≡ f) ↔ (u ≡ turn))

-- the packet frame of a number is the fiftieth since the shape's
abbrev pub Fiftieth : ℕ → Type 0
Fiftieth f = (1 ≤ f) × (f % 50 ≡ 0)

-- the order of a broadcast
pub record InOrder (s : Shape) : Type 0 where
  -- the shape's frame goes out first, and then just behind every fiftieth packet frame
  pub first : frame_in 0 ≡ 0
  pub again : (turn : ℕ) → (frame_in (turn + 1) ≡ 0) ↔ Fiftieth (frame_in turn)
  -- also behind the last packet frame, if that is a fiftieth
  pub behind : (turn : ℕ) → turn < turns_of s → Fiftieth (frame_in turn) → turn + 1 < turns_of s
  -- every packet frame goes out once, in the order of their numbers, and nothing else does
  pub each : (f : ℕ) → 1 ≤ f → f ≤ last_frame s → GoesOnce s f
  pub ascends : (u v : ℕ) → u < v → 1 ≤ frame_in u → 1 ≤ frame_in v → frame_in u < frame_in v
  pub inside : (turn : ℕ) → turn < turns_of s → frame_in turn ≤ last_frame s
