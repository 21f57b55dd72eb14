-- What the calls of a receiver answer, and what they leave behind. A receiver is spoken of by its meaning.
use Rattle.std.specs.Prelude.{◌≡◌, ℕ, ◌*◌, ◌<◌, Bool, true, false, cond, ◌&&◌, List, [], ◌∷◌, is_some, Some, None, Ok, Err, Option, Result, MatchBool, ◌==◌, nat_lt}
use Rattle.refusal.specs.declared.Refusal.{Refusal}
use Rattle.refusal.specs.declared.Refusal.TheVariants.{NoShape, OtherPacket, OutsideShape, SlotEmpty}
use Rattle.refusal.specs.Numbers.{said, or_else}
use Rattle.layout.specs.declared.shape.Dimensions.{Dimensions}
use Rattle.layout.specs.declared.shape.Shape.{Shape}
use Rattle.layout.specs.Checks.{run_refusal}
use Rattle.layout.specs.Made.{dimensions_of, shape_refusal}
use Rattle.algebra.specs.Code.{count}
use Rattle.store.specs.Grids.{Grid, format_refusal, Emptied, Filled}
use Rattle.frame.specs.Frames.{Sight, shape, packet, refused}
use Rattle.receiver.specs.declared.Taken.{Taken}
use Rattle.receiver.specs.declared.Taken.TheVariants.{Shaped, Fresh, Known}
use Rattle.receiver.specs.Meaning.{Meaning}

-- Checks that several calls make

-- NoShape while no shape is set, then what is said of the shape
abbrev pub of_shape : Option Shape → (Shape → Option (ℕ × List ℕ)) → Option (ℕ × List ℕ)
of_shape None check = Some (said NoShape)
of_shape (Some s) check = check s

-- the shape that is set, or NoShape while none is
abbrev pub ShapeSaid : Option Shape → Result Shape Refusal → Type 0
ShapeSaid o (Ok s) = o ≡ Some s
ShapeSaid o (Err e) = (o ≡ None) × (e ≡ NoShape)

-- OutsideShape, unless the shape has the block
abbrev pub block_refusal : Shape → ℕ → Option (ℕ × List ℕ)
block_refusal s i = cond (nat_lt i s.blocks) None (Some (said OutsideShape))

-- OutsideShape, unless the shape has the position
abbrev pub position_refusal : Shape → ℕ → Option (ℕ × List ℕ)
position_refusal s j = cond (nat_lt j s.positions) None (Some (said OutsideShape))

-- OutsideShape, unless the shape has the block and the position
abbrev pub place_refusal : Shape → ℕ → ℕ → Option (ℕ × List ℕ)
place_refusal s i j = or_else (block_refusal s i) (position_refusal s j)

-- WrongRun at place 0, unless there are just the words of a packet
abbrev pub length_refusal : Shape → List ℕ → Option (ℕ × List ℕ)
length_refusal s ws = run_refusal s 1 ws 0

-- TAKE

-- whether two shapes have the same five numbers
abbrev pub same_dimensions : Dimensions → Dimensions → Bool
same_dimensions d e = d.rows == e.rows && (d.positions == e.positions && (d.sources == e.sources && (d.blocks == e.blocks && d.words == e.words)))

-- whether two lists are the same words
abbrev pub same_words : List ℕ → List ℕ → Bool
same_words [] [] = true
same_words [] (y ∷ ys) = false
same_words (x ∷ xs) [] = false
same_words (x ∷ xs) (y ∷ ys) = x == y && same_words xs ys

-- whether a slot holds just these words
abbrev pub slot_holds : Option (List ℕ) → List ℕ → Bool
slot_holds None ws = false
slot_holds (Some held) ws = same_words held ws

-- OtherPacket, if the slot holds another packet
abbrev pub other_refusal : Option (List ℕ) → List ℕ → Option (ℕ × List ℕ)
other_refusal None ws = None
other_refusal (Some held) ws = cond (same_words held ws) None (Some (said OtherPacket))

-- the refusal of a packet at a block and a position
abbrev pub packet_refusal : Meaning → ℕ → ℕ → List ℕ → Option (ℕ × List ℕ)
packet_refusal m i j ws =
    of_shape m.shape (λ s. or_else (length_refusal s ws) (or_else (place_refusal s i j) (other_refusal (m.grid.slots i j) ws)))

-- the refusal of a shape's dimensions: by the rules of shapes, then by the store
abbrev pub start_refusal : ℕ → Meaning → Dimensions → Option (ℕ × List ℕ)
start_refusal bits m d = or_else (shape_refusal bits d) (format_refusal m.capacity d.blocks d.positions (d.rows * d.words))

-- whether the shape that is set has these dimensions, so that its frame has the very words of one that tells them
abbrev pub is_set : Option Shape → Dimensions → Bool
is_set None d = false
is_set (Some s) d = same_dimensions (dimensions_of s) d

-- the refusal of a frame: none, if it tells the shape that is set
abbrev pub take_refusal : ℕ → Meaning → Sight → Option (ℕ × List ℕ)
take_refusal bits m (shape d) = cond (is_set m.shape d) None (start_refusal bits m d)
take_refusal bits m (packet i j ws) = packet_refusal m i j ws
take_refusal bits m (refused e) = Some e

-- a shape of these dimensions is set, and every slot of its grid is empty
pub record Starts (m : Meaning) (d : Dimensions) (after : Meaning) : Type 0 where
  pub made : Shape
  pub dimensions : dimensions_of made ≡ d
  pub shape_is : after.shape ≡ Some made
  pub capacity_same : after.capacity ≡ m.capacity
  pub emptied : Emptied d.blocks d.positions (d.rows * d.words) after.grid

-- the packet now fills its slot, which was empty; all else is as it was
pub record Keeps (m : Meaning) (i j : ℕ) (ws : List ℕ) (after : Meaning) : Type 0 where
  pub shape_same : after.shape ≡ m.shape
  pub capacity_same : after.capacity ≡ m.capacity
  pub row_inside : i < m.grid.rows
  pub column_inside : j < m.grid.columns
  pub was_empty : m.grid.slots i j ≡ None
  pub filled : Filled m.grid i j ws after.grid

-- the slot held just this packet before, and nothing changed
pub record Knows (m : Meaning) (i j : ℕ) (ws : List ℕ) (after : Meaning) : Type 0 where
  pub same : after ≡ m
  pub row_inside : i < m.grid.rows
  pub column_inside : j < m.grid.columns
  pub held : m.grid.slots i j ≡ Some ws

-- what a packet frame does
abbrev pub TookPacket : Meaning → ℕ → ℕ → List ℕ → Result Taken Refusal → Meaning → Type 0
TookPacket m i j ws (Ok Shaped) after = ⊥
TookPacket m i j ws (Ok Fresh) after = Keeps m i j ws after
TookPacket m i j ws (Ok Known) after = Knows m i j ws after
TookPacket m i j ws (Err e) after = after ≡ m

-- what the frame of another shape than that which is set does
abbrev pub Started : Meaning → Dimensions → Result Taken Refusal → Meaning → Type 0
Started m d (Ok Shaped) after = Starts m d after
Started m d (Ok Fresh) after = ⊥
Started m d (Ok Known) after = ⊥
Started m d (Err e) after = after ≡ m

-- what a shape frame does: if it tells the shape that is set, it is known, and nothing changes
abbrev pub TookShape : Meaning → Dimensions → Result Taken Refusal → Meaning → Type 0
TookShape m d answer after = MatchBool (is_set m.shape d) ((answer ≡ Ok Known) × (after ≡ m)) (Started m d answer after)

-- what a frame does, by the answer
abbrev pub Took : Meaning → Sight → Result Taken Refusal → Meaning → Type 0
Took m (shape d) answer after = TookShape m d answer after
Took m (packet i j ws) answer after = TookPacket m i j ws answer after
Took m (refused e) (Ok t) after = ⊥
Took m (refused e) (Err f) after = after ≡ m

-- FETCH

-- SlotEmpty, if the slot is empty
abbrev pub empty_refusal : Option (List ℕ) → Option (ℕ × List ℕ)
empty_refusal None = Some (said SlotEmpty)
empty_refusal (Some ws) = None

-- the refusal of a read from a block of the shape
abbrev pub read_refusal : Shape → Grid → ℕ → ℕ → List ℕ → Option (ℕ × List ℕ)
read_refusal s g i j run = or_else (position_refusal s j) (or_else (length_refusal s run) (empty_refusal (g.slots i j)))

-- the refusal of a fetch
abbrev pub fetch_refusal : Meaning → ℕ → ℕ → List ℕ → Option (ℕ × List ℕ)
fetch_refusal m i j run = of_shape m.shape (λ s. or_else (block_refusal s i) (read_refusal s m.grid i j run))

-- COUNT

-- the refusal of a count
abbrev pub count_refusal : Meaning → ℕ → Option (ℕ × List ℕ)
count_refusal m i = of_shape m.shape (λ s. block_refusal s i)

-- whether the slot of a block and a position is filled
abbrev pub held_in : Grid → ℕ → ℕ → Bool
held_in g i j = is_some (g.slots i j)

-- a count is the number of filled slots among the positions of the block
abbrev pub Counted : Meaning → ℕ → Result ℕ Refusal → Type 0
Counted m i (Ok n) = (s : Shape) → m.shape ≡ Some s → n ≡ count (held_in m.grid i) s.positions
Counted m i (Err e) = Unit {0}
