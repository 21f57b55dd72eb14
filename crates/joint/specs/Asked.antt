-- What a board is asked: to take the frames that arrive, to repair every block, and to give every packet.
use Rattle.std.specs.Prelude.{◌≡◌, ℕ, ◌+◌, ◌<◌, ◌≤◌, List, [], ◌∷◌, ◌++◌, length, Some, slice_get}
use Rattle.layout.specs.declared.shape.Shape.{Shape}
use Rattle.layout.specs.Sizes.{parity_of, Packets}
use Rattle.frame.specs.Frames.{parse}
use Rattle.sender.specs.Numbering.{frame_block, frame_position, last_frame}
use Rattle.sender.specs.Broadcast.{frame_in, turns_of}
use Rattle.sender.specs.Sent.{sent}
use Rattle.history.specs.declared.call.Call.TheVariants.{Take, Repair, Fetch}
use Rattle.history.specs.declared.call.Entry.{Entry}
use Rattle.joint.specs.Sends.{sends}
use Rattle.joint.specs.declared.board.Board.{Board}
use Rattle.joint.specs.declared.head_end.HeadEnd.{HeadEnd}

-- a fact of each entry, by its number
abbrev pub AtEach : (ℕ → Entry → Type 0) → List Entry → Type 0
AtEach P entries = (k : ℕ) (e : Entry) → slice_get entries k ≡ Some e → P k e

-- to take the frame that a head-end sends in a turn
pub record AsksTurn (h : HeadEnd) (turn : ℕ) (e : Entry) : Type 0 where
  pub call : e.call ≡ Take
  pub frame : parse e.run.items ≡ sent (sends h) (frame_in turn)

-- to take frames in the order of their turns, from one turn up to another
abbrev pub InTurns : HeadEnd → ℕ → ℕ → List Entry → Type 0
InTurns h from end [] = Unit {0}
InTurns h from end (e ∷ entries) = (turn : ℕ) × (from ≤ turn) × (turn < end) × AsksTurn h turn e × InTurns h (turn + 1) end entries

-- to repair block k, with a work run of its length
pub record AsksRepair (s : Shape) (k : ℕ) (e : Entry) : Type 0 where
  pub call : e.call ≡ Repair k
  pub right : Packets s (parity_of s + 1) e.run.items

-- to fetch the packet of frame k + 1, into a run of its length
pub record AsksFetch (s : Shape) (k : ℕ) (e : Entry) : Type 0 where
  pub call : e.call ≡ Fetch (frame_block s (k + 1)) (frame_position s (k + 1))
  pub right : Packets s 1 e.run.items

-- the repairs of all blocks; the fetches of all packets
abbrev pub Repairs : Shape → List Entry → Type 0
Repairs s entries = (length entries ≡ s.blocks) × AtEach (AsksRepair s) entries

abbrev pub FetchesAll : Shape → List Entry → Type 0
FetchesAll s entries = (length entries ≡ last_frame s) × AtEach (AsksFetch s) entries

-- all that a board is asked, in this order
pub record Asked (h : HeadEnd) (b : Board) : Type 0 where
  pub frames : List Entry
  pub repairs : List Entry
  pub fetches : List Entry
  pub entries_are : b.entries.items ≡ frames ++ (repairs ++ fetches)
  pub heard : length frames ≡ b.heard
  pub taken : InTurns h b.link.late (turns_of h.shape) frames
  pub repaired : Repairs h.shape repairs
  pub fetched : FetchesAll h.shape fetches
