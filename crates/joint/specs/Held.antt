-- What a board gave of a transmission.
use Rattle.std.specs.Prelude.{◌≡◌, ℕ, ◌-◌, ◌<◌, ◌≤◌, List, [], ◌∷◌, Some, None, Option, slice_get, drop}
use Rattle.refusal.specs.declared.Refusal.TheVariants.{NoShape}
use Rattle.refusal.specs.Numbers.{or_else}
use Rattle.sender.specs.Numbering.{frame_block, frame_position}
use Rattle.sender.specs.Sending.{Sending}
use Rattle.sender.specs.Sent.{packet_at, payload_of}
use Rattle.history.specs.declared.call.Call.{Call}
use Rattle.history.specs.declared.call.Call.TheVariants.{Take, Fetch}
use Rattle.history.specs.declared.call.Answer.{Answer}
use Rattle.history.specs.declared.call.Answer.TheVariants.{Whole, Fetched, Refused}
use Rattle.history.specs.declared.call.Entry.{Entry}
use Rattle.history.specs.Turns.{refusal_in}
use Rattle.joint.specs.Sends.{sends}
use Rattle.joint.specs.declared.board.Board.{Board}
use Rattle.joint.specs.declared.head_end.HeadEnd.{HeadEnd}

-- a fetch of a position of a block was done, and the run has these words
pub record Gave (block position : ℕ) (words : List ℕ) (e : Entry) : Type 0 where
  pub call : e.call ≡ Fetch block position
  pub answer : e.answer ≡ Fetched
  pub run : e.run.items ≡ words

abbrev pub GaveIn : ℕ → ℕ → List ℕ → Option Entry → Type 0
GaveIn block position words (Some e) = Gave block position words e
GaveIn block position words None = ⊥

-- every packet that was sent, of the image and of the parity, was fetched: in the order of the frames that carry them
abbrev pub GaveAll : Sending → List Entry → Type 0
GaveAll t fetches =
    (block position : ℕ) → block < t.shape.blocks → position < t.shape.positions
    → (f : ℕ) × (1 ≤ f) × (frame_block t.shape f ≡ block) × (frame_position t.shape f ≡ position) × GaveIn block position (packet_at t block position) (slice_get fetches (f - 1))

-- the packet of a frame was fetched
abbrev pub GaveFrame : Sending → List Entry → ℕ → Type 0
GaveFrame t fetches f = GaveIn (frame_block t.shape f) (frame_position t.shape f) (payload_of t f) (slice_get fetches (f - 1))

-- the packets of the frames from 1 up to one, which is left out
abbrev pub GaveBelow : Sending → List Entry → ℕ → Type 0
GaveBelow t fetches end = (f : ℕ) → 1 ≤ f → f < end → GaveFrame t fetches f

-- a board gave every packet that a head-end sends: the fetches come behind the frames and a repair of each block
abbrev pub GaveSent : HeadEnd → Board → Type 0
GaveSent h b = GaveAll (sends h) (drop h.shape.blocks (drop b.heard b.entries.items))

-- there is an entry, and its block became whole with so many packets restored
abbrev pub WholeIn : ℕ → Option Entry → Type 0
WholeIn n (Some e) = e.answer ≡ Whole n
WholeIn n None = ⊥

-- what a call was refused with; a frame that comes before any shape is as good as lost
abbrev pub refusal_of : Call → Answer → Option (ℕ × List ℕ)
refusal_of Take (Refused NoShape) = None
refusal_of call answer = refusal_in answer

-- the first refusal among the answers
abbrev pub first_refusal : List Entry → Option (ℕ × List ℕ)
first_refusal [] = None
first_refusal (e ∷ entries) = or_else (refusal_of e.call e.answer) (first_refusal entries)
