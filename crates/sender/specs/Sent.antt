-- What each frame of a transmission holds.
use Rattle.std.specs.Prelude.{◌≡◌, ℕ, zero, suc, ◌+◌, ◌-◌, ◌*◌, cond, List, length, Some, None, Ok, Err, Option, Result, ◌==◌, nat_le, nat_lt}
use Rattle.refusal.specs.declared.Refusal.{Refusal}
use Rattle.refusal.specs.declared.Refusal.TheVariants.{OutsideShape, WrongRun}
use Rattle.refusal.specs.Numbers.{said, or_else}
use Rattle.layout.specs.Sizes.{parity_of, packet_of, Packets}
use Rattle.layout.specs.Made.{dimensions_of}
use Rattle.frame.specs.Frames.{Sight, shape, packet, frame_words, parse}
use Rattle.sender.specs.Numbering.{frame_block, frame_position, last_frame, number_refusal}
use Rattle.sender.specs.Prepared.{part, runs_refusal}
use Rattle.sender.specs.Sending.{Sending}

-- the packet at a position of a block: of the parity words for a parity position, of the image for a source position
abbrev pub packet_at : Sending → ℕ → ℕ → List ℕ
packet_at t block position =
    let s = t.shape in
    cond (nat_lt position (parity_of s))
    (part (packet_of s) t.parity (block * parity_of s + position))
    (part (packet_of s) t.image (block * s.sources + (position - parity_of s)))

-- the packets of all blocks are there
abbrev pub AllPackets : Sending → Type 0
AllPackets t = Packets t.shape (t.shape.blocks * t.shape.sources) t.image × Packets t.shape (t.shape.blocks * parity_of t.shape) t.parity

abbrev pub packets_refusal : Sending → Option (ℕ × List ℕ)
packets_refusal t = runs_refusal t.shape t.image t.parity

abbrev pub payload_of : Sending → ℕ → List ℕ
payload_of t f = packet_at t (frame_block t.shape f) (frame_position t.shape f)

abbrev pub payload_refusal : Sending → ℕ → Option (ℕ × List ℕ)
payload_refusal t f = or_else (number_refusal t.shape f) (packets_refusal t)

-- frame 0 is the shape; every other one has its block, its position and its payload
abbrev pub sent : Sending → ℕ → Sight
sent t zero = shape (dimensions_of t.shape)
sent t (suc f) = packet (frame_block t.shape (suc f)) (frame_position t.shape (suc f)) (payload_of t (suc f))

-- a number above that of the last frame is refused before runs that are not of all blocks
abbrev pub sent_refusal : Sending → ℕ → Option (ℕ × List ℕ)
sent_refusal t f = or_else (cond (nat_le f (last_frame t.shape)) None (Some (said OutsideShape))) (packets_refusal t)

-- then a run that has not the length of the frame
abbrev pub frame_refusal : Sending → List ℕ → ℕ → Option (ℕ × List ℕ)
frame_refusal t run f = or_else (sent_refusal t f) (cond (length run == length (frame_words (sent t f))) None (Some (said (WrongRun 2))))

-- the run has the words of the frame, or is as it was
abbrev pub after_frame : Result (Unit {0}) Refusal → Sending → List ℕ → ℕ → List ℕ
after_frame (Ok u) t run f = frame_words (sent t f)
after_frame (Err e) t run f = run

-- what was written reads back as the shape, or as the block, the position and the payload
abbrev pub Received : Result (Unit {0}) Refusal → Sending → ℕ → List ℕ → Type 0
Received (Ok u) t f run = parse run ≡ sent t f
Received (Err e) t f run = Unit {0}
