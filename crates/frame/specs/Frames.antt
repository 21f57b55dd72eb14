-- The words of a frame, what words say as a frame, and that the two are inverse to each other.
use Rattle.std.specs.Prelude.{◌≡◌, ℕ, ◌+◌, ◌*◌, ◌/◌, ◌%◌, ◌^◌, Bool, true, false, cond, ◌&&◌, List, [], ◌∷◌, length, drop, Some, None, Ok, Err, Option, Result, ◌==◌, ◌≢◌, nat_lt, slice_index}
use Rattle.refusal.specs.declared.Refusal.{Refusal}
use Rattle.refusal.specs.declared.Refusal.TheVariants.{BadFrame, WrongRun}
use Rattle.refusal.specs.Numbers.{said}
use Rattle.layout.specs.declared.shape.Dimensions.{Dimensions}
use Rattle.frame.specs.declared.Frame.{Frame}
use Rattle.frame.specs.declared.Frame.TheVariants.{Shape, Packet}

-- What a frame holds, with the payload's words themselves in the place of a reference; or why there is no frame.
-- A shape has its dimensions; a packet has its block, its position and its payload.
pub data Sight : Type 0 where
  shape : Dimensions → Sight
  packet : ℕ → ℕ → List ℕ → Sight
  refused : (ℕ × List ℕ) → Sight

abbrev pub content_of : Frame → Sight
content_of (Shape d) = shape d
content_of (Packet block position payload) = packet block position payload.now

abbrev pub seen : Result Frame Refusal → Sight
seen (Ok f) = content_of f
seen (Err e) = refused (said e)

-- Writing

-- each number fits its bits
abbrev pub fits : Sight → Bool
fits (shape d) = nat_lt d.rows 16 && (nat_lt d.positions 4096 && (nat_lt d.sources 4096 && (nat_lt d.blocks 4096 && nat_lt d.words 256)))
fits (packet block position payload) = nat_lt block 4096 && nat_lt position 4096
fits (refused e) = false

-- the words of a frame whose numbers fit; the factor of 2 ^ 28 is the kind
abbrev pub frame_words : Sight → List ℕ
frame_words (shape d) =
    (1 * 2 ^ 28 + d.rows * 2 ^ 24 + d.positions * 2 ^ 12 + d.sources) ∷ (2 * 2 ^ 28 + d.blocks * 2 ^ 16 + d.words) ∷ []
frame_words (packet block position payload) = (3 * 2 ^ 28 + block * 2 ^ 12 + position) ∷ payload
frame_words (refused e) = []

abbrev pub write_refusal : Sight → List ℕ → Option (ℕ × List ℕ)
write_refusal f run =
    cond (fits f) (cond (length run == length (frame_words f)) None (Some (said (WrongRun 0)))) (Some (said BadFrame))

-- the run after a write
abbrev pub after_write : Result (Unit {0}) Refusal → Sight → List ℕ → List ℕ
after_write (Ok u) f run = frame_words f
after_write (Err e) f run = run

-- Reading

-- `count` bits of a word, the lowest of them the bit `low`
abbrev pub bits_of : ℕ → ℕ → ℕ → ℕ
bits_of word low count = word / 2 ^ low % 2 ^ count

abbrev pub kind_of : ℕ → ℕ
kind_of word = word / 2 ^ 28

-- a word that is not there reads as 0, which is of no kind
abbrev pub is_shape : List ℕ → Bool
is_shape ws =
    (kind_of (slice_index ws 0) == 1) && (length ws == 2 && (kind_of (slice_index ws 1) == 2 && bits_of (slice_index ws 1) 8 8 == 0))

abbrev pub is_packet : List ℕ → Bool
is_packet ws = kind_of (slice_index ws 0) == 3 && (nat_lt 0 (length ws) && bits_of (slice_index ws 0) 24 4 == 0)

abbrev pub shape_of : List ℕ → Sight
shape_of ws =
    let head = slice_index ws 0 in
    let sizes = slice_index ws 1 in
    shape (record {
      rows = bits_of head 24 4;
      positions = bits_of head 12 12;
      sources = bits_of head 0 12;
      blocks = bits_of sizes 16 12;
      words = bits_of sizes 0 8;
    })

abbrev pub packet_of : List ℕ → Sight
packet_of ws = packet (bits_of (slice_index ws 0) 12 12) (bits_of (slice_index ws 0) 0 12) (drop 1 ws)

abbrev pub parse : List ℕ → Sight
parse ws = cond (is_shape ws) (shape_of ws) (cond (is_packet ws) (packet_of ws) (refused (said BadFrame)))

-- What reading and writing are to each other

-- what was read has these words; or no frame has them
abbrev pub Spells : List ℕ → Sight → Type 0
Spells ws (shape d) = (fits (shape d) ≡ true) × (frame_words (shape d) ≡ ws)
Spells ws (packet block position payload) = (fits (packet block position payload) ≡ true) × (frame_words (packet block position payload) ≡ ws)
Spells ws (refused e) = (f : Sight) → fits f ≡ true → frame_words f ≢ ws

-- reading gives what the words say, and it has just these words
pub record Reads (words : List ℕ) (answer : Result Frame Refusal) : Type 0 where
  pub value : seen answer ≡ parse words
  pub spelled : Spells words (seen answer)

-- reading what was written gives it back
abbrev pub ReadsBack : Result (Unit {0}) Refusal → Sight → List ℕ → Type 0
ReadsBack (Ok u) f run = parse run ≡ f
ReadsBack (Err e) f run = Unit {0}
