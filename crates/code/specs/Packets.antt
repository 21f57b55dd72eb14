-- Packets added to packets: words, rows that a matrix selects, and multiples by field elements.
use Rattle.std.specs.Prelude.{◌≡◌, ℕ, ◌+◌, ◌*◌, ◌<◌, List, length, bit_xor, slice_index}
use Rattle.algebra.specs.Code.{Code, Packet, SamePacket, scaled}
use Rattle.layout.specs.Blocks.{packet_in, block_at, size_of}
use Rattle.code.specs.Subsets.{selected}

-- two packets added, word by word
abbrev pub plus : Packet → Packet → Packet
plus p q i c = bit_xor (p i c) (q i c)

-- each word has gained the word of the source
abbrev pub AddedWords : List ℕ → List ℕ → List ℕ → Type 0
AddedWords source before after = (c : ℕ) → c < length source → slice_index after c ≡ bit_xor (slice_index before c) (slice_index source c)

-- every row has gained those rows of p that the matrix's row of its number, as a number, selects
abbrev pub AddedRows : ℕ → ℕ → List ℕ → Packet → List ℕ → List ℕ → Type 0
AddedRows m w matrix p before after =
    (i c : ℕ) → i < m → c < w → packet_in w after i c ≡ bit_xor (packet_in w before i c) (selected m (slice_index matrix i) p c)

-- a packet has gained a times p
abbrev pub AddedTimes : Code → ℕ → Packet → List ℕ → List ℕ → Type 0
AddedTimes C a p before after = SamePacket C (packet_in C.words after) (plus (packet_in C.words before) (scaled C a p))

-- packet i of a run lies from word a up to word b
pub record PacketRange (C : Code) (i a b : ℕ) : Type 0 where
  pub start : a ≡ i * size_of C
  pub end : b ≡ i * size_of C + size_of C

-- the packet at a position of a block is another now, and the others are as they were
pub record PacketWritten (C : Code) (position : ℕ) (packet before after : List ℕ) : Type 0 where
  pub at : SamePacket C (block_at C after position) (packet_in C.words packet)
  pub off : (q : ℕ) → (q ≡ position → ⊥) → SamePacket C (block_at C after q) (block_at C before q)
