-- Packets added to the sums of a block, and the first word of the sums that is not zero.
use Rattle.std.specs.Prelude.{◌≡◌, ℕ, ◌+◌, ◌*◌, ◌<◌, ◌≤◌, List, Some, None, Option, slice_index, ◌≢◌}
use Rattle.galois.specs.Field.{power}
use Rattle.algebra.specs.Code.{Code, Packet, Block, SamePacket, scaled, xors}
use Rattle.layout.specs.Blocks.{size_of, packet_in, block_at}
use Rattle.code.specs.Packets.{plus}

-- the sums from `first` up to `end` have gained x^μ times a packet, and the others are as they were
pub record Absorbed (C : Code) (first end x : ℕ) (p : Packet) (before after : List ℕ) : Type 0 where
  pub at : (μ : ℕ) → first ≤ μ → μ < end
      → SamePacket C (block_at C after μ) (plus (block_at C before μ) (scaled C (power C.product x μ) p))
  pub below : (μ : ℕ) → μ < first → SamePacket C (block_at C after μ) (block_at C before μ)
  pub above : (μ : ℕ) → end ≤ μ → μ < C.parity → SamePacket C (block_at C after μ) (block_at C before μ)

-- every sum from `first` on has gained x^μ times the packet that a run holds
abbrev pub AbsorbedFrom : Code → ℕ → ℕ → List ℕ → List ℕ → List ℕ → Type 0
AbsorbedFrom C first x packet before after = Absorbed C first C.parity x (packet_in C.words packet) before after

-- every sum has gained its share of the packet at a position: sum μ gains α^(μ·position) times it
abbrev pub ShareAdded : Code → ℕ → Packet → List ℕ → List ℕ → Type 0
ShareAdded C position p before after =
    (μ : ℕ) → μ < C.parity
    → SamePacket C (block_at C after μ) (plus (block_at C before μ) (scaled C (power C.product 2 (μ * position)) p))

-- every sum has gained its share of the packet that a run holds
abbrev pub Gained : Code → ℕ → List ℕ → List ℕ → List ℕ → Type 0
Gained C position packet before after = ShareAdded C position (packet_in C.words packet) before after

-- the run holds the sums of the first n packets of a block
abbrev pub SumsTo : Code → Block → ℕ → List ℕ → Type 0
SumsTo C b n run =
    (μ : ℕ) → μ < C.parity → SamePacket C (block_at C run μ) (λ i c. xors n (λ q. scaled C (power C.product 2 (μ * q)) (b q) i c))

-- the words of the sums from `first` up to `end` are zero
abbrev pub ZeroSums : Code → List ℕ → ℕ → ℕ → Type 0
ZeroSums C run first end = (μ j : ℕ) → first ≤ μ → μ < end → j < size_of C → slice_index run (μ * size_of C + j) ≡ 0

-- word j of sum μ is the first, from sum `first` on, that is not zero
pub record FirstAt (C : Code) (run : List ℕ) (first μ j : ℕ) : Type 0 where
  pub from : first ≤ μ
  pub sum : μ < C.parity
  pub word : j < size_of C
  pub before : ZeroSums C run first μ
  pub left : (k : ℕ) → k < j → slice_index run (μ * size_of C + k) ≡ 0
  pub here : slice_index run (μ * size_of C + j) ≢ 0

abbrev pub FirstNonzero : Code → List ℕ → ℕ → Option (ℕ × ℕ) → Type 0
FirstNonzero C run first None = ZeroSums C run first C.parity
FirstNonzero C run first (Some at) = FirstAt C run first at.0 at.1
