-- The packets of a run, and the code of a shape.
use Rattle.std.specs.Prelude.{◌≡◌, ℕ, ◌+◌, ◌-◌, ◌*◌, List, length, slice_index}
use Rattle.algebra.specs.Code.{Code, Packet, Block}
use Rattle.layout.specs.declared.shape.Dimensions.{Dimensions}
use Rattle.layout.specs.declared.shape.Shape.{Shape}
use Rattle.layout.specs.Made.{dimensions_of}

-- the code of dimensions over a product, and of a shape
abbrev pub code_for : Dimensions → (ℕ → ℕ → ℕ) → Code
code_for d prod = record { rows = d.rows; words = d.words; positions = d.positions; parity = d.positions - d.sources; product = prod }

abbrev pub code_of : Shape → (ℕ → ℕ → ℕ) → Code
code_of s prod = code_for (dimensions_of s) prod

-- a run of one packet, with w words in a row
abbrev pub packet_in : ℕ → List ℕ → Packet
packet_in w run i c = slice_index run (i * w + c)

-- the words of a packet
abbrev pub size_of : Code → ℕ
size_of C = C.rows * C.words

-- a run of just so many packets
abbrev pub Run : Code → ℕ → List ℕ → Type 0
Run C count run = length run ≡ count * size_of C

-- a run of packets, one after another, as a block: position q lies at words q·m·w up to (q + 1)·m·w
abbrev pub block_at : Code → List ℕ → Block
block_at C run q i c = slice_index run (q * size_of C + (i * C.words + c))

-- a run of zeros
abbrev pub ZeroRun : List ℕ → Type 0
ZeroRun run = (k : ℕ) → slice_index run k ≡ 0
