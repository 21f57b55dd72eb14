-- The words and the blocks of an image.
use Rattle.std.specs.Prelude.{◌≡◌, ℕ, ◌+◌, ◌*◌, ◌<◌, ◌≤◌, List, drop, length, slice_index}
use Rattle.std.specs.Int.{w32, from_be_bytes}
use Rattle.layout.specs.declared.shape.Dimensions.{Dimensions}
use Rattle.layout.specs.declared.shape.Shape.{Shape}
use Rattle.layout.specs.Sizes.{packet_of}
use Rattle.layout.specs.Made.{dimensions_of}

-- word i: bytes 4 i to 4 i + 3, highest first, with zeros behind the last byte
abbrev pub word_at : List ℕ → ℕ → ℕ
word_at bytes i = from_be_bytes w32 (drop (4 * i) bytes)

-- so many words are the first of these bytes
pub record WordsOf (bytes : List ℕ) (count : ℕ) (words : List ℕ) : Type 0 where
  pub long : length words ≡ count
  pub each : (i : ℕ) → i < count → slice_index words i ≡ word_at bytes i

-- how many bytes of an image a block carries
abbrev pub bytes_of : Shape → ℕ
bytes_of s = 4 * (s.sources * packet_of s)

-- blocks of these dimensions, just as many as an image of so many bytes needs
pub record ShapeFor (block : Dimensions) (bytes : ℕ) (s : Shape) : Type 0 where
  pub asked : dimensions_of s ≡ record block { blocks = s.blocks }
  pub enough : bytes ≤ s.blocks * bytes_of s
  pub least : s.blocks * bytes_of s < bytes + bytes_of s
