-- What bytes spell, highest first.
use Rattle.std.specs.Prelude.{ℕ, zero, suc, ◌/◌, List, [], ◌∷◌, length, take, drop}
use Rattle.std.specs.Int.{Width, w16, w32, byte_len, from_be_bytes}

-- the first n numbers of a width
unfoldable pub numbers : Width → ℕ → List ℕ → List ℕ
numbers w zero bytes = []
numbers w (suc n) bytes = from_be_bytes w (take (byte_len w) bytes) ∷ numbers w n (drop (byte_len w) bytes)

-- four bytes a word; fewer behind the last word spell nothing
abbrev pub words_of : List ℕ → List ℕ
words_of bytes = numbers w32 (length bytes / 4) bytes

-- two bytes a position
abbrev pub positions_of : List ℕ → List ℕ
positions_of bytes = numbers w16 (length bytes / 2) bytes
