-- Sums of rows: of those whose bits are set in a number, and tables of them for groups of four rows.
use Rattle.std.specs.Prelude.{◌≡◌, ℕ, ◌+◌, ◌-◌, ◌*◌, ◌^◌, ◌<◌, List, min}
use Rattle.algebra.specs.Code.{Code, Packet, xors, bit}
use Rattle.layout.specs.Blocks.{packet_in}

-- word c of those of the m rows of a packet whose bits are set in a number, added up
abbrev pub selected : ℕ → ℕ → Packet → ℕ → ℕ
selected m number p c = xors m (λ j. bit j number * p j c)

-- a table of rows of w words has the sums of all subsets of `count` rows of p: its row v is the sum of those whose bits are set in v
abbrev pub SubsetSums : ℕ → Packet → ℕ → List ℕ → Type 0
SubsetSums w p count table = (v c : ℕ) → v < 2 ^ count → c < w → packet_in w table v c ≡ selected count v p c

-- the same of the `count` rows of p from row `first` on, in the rows of the table from row `from` on
abbrev pub GroupSums : ℕ → Packet → ℕ → ℕ → ℕ → List ℕ → Type 0
GroupSums w p first count from table =
    (v c : ℕ) → v < 2 ^ count → c < w → packet_in w table (from + v) c ≡ selected count v (λ j. p (first + j)) c

-- a table of m rows, at most 10: the sums of rows 0 to 3, from its row 16 on those of rows 4 to 7, and from its row 32 on those of rows 8
-- and 9
pub record RowTable (m w : ℕ) (p : Packet) (table : List ℕ) : Type 0 where
  pub low : SubsetSums w p (min m 4) table
  pub middle : GroupSums w p 4 (min m 8 - min m 4) 16 table
  pub high : GroupSums w p 8 (m - min m 8) 32 table

-- the table of a packet of a code
abbrev pub TableOf : Code → Packet → List ℕ → Type 0
TableOf C p table = RowTable C.rows C.words p table
