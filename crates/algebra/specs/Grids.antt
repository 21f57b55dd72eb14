-- The packets of a code as elements of an XOR group that the field acts on.
use Rattle.std.specs.Prelude.{ℕ}
use Rattle.galois.specs.Field.{power}
use Rattle.algebra.specs.Code.{Code, Packet}
use Rattle.algebra.specs.Laws.{Xor, Ops}
use Rattle.algebra.specs.Packets.{words, Rows, rows_xor, ops}

module _ (C : Code) where
  -- the rows and words of a packet that the code has
  abbrev pub Grid : Type 0
  Grid = Rows C.rows (Rows C.words ℕ)

  -- the exclusive or of rows
  abbrev pub row_xor : Xor (Rows C.words ℕ)
  row_xor = rows_xor C.words words

  -- the exclusive or of packets
  abbrev pub grid_xor : Xor Grid
  grid_xor = rows_xor C.rows row_xor

  -- the field's operations and its action on packets
  abbrev pub grid_ops : (ℕ → ℕ) → Ops ℕ Grid
  grid_ops inv = ops row_xor C.rows C.product inv

  -- a packet, within the rows and words of the code
  abbrev pub rows : Packet → Grid
  rows p = λ i h c l. p i c

  -- the nodes α^(p s)
  abbrev pub nodes : (ℕ → ℕ) → ℕ → ℕ
  nodes p s = power C.product 2 (p s)
