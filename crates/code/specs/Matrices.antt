-- The matrices of field elements, by rows as numbers, and a table of them.
use Rattle.std.specs.Prelude.{◌≡◌, ℕ, ◌*◌, ◌^◌, ◌<◌, List, slice_index}
use Rattle.algebra.specs.Code.{xors, bit}
use Rattle.code.specs.Subsets.{RowTable}

module _ (bits : ℕ) (prod : ℕ → ℕ → ℕ) where
  -- column j of the matrix of a is a · α^j
  abbrev pub Columns : ℕ → List ℕ → Type 0
  Columns a columns = (j : ℕ) → j < bits → slice_index columns j ≡ prod a (2 ^ j)

  -- row i of the matrix of a, as a number: its bit j is bit i of a · α^j
  unfoldable pub matrix_row : ℕ → ℕ → ℕ
  matrix_row a i = xors bits (λ j. bit i (prod a (2 ^ j)) * 2 ^ j)

  abbrev pub MatrixOf : ℕ → List ℕ → Type 0
  MatrixOf a matrix = (i : ℕ) → i < bits → slice_index matrix i ≡ matrix_row a i

  -- a table of the matrices of the elements 2^j, a row each
  abbrev pub ElementTable : List ℕ → Type 0
  ElementTable table = RowTable bits bits (λ j. matrix_row (2 ^ j)) table
