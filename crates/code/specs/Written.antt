-- Packets written to the lost positions of a block.
use Rattle.std.specs.Prelude.{◌≡◌, ℕ, ◌<◌, false, List}
use Rattle.algebra.specs.Code.{Code, among}
use Rattle.layout.specs.declared.losses.LossList.{LossList}
use Rattle.layout.specs.Sizes.{lost}
use Rattle.layout.specs.Blocks.{block_at}

-- the first n packets found stand at their lost positions of the block, and the other positions are as they were
pub record Written (C : Code) (l : LossList) (n : ℕ) (sums before after : List ℕ) : Type 0 where
  pub at : (k i c : ℕ) → k < n → i < C.rows → c < C.words → block_at C after (lost l k) i c ≡ block_at C sums k i c
  pub off : (q i c : ℕ) → among (lost l) n q ≡ false → i < C.rows → c < C.words → block_at C after q i c ≡ block_at C before q i c
