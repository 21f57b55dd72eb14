-- The shares of the packets found, added to the sums behind them.
use Rattle.std.specs.Prelude.{ℕ, ◌<◌, ◌≤◌, List, bit_xor}
use Rattle.galois.specs.Field.{power}
use Rattle.algebra.specs.Code.{Code, SamePacket, scaled, xors}
use Rattle.layout.specs.Blocks.{block_at}
use Rattle.code.specs.Solving.{locator_at}

-- the sums from t on have gained the shares of the first n packets found, and the packets stay
pub record FoundAdded (C : Code) (x : List ℕ) (t n : ℕ) (before after : List ℕ) : Type 0 where
  pub packets : (k : ℕ) → k < t → SamePacket C (block_at C after k) (block_at C before k)
  pub sums : (μ : ℕ) → t ≤ μ → μ < C.parity
      → SamePacket C (block_at C after μ) (λ i c. bit_xor (block_at C before μ i c) (xors n (λ k. scaled C (power C.product (locator_at x k) μ) (block_at C before k) i c)))
