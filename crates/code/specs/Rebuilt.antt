-- The packets at lost positions, from the sums of the others.
use Rattle.std.specs.Prelude.{◌≡◌, ℕ, ◌+◌, ◌*◌, ◌<◌, cond, List, Some, None, Ok, Err, Option, Result, ◌≢◌, nat_lt}
use Rattle.refusal.specs.declared.Refusal.{Refusal}
use Rattle.refusal.specs.declared.Refusal.TheVariants.{OutsideShape}
use Rattle.refusal.specs.Numbers.{said, or_else}
use Rattle.galois.specs.Field.{power}
use Rattle.algebra.specs.Code.{Code, Packet, Block, SamePacket, scaled, xors}
use Rattle.layout.specs.declared.shape.Shape.{Shape}
use Rattle.layout.specs.declared.losses.LossList.{LossList}
use Rattle.layout.specs.Sizes.{parity_of, lost}
use Rattle.layout.specs.Checks.{run_refusal, loss_refusal}
use Rattle.layout.specs.Blocks.{size_of, block_at, ZeroRun}
use Rattle.code.specs.Sums.{ZeroSums}
use Rattle.code.specs.Lost.{Contradicts}

-- the refusal of two runs, the sums and a packet, then of the position
abbrev pub absorb_refusal : Shape → List ℕ → ℕ → List ℕ → Option (ℕ × List ℕ)
absorb_refusal s sums position packet =
    or_else (run_refusal s (parity_of s) sums 0)
    (or_else (run_refusal s 1 packet 1) (cond (nat_lt position s.positions) None (Some (said OutsideShape))))

-- the refusal of two runs, the sums and a scratch packet, then of the lost positions
abbrev pub rebuild_refusal : Shape → LossList → List ℕ → List ℕ → Option (ℕ × List ℕ)
rebuild_refusal s l sums scratch =
    or_else (run_refusal s (parity_of s) sums 0) (or_else (run_refusal s 1 scratch 1) (loss_refusal s l))

module _ (C : Code) (l : LossList) where
  -- sum μ of packets at the lost positions
  abbrev pub lost_sum : Block → ℕ → Packet
  lost_sum p μ i c = xors l.len (λ k. scaled C (power C.product 2 (μ * lost l k)) (p k) i c)

  -- packets at the lost positions have the first sums of a run, as many as are lost
  abbrev pub Has : List ℕ → Block → Type 0
  Has sums p = (μ : ℕ) → μ < l.len → SamePacket C (block_at C sums μ) (lost_sum p μ)

  -- the packets at the lost positions: they have the first sums, and no others do
  pub record Found (sums : List ℕ) (p : Block) : Type 0 where
    pub has : Has sums p
    pub only : (other : Block) → Has sums other → (k : ℕ) → k < l.len → SamePacket C (other k) (p k)

  -- the run begins with the packets at the lost positions, which have all of its former sums, and is zero behind them
  pub record Rebuilt (before after : List ℕ) : Type 0 where
    pub found : Found before (block_at C after)
    pub all : (μ : ℕ) → μ < C.parity → SamePacket C (block_at C before μ) (lost_sum (block_at C after) μ)
    pub behind : ZeroSums C after l.len C.parity

  -- the packets at the lost positions have not all sums: `sum` is the lowest that they do not have, and `word` its first word that differs
  pub record Unmatched (sums : List ℕ) (sum word : ℕ) : Type 0 where
    pub p : Block
    pub found : Found sums p
    pub sum_lt : sum < C.parity
    pub word_lt : word < size_of C
    pub lower : (μ : ℕ) → μ < sum → SamePacket C (block_at C sums μ) (lost_sum p μ)
    pub before : (i c : ℕ) → i < C.rows → c < C.words → i * C.words + c < word → block_at C sums sum i c ≡ lost_sum p sum i c
    pub here : (i c : ℕ) → i < C.rows → c < C.words → i * C.words + c ≡ word → block_at C sums sum i c ≢ lost_sum p sum i c

  -- the packets at the lost positions are found, or their sums contradict them and the run is zero
  abbrev pub Solved : List ℕ → List ℕ → Result (Unit {0}) Refusal → Type 0
  Solved before after (Ok u) = Rebuilt before after
  Solved before after (Err e) = Contradicts (Unmatched before) e × ZeroRun after
