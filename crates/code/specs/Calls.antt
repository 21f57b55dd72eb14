-- What encode, check and repair do, in the words of the code.
use Rattle.std.specs.Prelude.{◌≡◌, ℕ, ◌+◌, Bool, true, false, List, ◌++◌, Ok, Err, Option, Result}
use Rattle.refusal.specs.declared.Refusal.{Refusal}
use Rattle.refusal.specs.Numbers.{or_else}
use Rattle.algebra.specs.Code.{Code, Codeword}
use Rattle.layout.specs.declared.shape.Shape.{Shape}
use Rattle.layout.specs.declared.losses.LossList.{LossList}
use Rattle.layout.specs.Sizes.{parity_of}
use Rattle.layout.specs.Blocks.{Run, block_at}
use Rattle.layout.specs.Checks.{run_refusal, loss_refusal}
use Rattle.code.specs.Lost.{Contradicts, AgreeOff, Contradicted}

-- the run holds as many packets as the code has positions, and they are a codeword
abbrev pub CodewordRun : Code → List ℕ → Type 0
CodewordRun C run = Run C C.positions run × Codeword C (block_at C run)

-- ENCODE

-- the refusal of two runs: the source packets, then the parity packets
abbrev pub encode_refusal : Shape → List ℕ → List ℕ → Option (ℕ × List ℕ)
encode_refusal s source parity = or_else (run_refusal s s.sources source 0) (run_refusal s (parity_of s) parity 1)

-- parity and source make a codeword, and no other parity does
pub record Encoded (C : Code) (source parity : List ℕ) : Type 0 where
  pub codeword : CodewordRun C (parity ++ source)
  pub only : (other : List ℕ) → Run C C.parity other → CodewordRun C (other ++ source) → other ≡ parity

-- CHECK

-- the refusal of two runs: a block, then a work run
abbrev pub check_refusal : Shape → List ℕ → List ℕ → Option (ℕ × List ℕ)
check_refusal s block work = or_else (run_refusal s s.positions block 0) (run_refusal s (parity_of s + 1) work 1)

-- a yes or no that says whether a fact holds
abbrev pub Says : Bool → Type 0 → Type 0
Says true P = P
Says false P = P → ⊥

-- REPAIR

-- the refusal of two runs, then of the lost positions
abbrev pub repair_refusal : Shape → List ℕ → LossList → List ℕ → Option (ℕ × List ℕ)
repair_refusal s block l work = or_else (check_refusal s block work) (loss_refusal s l)

-- the block now is a codeword that agrees with the block before at the positions that are not lost, and the only one
pub record Repaired (C : Code) (l : LossList) (before after : List ℕ) : Type 0 where
  pub codeword : CodewordRun C after
  pub agrees : AgreeOff C l (block_at C after) (block_at C before)
  pub only : (other : List ℕ) → CodewordRun C other → AgreeOff C l (block_at C other) (block_at C before) → other ≡ after

-- refused as contradictory: no codeword agrees with the block at the positions that are not lost
abbrev pub ContradictoryRun : Code → LossList → List ℕ → Refusal → Type 0
ContradictoryRun C l block = Contradicts (Contradicted C l (block_at C block))

-- what a repair that passed its checks does to the block
abbrev pub Restored : Code → LossList → List ℕ → List ℕ → Result (Unit {0}) Refusal → Type 0
Restored C l before after (Ok u) = Repaired C l before after
Restored C l before after (Err e) = ContradictoryRun C l before e × (after ≡ before)
