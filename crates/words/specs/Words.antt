-- What the calls over words answer, and what their runs hold afterwards.
use Rattle.std.specs.Prelude.{◌≡◌, ℕ, ◌+◌, ◌-◌, ◌*◌, Bool, cond, ◌⊎◌, List, length, Some, None, Ok, Err, Option, Result, ◌==◌, IfOk, IfErr}
use Rattle.refusal.specs.declared.Refusal.{Refusal}
use Rattle.refusal.specs.declared.Refusal.TheVariants.{WrongRun}
use Rattle.refusal.specs.Numbers.{said, refused_with, or_else}
use Rattle.galois.specs.Field.{product}
use Rattle.layout.specs.declared.shape.Dimensions.{Dimensions}
use Rattle.layout.specs.declared.shape.Shape.{Shape}
use Rattle.layout.specs.declared.losses.LossList.{LossList}
use Rattle.layout.specs.Made.{dimensions_of, shape_refusal, Listed, LossesRefused}
use Rattle.layout.specs.Blocks.{code_for, ZeroRun}
use Rattle.code.specs.Calls.{CodewordRun, Says, Restored}

-- the product of the octet
abbrev pub octet : ℕ → ℕ → ℕ
octet = product 8 0x11D

-- the dimensions that a call names by its three numbers: one block of packets of 8 rows
abbrev pub one_block : ℕ → ℕ → ℕ → Dimensions
one_block n k w = record { rows = 8; positions = n; sources = k; blocks = 1; words = w }

-- the number of a refusal, and 0 for none
abbrev pub number_of_call : Option (ℕ × List ℕ) → ℕ
number_of_call None = 0
number_of_call (Some e) = e.0

-- refused by its place, unless a run has just so many packets
abbrev pub packets_refusal : Dimensions → ℕ → List ℕ → ℕ → Option (ℕ × List ℕ)
packets_refusal d packets run place = cond (length run == packets * (d.rows * d.words)) None (Some (said (WrongRun place)))

-- a block run, then a work run
abbrev pub runs_refusal : Dimensions → List ℕ → List ℕ → Option (ℕ × List ℕ)
runs_refusal d block work = or_else (packets_refusal d d.positions block 0) (packets_refusal d (d.positions - d.sources + 1) work 1)

-- ENCODE

-- the shape, then a source run, then a parity run
abbrev pub words_encode_refusal : Dimensions → List ℕ → List ℕ → Option (ℕ × List ℕ)
words_encode_refusal d source parity =
    or_else (shape_refusal 8 d) (or_else (packets_refusal d d.sources source 0) (packets_refusal d (d.positions - d.sources) parity 1))

-- CHECK

abbrev pub words_check_refusal : Dimensions → List ℕ → List ℕ → Option (ℕ × List ℕ)
words_check_refusal d block work = or_else (shape_refusal 8 d) (runs_refusal d block work)

-- 0 for yes, 255 for no, or the number of the refusal
abbrev pub check_number : Result Bool Refusal → ℕ
check_number (Ok answer) = cond answer 0 255
check_number (Err e) = (said e).0

-- whether the block is a codeword, and the work run is then zero; a refusal leaves it
pub record CheckAnswer (d : Dimensions) (block work work' : List ℕ) (number : ℕ) : Type 0 where
  pub answer : Result Bool Refusal
  pub told : number ≡ check_number answer
  pub refusal : refused_with answer ≡ words_check_refusal d block work
  pub says : IfOk answer (λ yes. Says yes (CodewordRun (code_for d octet) block))
  pub cleared : IfOk answer (λ yes. ZeroRun work')
  pub left : IfErr answer (λ e. work' ≡ work)

-- REPAIR

-- a shape of these dimensions refuses the lost positions
pub record ListRefused (d : Dimensions) (lost : List ℕ) (e : ℕ × List ℕ) : Type 0 where
  pub shape : Shape
  pub of : dimensions_of shape ≡ d
  pub losses : LossesRefused shape lost e

-- a shape of these dimensions takes the lost positions
pub record ListTaken (d : Dimensions) (lost : List ℕ) (l : LossList) : Type 0 where
  pub shape : Shape
  pub of : dimensions_of shape ≡ d
  pub losses : Listed shape lost l

-- a shape of these dimensions takes the lost positions, and a run is refused
pub record RunRefused (d : Dimensions) (lost block work : List ℕ) (e : ℕ × List ℕ) : Type 0 where
  pub list : LossList
  pub taken : ListTaken d lost list
  pub run : runs_refusal d block work ≡ Some e

-- refused before any work: by the shape, else by the lost positions, else by a run; and the runs are as they were
pub record Unrepaired (d : Dimensions) (lost block block' work work' : List ℕ) (e : ℕ × List ℕ) : Type 0 where
  pub why : (shape_refusal 8 d ≡ Some e) ⊎ (ListRefused d lost e ⊎ RunRefused d lost block work e)
  pub same_block : block' ≡ block
  pub same_work : work' ≡ work

-- nothing is refused, the work run is zero afterwards, and the block is restored or contradictory
pub record Attempted (d : Dimensions) (lost block block' work work' : List ℕ) (outcome : Result (Unit {0}) Refusal) : Type 0 where
  pub list : LossList
  pub taken : ListTaken d lost list
  pub passed : runs_refusal d block work ≡ None
  pub restored : Restored (code_for d octet) list block block' outcome
  pub cleared : ZeroRun work'

abbrev pub WordsRepaired : Dimensions → List ℕ → List ℕ → List ℕ → List ℕ → List ℕ → Result (Unit {0}) Refusal → Type 0
WordsRepaired d lost block block' work work' (Ok u) = Attempted d lost block block' work work' (Ok u)
WordsRepaired d lost block block' work work' (Err e) =
    Unrepaired d lost block block' work work' (said e) ⊎ Attempted d lost block block' work work' (Err e)

pub record RepairAnswer (d : Dimensions) (lost block block' work work' : List ℕ) (number : ℕ) : Type 0 where
  pub outcome : Result (Unit {0}) Refusal
  pub told : number ≡ number_of_call (refused_with outcome)
  pub done : WordsRepaired d lost block block' work work' outcome
