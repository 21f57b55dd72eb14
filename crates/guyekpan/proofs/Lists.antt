-- Lost positions that a host lists.
use Rattle.std.proofs.Common.{◌≡◌, ℕ, zero, suc, ◌-◌, ◌*◌, ◌<◌, ◌≤◌, List, length, get_or, Ok, Err, Result, inl, inr, arith}
use native.Mathlib.Decide.{dec_lt}
use Rattle.refusal.specs.declared.Refusal.{Refusal}
use Rattle.layout.specs.declared.shape.Shape.{Shape}
use Rattle.layout.specs.declared.losses.LossList.{LossList}
use Rattle.layout.specs.Rules.{Ascends, InOrder}
use Rattle.layout.specs.Made.{LossesMade}
use Rattle.guyekpan.specs.Bytes.{positions_of}
use Rattle.guyekpan.specs.Host.{ListRead}

rises : (xs : List ℕ) → Ascends xs (length xs) → (i : ℕ) → i < length xs → i ≤ get_or xs i 0
rises xs up zero lt = omega arith
rises xs up (suc i) lt = let h = rises xs up i (omega arith) in let step = up i (suc i) (omega arith) lt in omega arith

-- positions in order below an end are no more than lie below it
pub few_in_order : (xs : List ℕ) (end : ℕ) → InOrder xs end → length xs ≤ end
few_in_order xs end (up, below) = elim (dec_lt 0 (length xs)) [
  | yes some ↦ let last = below (length xs - 1) (omega arith) in let h = rises xs up (length xs - 1) (omega arith) in omega arith
  | no none ↦ omega arith
]

-- a list made of the positions that a string of even length spells
pub list_read : (s : Shape) (bytes xs : List ℕ) (r : Result LossList Refusal) → xs ≡ positions_of bytes → length bytes ≡ 2 * length (positions_of bytes)
    → LossesMade s xs r → ListRead s bytes r
list_read s bytes xs (Ok l) same even made = let listed = rw same at made in ((even, listed.order), listed)
list_read s bytes xs (Err e) same even made = elim (rw same at made) [
  | inl (not, six) ↦ inl ((λ p. not p.1), six)
  | inr (order, many, seven) ↦ inr ((even, order), many, seven)
]
