-- What block calls check before they do their work.
use Rattle.std.specs.Prelude.{◌≡◌, ℕ, zero, suc, ◌*◌, Bool, true, cond, ◌&&◌, ◌⊎◌, List, length, Some, None, Ok, Err, Option, Result, ◌==◌, nat_le, nat_lt}
use Rattle.refusal.specs.declared.Refusal.{Refusal}
use Rattle.refusal.specs.declared.Refusal.TheVariants.{BadLosses, OtherWidth, TooFew, WrongRun}
use Rattle.refusal.specs.Numbers.{said, or_else}
use Rattle.layout.specs.declared.shape.Shape.{Shape}
use Rattle.layout.specs.declared.losses.LossList.{LossList}
use Rattle.layout.specs.Sizes.{parity_of, packet_of, lost}
use Rattle.layout.specs.Blocks.{ZeroRun}

-- OtherWidth, unless the rows of the shape are the width of the arithmetic
abbrev pub width_refusal : ℕ → Shape → Option (ℕ × List ℕ)
width_refusal bits s = cond (s.rows == bits) None (Some (said OtherWidth))

-- WrongRun with the place of a run, unless the run has just so many packets
abbrev pub run_refusal : Shape → ℕ → List ℕ → ℕ → Option (ℕ × List ℕ)
run_refusal s packets run place = cond (length run == packets * packet_of s) None (Some (said (WrongRun place)))

-- the first t positions are below an end
unfoldable pub all_below : (ℕ → ℕ) → ℕ → ℕ → Bool
all_below p zero end = true
all_below p (suc t) end = nat_lt (p t) end && all_below p t end

-- BadLosses unless every lost position is in the block, then TooFew if too many are lost
abbrev pub loss_refusal : Shape → LossList → Option (ℕ × List ℕ)
loss_refusal s l = cond (all_below (lost l) l.len s.positions) (cond (nat_le l.len (parity_of s)) None (Some (said TooFew))) (Some (said BadLosses))

-- done, or refused by the checks; where these pass, an error is one of which `Late` holds
abbrev pub CheckedFirst : {A : Type 0} → Option (ℕ × List ℕ) → (Refusal → Type 0) → Result A Refusal → Type 0
CheckedFirst check Late (Ok a) = check ≡ None
CheckedFirst check Late (Err e) = (check ≡ Some (said e)) ⊎ ((check ≡ None) × Late e)

-- a run is zero where the checks pass, and as it was where they refuse
abbrev pub Cleared : Option (ℕ × List ℕ) → List ℕ → List ℕ → Type 0
Cleared check before after = (check ≡ None → ZeroRun after) × ((e : ℕ × List ℕ) → check ≡ Some e → after ≡ before)

-- the check of the width, then another
abbrev pub at_width : ℕ → Shape → Option (ℕ × List ℕ) → Option (ℕ × List ℕ)
at_width bits s check = or_else (width_refusal bits s) check
