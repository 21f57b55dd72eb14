-- What the makers of shapes and loss lists answer.
use Rattle.std.specs.Prelude.{◌≡◌, ℕ, ◌+◌, ◌-◌, ◌^◌, ◌<◌, ◌≤◌, cond, ◌&&◌, ◌⊎◌, List, [], ◌∷◌, ◌++◌, length, take, Some, None, Ok, Err, Option, Result, ◌==◌, nat_le, nat_lt}
use Rattle.refusal.specs.declared.Refusal.TheVariants.{BadCounts, BadLosses, BadSize, OtherWidth, TooFew, TooLong}
use Rattle.refusal.specs.declared.Refusal.{Refusal}
use Rattle.refusal.specs.Numbers.{said}
use Rattle.layout.specs.declared.shape.Dimensions.{Dimensions}
use Rattle.layout.specs.declared.shape.Shape.{Shape}
use Rattle.layout.specs.declared.losses.LossList.{LossList}
use Rattle.layout.specs.Rules.{InOrder}
use Rattle.layout.specs.Sizes.{lost}

-- the dimensions of a shape
abbrev pub dimensions_of : Shape → Dimensions
dimensions_of s = record { rows = s.rows; positions = s.positions; sources = s.sources; blocks = s.blocks; words = s.words }

-- the refusal that dimensions meet, for an arithmetic of a width
abbrev pub shape_refusal : ℕ → Dimensions → Option (ℕ × List ℕ)
shape_refusal width d =
    cond (d.rows == width)
    (cond (nat_le 1 d.sources && (nat_lt d.sources d.positions && nat_le (d.positions - d.sources) 32))
    (cond (nat_le d.positions (2 ^ d.rows - 1))
    (cond (nat_le 1 d.blocks && (nat_le d.blocks 64 && (nat_le 1 d.words && nat_le d.words 16))) None (Some (said BadSize)))
    (Some (said TooLong)))
    (Some (said BadCounts)))
    (Some (said OtherWidth))

-- a shape that is made has just these dimensions
abbrev pub ShapeMade : Dimensions → Result Shape Refusal → Type 0
ShapeMade d (Ok s) = dimensions_of s ≡ d
ShapeMade d (Err e) = Unit {0}

-- the lost positions
abbrev pub lost_at : LossList → List ℕ
lost_at l = take l.len l.at

pub record Listed (s : Shape) (xs : List ℕ) (l : LossList) : Type 0 where
  pub order : InOrder xs s.positions
  pub enough : length xs ≤ s.positions - s.sources
  pub len : l.len ≡ length xs
  pub at : lost_at l ≡ xs

-- the refusal of a list of positions
abbrev pub LossesRefused : Shape → List ℕ → ℕ × List ℕ → Type 0
LossesRefused s xs e =
    ((InOrder xs s.positions → ⊥) × (e ≡ said BadLosses)) ⊎ (InOrder xs s.positions × (s.positions - s.sources < length xs) × (e ≡ said TooFew))

abbrev pub LossesMade : Shape → List ℕ → Result LossList Refusal → Type 0
LossesMade s xs (Ok l) = Listed s xs l
LossesMade s xs (Err e) = LossesRefused s xs (said e)

-- a position lies below an end, and all of a list below it
abbrev pub Follows : LossList → ℕ → ℕ → Type 0
Follows l position end = (position < end) × ((s : ℕ) → s < l.len → lost l s < position)

-- the refusal of one position more
abbrev pub PushRefused : Shape → LossList → ℕ → ℕ × List ℕ → Type 0
PushRefused s l position e =
    ((Follows l position s.positions → ⊥) × (e ≡ said BadLosses)) ⊎ (Follows l position s.positions × (s.positions - s.sources ≤ l.len) × (e ≡ said TooFew))

-- the position stands behind the others
pub record Appended (s : Shape) (before : LossList) (position : ℕ) (after : LossList) : Type 0 where
  pub follows : Follows before position s.positions
  pub room : before.len < s.positions - s.sources
  pub positions : lost_at after ≡ lost_at before ++ position ∷ []
  pub len : after.len ≡ before.len + 1
  pub kept : (k : ℕ) → k < before.len → lost after k ≡ lost before k
  pub last : lost after before.len ≡ position

-- the position stands behind the others, or the list is as it was
abbrev pub Pushed : Shape → LossList → ℕ → LossList → Result (Unit {0}) Refusal → Type 0
Pushed s before position after (Ok u) = Appended s before position after
Pushed s before position after (Err e) = (after ≡ before) × PushRefused s before position (said e)
