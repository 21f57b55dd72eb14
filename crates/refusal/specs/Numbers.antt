-- The number of each refusal, and the values that it carries.
use Rattle.std.specs.Prelude.{ℕ, List, [], ◌∷◌, Some, None, Ok, Err, Option, Result}
use Rattle.refusal.specs.declared.Refusal.{Refusal}
use Rattle.refusal.specs.declared.Refusal.TheVariants.{OtherWidth, BadCounts, TooLong, BadSize, WrongRun, BadLosses, TooFew, Contradictory, BadFrame, NoShape, OutsideShape, OtherPacket, BadFormat, OutsideGrid, SlotFilled, SlotEmpty, WrongSize}

abbrev pub number_of : Refusal → ℕ
number_of OtherWidth = 1
number_of BadCounts = 2
number_of TooLong = 3
number_of BadSize = 4
number_of (WrongRun place) = 5
number_of BadLosses = 6
number_of TooFew = 7
number_of (Contradictory sum word) = 8
number_of BadFrame = 9
number_of NoShape = 10
number_of OutsideShape = 11
number_of OtherPacket = 12
number_of BadFormat = 20
number_of OutsideGrid = 21
number_of SlotFilled = 22
number_of SlotEmpty = 23
number_of WrongSize = 24

abbrev pub values_of : Refusal → List ℕ
values_of OtherWidth = []
values_of BadCounts = []
values_of TooLong = []
values_of BadSize = []
values_of (WrongRun place) = place ∷ []
values_of BadLosses = []
values_of TooFew = []
values_of (Contradictory sum word) = sum ∷ word ∷ []
values_of BadFrame = []
values_of NoShape = []
values_of OutsideShape = []
values_of OtherPacket = []
values_of BadFormat = []
values_of OutsideGrid = []
values_of SlotFilled = []
values_of SlotEmpty = []
values_of WrongSize = []

-- a refusal as it is known outside the program: its number and its values
abbrev pub said : Refusal → ℕ × List ℕ
said e = (number_of e, values_of e)

-- whether a call was refused, and with what
abbrev pub refused_with : {A : Type 0} → Result A Refusal → Option (ℕ × List ℕ)
refused_with (Ok a) = None
refused_with (Err e) = Some (said e)

-- the first of two checks that refuses
abbrev pub or_else : Option (ℕ × List ℕ) → Option (ℕ × List ℕ) → Option (ℕ × List ℕ)
or_else (Some e) next = Some e
or_else None next = next
