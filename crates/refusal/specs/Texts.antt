-- The text of each refusal.
use Rattle.std.specs.Prelude.{ℕ, List, ◌++◌, codes, decimal}
use Rattle.refusal.specs.declared.Refusal.{Refusal}
use Rattle.refusal.specs.declared.Refusal.TheVariants.{OtherWidth, BadCounts, TooLong, BadSize, WrongRun, BadLosses, TooFew, Contradictory, BadFrame, NoShape, OutsideShape, OtherPacket, BadFormat, OutsideGrid, SlotFilled, SlotEmpty, WrongSize}
use Rattle.refusal.specs.Numbers.{number_of}

-- why a call was refused, with the values that the refusal carries
abbrev pub reason_of : Refusal → List ℕ
reason_of OtherWidth = codes "the packets have other rows than the arithmetic has bits"
reason_of BadCounts = codes "the counts of source and parity positions do not fit"
reason_of TooLong = codes "a block is too long for this field"
reason_of BadSize = codes "too many or no blocks, or words in a row"
reason_of (WrongRun place) = codes "run " ++ (decimal place ++ codes " has not its number of words")
reason_of BadLosses = codes "the lost positions do not ascend within the block"
reason_of TooFew = codes "too few packets are left"
reason_of (Contradictory sum word) =
    codes "the packets contradict each other at sum " ++ (decimal sum ++ (codes ", word " ++ decimal word))
reason_of BadFrame = codes "the words are no frame"
reason_of NoShape = codes "no shape is set"
reason_of OutsideShape = codes "the block, the position or the frame is outside the shape"
reason_of OtherPacket = codes "the slot holds another packet"
reason_of BadFormat = codes "the format does not fit the store"
reason_of OutsideGrid = codes "the slot is outside the grid"
reason_of SlotFilled = codes "the slot is filled"
reason_of SlotEmpty = codes "the slot is empty"
reason_of WrongSize = codes "the run has not the size of a packet"

-- the number of a refusal in decimal, and why
abbrev pub text_of : Refusal → List ℕ
text_of e = codes "refusal " ++ (decimal (number_of e) ++ (codes ": " ++ reason_of e))
