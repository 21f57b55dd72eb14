-- Known values, by the definitions that the contracts of the calls name.
use Rattle.std.specs.Prelude.{IfOk, Option, ◌≡◌, ℕ, List, [], ◌∷◌, length, take, drop, set, Some, None, Result}
use Rattle.refusal.specs.declared.Refusal.{Refusal}
use Rattle.refusal.specs.declared.Refusal.TheVariants.{BadCounts, TooLong, TooFew, BadFormat}
use Rattle.refusal.specs.Numbers.{said}
use Rattle.field.specs.declared.Arithmetic
use Rattle.algebra.specs.Code.{Code}
use Rattle.galois.specs.Field.{product, inverse, power}
use Rattle.layout.specs.declared.shape.Dimensions.{Dimensions}
use Rattle.layout.specs.declared.shape.Shape.{Shape}
use Rattle.layout.specs.declared.losses.LossList.{LossList}
use Rattle.layout.specs.Made.{dimensions_of, shape_refusal, lost_at, LossesMade, LossesRefused}
use Rattle.layout.specs.Blocks.{code_of, block_at}
use Rattle.layout.specs.Checks.{CheckedFirst, Cleared, at_width, loss_refusal}
use Rattle.code.specs.Lost.{AgreeOff, Contradicted}
use Rattle.code.specs.Calls.{Encoded, Repaired, repair_refusal, ContradictoryRun}
use Rattle.frame.specs.Frames.{shape, packet, frame_words, parse}
use Rattle.store.specs.Grids.{format_refusal}

-- an arithmetic is that of the field of 2^m elements with the polynomial p
abbrev pub OfPolynomial : {F : Type 0} → ℕ → ℕ → Arithmetic.Ghosts F → Type 0
OfPolynomial m p f = (f.bits ≡ m) × (f.prod ≡ product m p) × (f.inv ≡ inverse m p)

abbrev pub nibble : ℕ → ℕ → ℕ
nibble = product 4 0x13

abbrev pub octet : ℕ → ℕ → ℕ
octet = product 8 0x11D

-- one block of n packets of m rows of one word, k of them source packets
abbrev pub one_block : ℕ → ℕ → ℕ → Dimensions
one_block m n k = record { rows = m; positions = n; sources = k; blocks = 1; words = 1 }

-- one source packet and two parity packets
abbrev pub small : Dimensions
small = one_block 4 3 1

abbrev pub IsSmall : Shape → Type 0
IsSmall s = dimensions_of s ≡ small

-- the list has just these positions
abbrev pub Lists : LossList → List ℕ → Type 0
Lists l xs = (l.len ≡ length xs) × (lost_at l ≡ xs)

-- the known block: positions 0 and 1 are parity, position 2 is source
abbrev pub known : List ℕ
known = 8 ∷ 9 ∷ 2 ∷ 4 ∷ 9 ∷ 0xB ∷ 6 ∷ 0xC ∷ 1 ∷ 2 ∷ 4 ∷ 8 ∷ []

-- the block with row 0 of position 1 changed to 8
abbrev pub changed : List ℕ → List ℕ
changed block = set block 4 8

-- the answer of a loss list made of these positions, for the shape of the known block
pub record MadeOf (positions : List ℕ) (r : Result LossList Refusal) : Type 0 where
  pub shape : Shape
  pub small : IsSmall shape
  pub made : LossesMade shape positions r

-- the code of a shape over the nibble
abbrev pub small_code : Shape → Code
small_code s = code_of s nibble

-- what the checks of a repair of the changed block refuse
abbrev pub small_repair_refusal : Shape → LossList → List ℕ → Option (ℕ × List ℕ)
small_repair_refusal s l work = at_width 4 s (repair_refusal s (changed known) l work)

-- the answer of a repair of the changed block with these positions lost, and the work run before and after
pub record RepairsChanged (positions work work' : List ℕ) (r : Result (Unit {0}) Refusal) : Type 0 where
  pub shape : Shape
  pub small : IsSmall shape
  pub losses : LossList
  pub lists : Lists losses positions
  pub block : List ℕ
  pub repaired : IfOk r (λ u. Repaired (small_code shape) losses (changed known) block)
  pub answer : CheckedFirst (small_repair_refusal shape losses work) (ContradictoryRun (small_code shape) losses (changed known)) r
  pub cleared : Cleared (small_repair_refusal shape losses work) work work'

pub record KnownValues (block : List ℕ) : Type 0 where
  -- powers of α, and an inverse
  pub nibble_power_4 : power nibble 2 4 ≡ 3
  pub nibble_power_7 : power nibble 2 7 ≡ 11
  pub nibble_inverse : inverse 4 0x13 2 ≡ 9
  pub octet_power_8 : power octet 2 8 ≡ 0x1D
  pub octet_power_9 : power octet 2 9 ≡ 0x3A
  -- positions 0 and 1 are the parity of position 2
  pub encodes : (s : Shape) → IsSmall s → Encoded (small_code s) (drop 8 block) (take 8 block)
  -- positions 0 and 2 come back, whatever stands there
  pub repairs : (s : Shape) (l : LossList) → IsSmall s → Lists l (0 ∷ 2 ∷ []) → (before : List ℕ)
      → AgreeOff (small_code s) l (block_at (small_code s) block) (block_at (small_code s) before) → Repaired (small_code s) l before block
  -- three positions are too many, in a list that is made and in one that is used
  pub too_few_made : (s : Shape) → IsSmall s → LossesRefused s (0 ∷ 1 ∷ 2 ∷ []) (said TooFew)
  pub too_few_used : (s : Shape) (l : LossList) → IsSmall s → Lists l (0 ∷ 1 ∷ 2 ∷ []) → loss_refusal s l ≡ Some (said TooFew)
  -- a word changed, with nothing lost: sum 0, word 0; and with position 0 lost: sum 1, word 0
  pub contradicts : (s : Shape) (l : LossList) → IsSmall s → Lists l [] → Contradicted (small_code s) l (block_at (small_code s) (changed block)) 0 0
  pub contradicts_behind : (s : Shape) (l : LossList) → IsSmall s → Lists l (0 ∷ [])
      → Contradicted (small_code s) l (block_at (small_code s) (changed block)) 1 0
  -- the shape frame, and the frame of position 2 of block 0
  pub shape_written : frame_words (shape small) ≡ 0x14003001 ∷ 0x20010001 ∷ []
  pub shape_read : parse (0x14003001 ∷ 0x20010001 ∷ []) ≡ shape small
  pub packet_written : frame_words (packet 0 2 (drop 8 block)) ≡ 0x30000002 ∷ drop 8 block
  pub packet_read : parse (0x30000002 ∷ drop 8 block) ≡ packet 0 2 (drop 8 block)
  -- 1 × 3 slots of 4 words take 15 words
  pub fits : format_refusal 15 1 3 4 ≡ None
  pub fits_not : format_refusal 14 1 3 4 ≡ Some (said BadFormat)
  -- the most positions, and the most parity
  pub small_accepted : shape_refusal 4 small ≡ None
  pub longest : shape_refusal 4 (one_block 4 15 10) ≡ None
  pub too_long : shape_refusal 4 (one_block 4 16 10) ≡ Some (said TooLong)
  pub most_parity : shape_refusal 8 (one_block 8 255 223) ≡ None
  pub too_much_parity : shape_refusal 8 (one_block 8 255 222) ≡ Some (said BadCounts)
