-- What a host in C is answered, and what its strings hold afterwards.
use Rattle.std.specs.Prelude.{◌≡◌, ℕ, ◌+◌, ◌-◌, ◌*◌, ◌<◌, ◌≤◌, Bool, cond, ◌⊎◌, List, [], ◌∷◌, length, Some, None, Ok, Err, Option, Result, ◌==◌, nat_le}
use Rattle.refusal.specs.declared.Refusal.{Refusal}
use Rattle.refusal.specs.declared.Refusal.TheVariants.{BadSize, WrongRun, BadLosses, TooFew}
use Rattle.refusal.specs.Numbers.{said, refused_with, or_else}
use Rattle.galois.specs.Field.{product}
use Rattle.layout.specs.declared.shape.Dimensions.{Dimensions}
use Rattle.layout.specs.declared.shape.Shape.{Shape}
use Rattle.layout.specs.declared.losses.LossList.{LossList}
use Rattle.layout.specs.Rules.{InOrder}
use Rattle.layout.specs.Made.{dimensions_of, shape_refusal, Listed}
use Rattle.layout.specs.Sizes.{packet_of}
use Rattle.layout.specs.Blocks.{code_for, ZeroRun}
use Rattle.code.specs.Calls.{CodewordRun, Encoded, Says, Restored}
use Rattle.guyekpan.specs.Bytes.{words_of, positions_of}

-- the product of the octet
abbrev pub octet : ℕ → ℕ → ℕ
octet = product 8 0x11D

-- the dimensions that a host names by its four numbers: one block
abbrev pub named : ℕ → ℕ → ℕ → ℕ → Dimensions
named m n k w = record { rows = m; positions = n; sources = k; blocks = 1; words = w }

-- the words of so many packets
abbrev pub words_in : Dimensions → ℕ → ℕ
words_in d packets = packets * (d.rows * d.words)

-- the four checks of a shape; the last also asks whether a block has at most 8,192 words
abbrev pub host_shape_refusal : Dimensions → Option (ℕ × List ℕ)
host_shape_refusal d = or_else (shape_refusal 8 d) (cond (nat_le (words_in d d.positions) 8192) None (Some (said BadSize)))

-- refused by its place, unless a string has four bytes for each word of so many packets
abbrev pub string_refusal : Dimensions → ℕ → List ℕ → ℕ → Option (ℕ × List ℕ)
string_refusal d packets bytes place = cond (length bytes == 4 * words_in d packets) None (Some (said (WrongRun place)))

-- a string of so many packets, which have so many words
pub record PacketString (s : Shape) (packets : ℕ) (bytes : List ℕ) (words : ℕ) : Type 0 where
  pub count : words ≡ packets * packet_of s
  pub room : words ≤ 8192
  pub size : length bytes ≡ 4 * words

-- the one number that a host gets: 256 times the place, or 256 times the sum and 65,536 times the word, on top
abbrev pub host_number : Option (ℕ × List ℕ) → ℕ
host_number None = 0
host_number (Some (number, [])) = number
host_number (Some (number, place ∷ [])) = number + 256 * place
host_number (Some (number, sum ∷ word ∷ rest)) = number + 256 * sum + 65536 * word

-- the values of a refusal leave room for the others in the number
abbrev pub Small : Option (ℕ × List ℕ) → Type 0
Small None = Unit {0}
Small (Some (number, [])) = Unit {0}
Small (Some (number, place ∷ [])) = place < 256
Small (Some (number, sum ∷ word ∷ rest)) = (sum < 256) × (word < 256)

-- ENCODE

abbrev pub host_encode_refusal : Dimensions → List ℕ → List ℕ → Option (ℕ × List ℕ)
host_encode_refusal d source parity =
    or_else (host_shape_refusal d) (or_else (string_refusal d d.sources source 0) (string_refusal d (d.positions - d.sources) parity 1))

-- parity and source string spell a codeword
abbrev pub HostEncoded : Dimensions → List ℕ → List ℕ → Type 0
HostEncoded d source parity = Encoded (code_for d octet) (words_of source) (words_of parity)

abbrev pub encode_number : Dimensions → List ℕ → List ℕ → ℕ
encode_number d source parity = host_number (host_encode_refusal d source parity)

-- CHECK

abbrev pub host_check_refusal : Dimensions → List ℕ → List ℕ → Option (ℕ × List ℕ)
host_check_refusal d block work =
    or_else (host_shape_refusal d) (or_else (string_refusal d d.positions block 0) (string_refusal d (d.positions - d.sources + 1) work 1))

-- whether the block is a codeword; and the work string is zero
pub record HostChecked (d : Dimensions) (block work : List ℕ) (answer : Bool) : Type 0 where
  pub says : Says answer (CodewordRun (code_for d octet) (words_of block))
  pub cleared : ZeroRun work

abbrev pub AfterHostCheck : Dimensions → List ℕ → List ℕ → List ℕ → Result Bool Refusal → Type 0
AfterHostCheck d block before after (Ok answer) = HostChecked d block after answer
AfterHostCheck d block before after (Err e) = after ≡ before

-- 0 for yes, 255 for no, or the number of the refusal
abbrev pub check_number : Result Bool Refusal → ℕ
check_number (Ok answer) = cond answer 0 255
check_number (Err e) = host_number (Some (said e))

pub record CheckAnswer (d : Dimensions) (block before after : List ℕ) (number : ℕ) : Type 0 where
  pub answer : Result Bool Refusal
  pub told : number ≡ check_number answer
  pub refusal : refused_with answer ≡ host_check_refusal d block before
  pub done : AfterHostCheck d block before after answer

-- REPAIR

-- two bytes for each lost position, which ascend and lie in the block
abbrev pub Positions : ℕ → List ℕ → Type 0
Positions n losses = (length losses ≡ 2 * length (positions_of losses)) × InOrder (positions_of losses) n

-- bad where they are not so, then too few packets left where they are too many
abbrev pub ListRefused : Dimensions → List ℕ → ℕ × List ℕ → Type 0
ListRefused d losses e =
    ((Positions d.positions losses → ⊥) × (e ≡ said BadLosses)) ⊎ (Positions d.positions losses × (d.positions - d.sources < length (positions_of losses)) × (e ≡ said TooFew))

abbrev pub ListRead : Shape → List ℕ → Result LossList Refusal → Type 0
ListRead s losses (Ok l) = Positions s.positions losses × Listed s (positions_of losses) l
ListRead s losses (Err e) = ListRefused (dimensions_of s) losses (said e)

-- refused before any work, by the shape or a length, or else by the loss list; the work string is as it was
pub record HostUnrepaired (d : Dimensions) (losses block work work' : List ℕ) (e : ℕ × List ℕ) : Type 0 where
  pub why : (host_check_refusal d block work ≡ Some e) ⊎ ((host_check_refusal d block work ≡ None) × ListRefused d losses e)
  pub same_work : work' ≡ work

-- the checks pass, the work string is zero afterwards, and the block is restored or contradictory
pub record HostAttempted (d : Dimensions) (losses block block' work work' : List ℕ) (outcome : Result (Unit {0}) Refusal) : Type 0 where
  pub shape : Shape
  pub of : dimensions_of shape ≡ d
  pub passed : host_check_refusal d block work ≡ None
  pub positions : Positions d.positions losses
  pub list : LossList
  pub listed : Listed shape (positions_of losses) list
  pub restored : Restored (code_for d octet) list (words_of block) (words_of block') outcome
  pub cleared : ZeroRun work'

abbrev pub HostRepaired : Dimensions → List ℕ → List ℕ → List ℕ → List ℕ → List ℕ → Result (Unit {0}) Refusal → Type 0
HostRepaired d losses block block' work work' (Ok u) = HostAttempted d losses block block' work work' (Ok u)
HostRepaired d losses block block' work work' (Err e) =
    (block' ≡ block) × (HostUnrepaired d losses block work work' (said e) ⊎ HostAttempted d losses block block' work work' (Err e))

pub record RepairAnswer (d : Dimensions) (losses block block' work work' : List ℕ) (number : ℕ) : Type 0 where
  pub outcome : Result (Unit {0}) Refusal
  pub told : number ≡ host_number (refused_with outcome)
  pub done : HostRepaired d losses block block' work work' outcome
