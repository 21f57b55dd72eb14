-- Which texts are a number, and which are a word.
use Rattle.std.specs.Prelude.{◌≡◌, ℕ, ◌^◌, ◌<◌, ◌⊎◌, List, length}
use Rattle.std.specs.Int.{IsInRange}
use Rattle.std.specs.List.{All}
use Rattle.std.specs.Str.Parse.{IsNumeral, digits_value}

-- one decimal digit or more, and nothing else, of a value that 64 bits hold
abbrev pub IsNumber : List ℕ → Type 0
IsNumber text = IsNumeral 10 text × (digits_value 10 text < 2 ^ 64)

-- '0' to '9', or 'a' to 'f'
abbrev pub IsWordDigit : ℕ → Type 0
IsWordDigit byte = IsInRange 48 57 byte ⊎ IsInRange 97 102 byte

-- eight such digits, and nothing else
abbrev pub IsWord : List ℕ → Type 0
IsWord text = (length text ≡ 8) × All IsWordDigit text
