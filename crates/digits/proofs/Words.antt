-- `from_str_radix` reads every word: its digits are hexadecimal, and eight of them spell a number below 2^32.
use Rattle.std.proofs.Common.{ℕ, suc, ◌^◌, ◌<◌, ◌≢◌, inl, inr, List, [], ◌∷◌, get_or, subst, arith, Result, Ok, Err, OkIff}
use Rattle.std.specs.Char.{digit_value}
use Rattle.std.specs.List.{All}
use Rattle.std.specs.Str.Parse.{AllDigits, IsNumeral, ParsesUnsigned, digits_value}
use Rattle.std.proofs.lemmas.Bool.Decides.{nat_tests}
use Rattle.std.proofs.lemmas.Int.Digits.{digits_value-lt}
use Rattle.std.proofs.lemmas.Str.{digit_value_digit}
use Rattle.std.proofs.lemmas.Str.Parse.{without_leading_plus_none}
use Rattle.digits.specs.Digits.{IsWord, IsWordDigit}

digit_is : (byte : ℕ) → IsWordDigit byte → digit_value byte < 16
digit_is byte (inl h) = omega (arith, digit_value_digit byte h)
digit_is byte (inr h) = grind (arith, nat_tests)

digits_are : (text : List ℕ) → All IsWordDigit text → AllDigits 16 text
digits_are [] h = tt
digits_are (byte ∷ text) h = (digit_is byte (h 0 0 (omega arith)), digits_are text (λ k d below. h (suc k) d (omega arith)))

no_plus : (text : List ℕ) → IsWord text → get_or text 0 0 ≢ 43
no_plus text h = omega (arith, h.1 0 0 (omega (arith, h.0)))

fits : (text : List ℕ) → IsWord text → digits_value 16 text < 2 ^ 32
fits text h = subst (λ n. digits_value 16 text < 16 ^ n) h.0 (digits_value-lt 16 text (digits_are text h.1))

-- what `from_str_radix` says of the digits that it reads
abbrev Reads : {E : Type 0} → Result ℕ E → List ℕ → Type 0
Reads r ds = OkIff r (IsNumeral 16 ds × (digits_value 16 ds < 2 ^ 32)) (digits_value 16 ds)

reads_word : {E : Type 0} (text : List ℕ) (r : Result ℕ E) → IsWord text → Reads r text → OkIff r (IsWord text) (digits_value 16 text)
reads_word text (Ok word) h reads = (h, reads.1)
reads_word text (Err error) h reads = absurd (reads ((omega (arith, h.0), digits_are text h.1), fits text h))

pub word_parses : {E : Type 0} (text : List ℕ) (r : Result ℕ E) → IsWord text → ParsesUnsigned 32 16 text r → OkIff r (IsWord text) (digits_value 16 text)
word_parses text r h parses =
    reads_word text r h (subst (λ ds. Reads r ds) (without_leading_plus_none text (no_plus text h)) parses)
