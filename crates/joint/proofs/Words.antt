-- The words of bytes that are read four at a time.
use Rattle.std.proofs.Common.{◌≡◌, ℕ, ◌+◌, ◌*◌, ◌<◌, ◌≤◌, ◌⊎◌, inl, inr, List, [], ◌∷◌, ◌++◌, length, get_or, drop, min, sym, refl, ap, ◌∙◌, arith, length-drop, length-append}
use Rattle.std.specs.Int.{w32, from_be_bytes}
use Rattle.std.proofs.lemmas.Bool.{cases_lt}
use Rattle.std.proofs.lemmas.List.{append-nil, drop_at, drop-drop, get_or_append_left}
use Rattle.std.proofs.Math.Seq.{get_or-append_seam}
use Rattle.joint.specs.Image.{word_at}

-- the words of the bytes before the rest
pub record ReadUpTo (bytes words rest : List ℕ) : Type 0 where
  pub each : (i : ℕ) → i < length words → get_or words i 0 ≡ word_at bytes i
  pub left : rest ≡ drop (4 * length words) bytes

none : (xs : List ℕ) → length xs ≡ 0 → xs ≡ []
none [] h = refl
none (x ∷ xs) h = absurd (omega arith)

-- the end of a part is its own word
four : (x next : List ℕ) → length x ≡ 4 → from_be_bytes w32 (x ++ next) ≡ from_be_bytes w32 x
four (a ∷ b ∷ c ∷ d ∷ []) next h = refl
four (a ∷ b ∷ c ∷ d ∷ e ∷ x) next h = absurd (omega arith)
four (a ∷ b ∷ c ∷ []) next h = absurd (omega arith)
four (a ∷ b ∷ []) next h = absurd (omega arith)
four (a ∷ []) next h = absurd (omega arith)
four [] next h = absurd (omega arith)

front : (x next : List ℕ) → (length x ≡ 4) ⊎ (next ≡ []) → from_be_bytes w32 (x ++ next) ≡ from_be_bytes w32 x
front x next (inl h) = four x next h
front x next (inr h) = ap (λ k. from_be_bytes w32 (x ++ k)) h ∙ ap (from_be_bytes w32) (append-nil x)

-- the next part of up to four bytes is the next word
pub word_turn : (bytes words rest x next : List ℕ) (size : ℕ) → size ≡ 4 → ReadUpTo bytes words rest → (rest ≡ x ++ next) × (length x ≡ min size (length rest)) × (0 < length rest)
    → ReadUpTo bytes (words ++ from_be_bytes w32 x ∷ []) next
word_turn bytes words rest x next size is r (cut, short, more) =
    let n = length words in
    let long : length rest ≡ length x + length next = ap length cut ∙ length-append x next in
    let way : (length x ≡ 4) ⊎ (next ≡ []) = elim (cases_lt (length rest) 4) [
      | inl lt ↦ inr (none next (omega arith))
      | inr ge ↦ inl (omega arith)
    ] in
    let grown : length (words ++ from_be_bytes w32 x ∷ []) ≡ n + 1 = length-append words (from_be_bytes w32 x ∷ []) in
    record {
      each = λ i lt. elim (cases_lt i n) [
        | inl below ↦ get_or_append_left words (from_be_bytes w32 x ∷ []) 0 i below ∙ r.each i below
        | inr above ↦
            let e : i ≡ n = omega arith in
            rw e (get_or-append_seam words (from_be_bytes w32 x) [] 0
            ∙ sym (front x next way) ∙ ap (from_be_bytes w32) (sym cut ∙ r.left))
      ];
      left = elim way [
        | inl h ↦ sym (drop_at x next 4 h) ∙ ap (drop 4) (sym cut ∙ r.left) ∙ drop-drop 4 (4 * n) bytes ∙ ap (λ k. drop k bytes) (omega arith)
        | inr h ↦
            let e = ap length r.left ∙ length-drop (4 * n) bytes in
            let z : length next ≡ 0 = ap length h in
            h ∙ sym (none (drop (4 * length (words ++ from_be_bytes w32 x ∷ [])) bytes) (length-drop (4 * length (words ++ from_be_bytes w32 x ∷ [])) bytes ∙ omega arith))
      ];
    }

-- behind the last byte all words are zero
pub words_behind : (bytes words rest : List ℕ) → ReadUpTo bytes words rest → length rest ≡ 0 → (i : ℕ) → length words ≤ i → 0 ≡ word_at bytes i
words_behind bytes words rest r end i above =
    let e = ap length r.left ∙ length-drop (4 * length words) bytes in
    sym (ap (from_be_bytes w32) (none (drop (4 * i) bytes) (length-drop (4 * i) bytes ∙ omega arith)))
