-- Numbers in bytes, one by one.
use Rattle.std.proofs.Common.{◌≡◌, ℕ, zero, suc, ◌+◌, ◌*◌, ◌/◌, ◌^◌, ◌<◌, ◌≤◌, List, [], ◌∷◌, length, get_or, Fits, take, drop, sym, refl, ap, ◌∙◌, zero-mul, add-zero, suc-mul, rules, arith}
use Rattle.std.specs.Int.{Width, w16, w32, byte_len, from_be_bytes, to_be_bytes}
use Rattle.std.proofs.lemmas.List.{drop-drop, ext_get_or, places}
use borrow.Rule.Slice.PartMut.{put_mid}
use native.Mathlib.Numerals.{unary_clauses}
use native.Mathlib.Decide.{ℕ_discrete}
use Rattle.std.proofs.Math.Facts.{Fits-lt-pow}
use Rattle.std.proofs.lemmas.Nat.{from_be_bytes-to_be_bytes_4}
use Rattle.layout.proofs.Parts.{part_written, part_kept}
use Rattle.guyekpan.specs.Bytes.{numbers, words_of, positions_of}

pub numbers_length : (w : Width) (n : ℕ) (bytes : List ℕ) → length (numbers w n bytes) ≡ n
unfolding numbers
numbers_length w zero bytes = refl
numbers_length w (suc n) bytes = ap suc (numbers_length w n (drop (byte_len w) bytes))

pub numbers_at : (w : Width) (n i : ℕ) (bytes : List ℕ) → i < n → get_or (numbers w n bytes) i 0 ≡ from_be_bytes w (take (byte_len w) (drop (i * byte_len w) bytes))
unfolding numbers
numbers_at w zero i bytes lt = absurd (omega arith)
numbers_at w (suc n) zero bytes lt = ap (λ k. from_be_bytes w (take (byte_len w) (drop k bytes))) (sym (zero-mul (byte_len w)))
numbers_at w (suc n) (suc i) bytes lt =
    numbers_at w n i (drop (byte_len w) bytes) (omega arith)
    ∙ ap (λ xs. from_be_bytes w (take (byte_len w) xs)) (drop-drop (i * byte_len w) (byte_len w) bytes)
    ∙ ap (λ k. from_be_bytes w (take (byte_len w) (drop k bytes))) (omega (arith, suc-mul i (byte_len w)))

-- a run is the numbers of a string, where every number is
pub numbers_are : (w : Width) (n : ℕ) (bytes run : List ℕ) → n ≡ length run
    → ((i : ℕ) → i < length run → get_or (numbers w n bytes) i 0 ≡ get_or run i 0) → numbers w n bytes ≡ run
numbers_are w n bytes run long each =
    let e = numbers_length w n bytes in
    ext_get_or 0 (numbers w n bytes) run (e ∙ long) (λ i lt. each i (omega arith))

four : (n : ℕ) (xs : List ℕ) → n + 4 ≤ length xs → take 4 (drop n xs) ≡ get_or xs n 0 ∷ get_or xs (n + 1) 0 ∷ get_or xs (n + 2) 0 ∷ get_or xs (n + 3) 0 ∷ []
four zero (a ∷ b ∷ c ∷ d ∷ xs) le = refl
four zero (a ∷ b ∷ c ∷ []) le = absurd (omega arith)
four zero (a ∷ b ∷ []) le = absurd (omega arith)
four zero (a ∷ []) le = absurd (omega arith)
four zero [] le = absurd (omega arith)
four (suc n) (x ∷ xs) le = let e = simp unary_clauses at (four n xs (omega arith)) in simp unary_clauses e
four (suc n) [] le = absurd (omega arith)

two : (n : ℕ) (xs : List ℕ) → n + 2 ≤ length xs → take 2 (drop n xs) ≡ get_or xs n 0 ∷ get_or xs (n + 1) 0 ∷ []
two zero (a ∷ b ∷ xs) le = refl
two zero (a ∷ []) le = absurd (omega arith)
two zero [] le = absurd (omega arith)
two (suc n) (x ∷ xs) le = let e = simp unary_clauses at (two n xs (omega arith)) in simp unary_clauses e
two (suc n) [] le = absurd (omega arith)

module _ (bytes : List ℕ) (i : ℕ) where
  -- word i of a string
  pub word_read : i * 4 + 4 ≤ length bytes
      → get_or (words_of bytes) i 0 ≡ from_be_bytes w32 (get_or bytes (i * 4) 0 ∷ get_or bytes (i * 4 + 1) 0 ∷ get_or bytes (i * 4 + 2) 0 ∷ get_or bytes (i * 4 + 3) 0 ∷ [])
  word_read le = numbers_at w32 (length bytes / 4) i bytes (omega arith) ∙ ap (from_be_bytes w32) (four (i * 4) bytes le)

  -- position i of a string
  pub position_read : i * 2 + 2 ≤ length bytes → get_or (positions_of bytes) i 0 ≡ from_be_bytes w16 (get_or bytes (i * 2) 0 ∷ get_or bytes (i * 2 + 1) 0 ∷ [])
  position_read le = numbers_at w16 (length bytes / 2) i bytes (omega arith) ∙ ap (from_be_bytes w16) (two (i * 2) bytes le)

-- the same four bytes spell the same word
pub same_word : (xs ys : List ℕ) (i j : ℕ) → i * 4 + 4 ≤ length xs → j * 4 + 4 ≤ length ys
    → ((c : ℕ) → c < 4 → get_or xs (i * 4 + c) 0 ≡ get_or ys (j * 4 + c) 0) → get_or (words_of xs) i 0 ≡ get_or (words_of ys) j 0
same_word xs ys i j lx ly e =
    let first : get_or xs (i * 4) 0 ≡ get_or ys (j * 4) 0 = rw (add-zero (i * 4), add-zero (j * 4)) at (e 0 (omega arith)) in
    word_read xs i lx ∙ rw (first, e 1 (omega arith), e 2 (omega arith), e 3 (omega arith)) (sym (word_read ys j ly))

-- the bytes of a word spell it
pub word_back : (n : ℕ) → n < 2 ^ 32 → get_or (words_of (to_be_bytes w32 n)) 0 0 ≡ n
word_back n lt = numbers_at w32 1 0 (to_be_bytes w32 n) (omega arith) ∙ from_be_bytes-to_be_bytes_4 n lt

module _ (bytes run : List ℕ) (size : length bytes ≡ 4 * length run) where
  -- word n is written
  pub word_written : (n k : ℕ) (y : List ℕ) → k ≡ 4 → y ≡ to_be_bytes w32 (get_or run n 0) → n < length run → Fits w32 (get_or run n 0)
      → ((j : ℕ) → j < n → get_or (words_of bytes) j 0 ≡ get_or run j 0)
      → (j : ℕ) → j < n + 1 → get_or (words_of (put_mid (n * 4) k bytes y)) j 0 ≡ get_or run j 0
  word_written n k y four of lt fits done j below =
      let long : length y ≡ 4 = ap length of in
      let within : n * 4 + 4 ≤ length bytes = omega arith in
      let whole : length (put_mid (n * 4) k bytes y) ≡ length bytes = search (rules, places) in
      elim (ℕ_discrete j n) [
        | yes same ↦
            rw same (same_word (put_mid (n * 4) k bytes y) y n 0 (omega arith) (omega arith) (λ c h. part_written n 4 k bytes y four within long c h ∙ ap (λ z. get_or y z 0) (omega arith))
            ∙ ap (λ z. get_or (words_of z) 0 0) of ∙ word_back (get_or run n 0) (Fits-lt-pow fits))
        | no other ↦ same_word (put_mid (n * 4) k bytes y) bytes j j (omega arith) (omega arith) (λ c h. part_kept n 4 k bytes y four within long j c other h) ∙ done j (omega arith)
      ]
