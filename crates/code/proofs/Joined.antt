-- Two runs of packets as one.
use Rattle.std.proofs.Common.{◌≡◌, ℕ, ◌+◌, ◌-◌, ◌*◌, ◌<◌, ◌≤◌, List, ◌++◌, get_or, ap, ◌∙◌, mul-le-mul_right, add-mul, arith}
use Rattle.std.proofs.lemmas.List.{get_or_append_left, get_or-append_right}
use Rattle.algebra.specs.Code.{Code}
use Rattle.layout.specs.Blocks.{block_at, size_of, Run}
use Rattle.layout.proofs.Entries.{word_lt}

module _ (C : Code) (parity source : List ℕ) (long : Run C C.parity parity) where
  -- parity and source as one block
  pub joined_low : (q i c : ℕ) → q < C.parity → i < C.rows → c < C.words → block_at C (parity ++ source) q i c ≡ block_at C parity q i c
  joined_low q i c h p r =
      let w = word_lt C i c p r in
      get_or_append_left parity source 0 (q * size_of C + (i * C.words + c)) (omega (arith, mul-le-mul_right (size_of C) h, long))

  pub joined_high : (q i c : ℕ) → C.parity ≤ q → block_at C (parity ++ source) q i c ≡ block_at C source (q - C.parity) i c
  joined_high q i c h =
      let k = i * C.words + c in
      let n = C.parity in
      let le : n * size_of C ≤ q * size_of C = mul-le-mul_right (size_of C) h in
      let whole : n + (q - n) ≡ q = omega arith in
      let e : q * size_of C + k - n * size_of C ≡ (q - n) * size_of C + k = omega (arith, le, ap (λ m. m * size_of C) whole, add-mul n (q - n) (size_of C)) in
      get_or-append_right parity source (n * size_of C) (q * size_of C + k) 0 long (omega arith) ∙ ap (λ m. get_or source m 0) e
