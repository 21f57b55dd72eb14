-- Packets contradict each other at one sum and one word, over products with the same sums.
use Rattle.std.proofs.Common.{◌≡◌, ℕ, ◌/◌, ◌%◌, ◌≤◌, sym, ◌∙◌, arith}
use native.Mathlib.Decide.{dec_lt}
use Rattle.algebra.specs.Code.{Block, syndrome}
use Rattle.layout.specs.declared.shape.Shape.{Shape}
use Rattle.layout.specs.Blocks.{code_of}
use Rattle.layout.proofs.Blocks.{row_lt, column_lt, place}
use Rattle.code.specs.Codewords.{Contradiction}
use Rattle.code.proofs.Losing.{syndrome_same}

-- the same sums of a shape's blocks
abbrev SameSums : Shape → (ℕ → ℕ → ℕ) → (ℕ → ℕ → ℕ) → Type 0
SameSums s p q = (b : Block) (μ r c : ℕ) → syndrome (code_of s p) b μ r c ≡ syndrome (code_of s q) b μ r c

module _ (s : Shape) (p q : ℕ → ℕ → ℕ) (same : SameSums s p q) (A : Block → Type 0) (n sum word sum' word' : ℕ)
    (u : Contradiction (code_of s p) A n sum word) (v : Contradiction (code_of s q) A n sum' word') where
  -- the first word that is not zero is where the other is not zero either
  nonzero : syndrome (code_of s q) v.d sum (word / s.words) (word % s.words) ≡ 0 → ⊥
  nonzero z =
      let i = row_lt s.rows s.words s.sizes.2 word u.word_lt in
      let c = column_lt s.words s.sizes.2 word in
      let blocks = u.solved.only v.d v.solved.agrees (λ μ h r k a b. same v.d μ r k ∙ v.solved.zero μ h r k a b) in
      u.here _ _ i c (place s.words word) (sym (syndrome_same (code_of s p) v.d u.d blocks sum _ _ i c) ∙ same v.d sum _ _ ∙ z)

  sum_le : sum' ≤ sum
  sum_le = elim (dec_lt sum sum') [
    | yes h ↦ absurd (nonzero (v.lower sum h _ _ (row_lt s.rows s.words s.sizes.2 word u.word_lt) (column_lt s.words s.sizes.2 word)))
    | no h ↦ omega arith
  ]

  word_le : sum ≡ sum' → word' ≤ word
  word_le e = elim (dec_lt word word') [
    | yes h ↦ absurd (nonzero (rw e (v.before _ _ (row_lt s.rows s.words s.sizes.2 word u.word_lt) (column_lt s.words s.sizes.2 word) (rw (place s.words word) h))))
    | no h ↦ omega arith
  ]

pub contradiction_only : (s : Shape) (p q : ℕ → ℕ → ℕ) (A : Block → Type 0) (n sum word sum' word' : ℕ) → SameSums s p q
    → Contradiction (code_of s p) A n sum word → Contradiction (code_of s q) A n sum' word' → (sum ≡ sum') × (word ≡ word')
contradiction_only s p q A n sum word sum' word' same u v =
    let back : SameSums s q p = λ b μ r c. sym (same b μ r c) in
    let h = sum_le s p q same A n sum word sum' word' u v in
    let k = sum_le s q p back A n sum' word' sum word v u in
    let e : sum ≡ sum' = omega arith in
    let m = word_le s p q same A n sum word sum' word' u v e in
    let o = word_le s q p back A n sum' word' sum word v u (sym e) in
    (e, omega arith)
