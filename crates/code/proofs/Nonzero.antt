-- The packets of the sums from some sum on, looked through for a word that is not zero.
use Rattle.std.proofs.Common.{◌≡◌, ◌≢◌, ℕ, ◌+◌, ◌-◌, ◌*◌, ◌<◌, ◌≤◌, List, length, drop, get_or, sym, ap, ◌∙◌, add-mul, arith, length-drop}
use native.Mathlib.Decide.{ℕ_discrete}
use Rattle.std.proofs.lemmas.List.{get_or-drop}
use Rattle.std.proofs.lemmas.List.Edits.{get_or-between}
use Rattle.layout.specs.Blocks.{size_of, Run}
use Rattle.algebra.specs.Code.{Code}
use Rattle.code.specs.Sums.{ZeroSums, FirstAt}
use Rattle.code.proofs.Chunks.{ChunkTurn}

module _ (C : Code) (sums : List ℕ) (first v : ℕ) (size : v ≡ size_of C) (long : Run C C.parity sums) (le : first ≤ C.parity) where
  abbrev rest : List ℕ
  rest = drop (first * v) sums

  pub rest_long : length rest ≡ (C.parity - first) * size_of C
  rest_long =
      length-drop (first * v) sums ∙ ap (λ k. k - first * v) long ∙ ap (λ p. C.parity * size_of C - first * p) size
      ∙ (let e : C.parity ≡ first + (C.parity - first) = omega arith in let split = ap (λ m. m * size_of C) e ∙ add-mul first (C.parity - first) (size_of C) in omega arith)

  -- x is packet number n of these
  module _ {n size' : ℕ} {x left : List ℕ} (turn : ChunkTurn (size_of C) rest (C.parity - first) n size' x left) where
    word_at : (k : ℕ) → k < size_of C → get_or x k 0 ≡ get_or sums ((first + n) * size_of C + k) 0
    word_at k h =
        ap (λ l. get_or l k 0) turn.is ∙ get_or-between rest (n * size_of C) (n * size_of C + size_of C) k 0 (omega arith) ∙ get_or-drop (first * v) sums (n * size_of C + k) 0
        ∙ ap (λ m. get_or sums (first * m + (n * size_of C + k)) 0) size ∙ ap (λ m. get_or sums m 0) (let split = add-mul first n (size_of C) in omega arith)

    pub zeros_more : ((k : ℕ) → k < length x → get_or x k 0 ≡ 0) → ZeroSums C sums first (first + n) → ZeroSums C sums first (first + (n + 1))
    zeros_more z before μ j a b c = elim (ℕ_discrete μ (first + n)) [
      | yes q ↦ ap (λ m. get_or sums (m * size_of C + j) 0) q ∙ sym (word_at j c) ∙ z j (let e = turn.long in omega arith)
      | no q ↦ before μ j a (omega arith) c
    ]

    pub first_at : (j : ℕ) → j < length x → ((k : ℕ) → k < j → get_or x k 0 ≡ 0) → get_or x j 0 ≢ 0 → ZeroSums C sums first (first + n) → FirstAt C sums first (first + n) j
    first_at j h z here before =
        let word : j < size_of C = let e = turn.long in omega arith in
        record {
          from = omega arith;
          sum = let lt = turn.lt in omega arith;
          word = word;
          before = before;
          left = λ k l. sym (word_at k (omega arith)) ∙ z k l;
          here = λ e. here (word_at j word ∙ e);
        }
