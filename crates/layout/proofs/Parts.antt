-- A run of equal parts, read by words, of which one part is written.
use Rattle.std.proofs.Common.{◌≡◌, ℕ, zero, suc, ◌+◌, ◌-◌, ◌*◌, ◌/◌, ◌<◌, ◌≤◌, List, length, get_or, replicate, sym, refl, ap, ◌∙◌, inl, inr, arith, rules}
use borrow.Rule.Slice.PartMut.{put_mid}
use Rattle.std.specs.List.{between}
use Rattle.std.proofs.lemmas.Nat.{div-mul-add}
use Rattle.std.proofs.lemmas.List.Edits.{get_or-between, length-between}
use Rattle.std.proofs.lemmas.List.{places}
use Rattle.std.proofs.lemmas.Bool.{cases_lt}

-- a place names its part
pub part_of : (i k w c d : ℕ) → c < w → d < w → i * w + c ≡ k * w + d → i ≡ k
part_of i k w c d h l e = sym (div-mul-add i w c h) ∙ ap (λ u. u / w) e ∙ div-mul-add k w d l

module _ (a k : ℕ) (xs ys : List ℕ) (within : a + k ≤ length xs) (size : length ys ≡ k) where
  -- the words of the part are those written
  pub written : (p : ℕ) → p < k → get_or (put_mid a k xs ys) (a + p) 0 ≡ get_or ys p 0
  written p h = search (rules, places)

  -- the others stay
  pub kept : (p : ℕ) → ((j : ℕ) → j < k → p ≡ a + j → ⊥) → get_or (put_mid a k xs ys) p 0 ≡ get_or xs p 0
  kept p off = elim (cases_lt p a) [
    | inl h ↦ search (rules, places)
    | inr h ↦
        let past : a + k ≤ p = elim (cases_lt p (a + k)) [ inl l ↦ absurd (off (p - a) (omega arith) (omega arith)) | inr l ↦ l ] in
        search (rules, places)
  ]

-- part i of the parts of w words is written
module _ (i w k : ℕ) (xs ys : List ℕ) (e : k ≡ w) (within : i * w + w ≤ length xs) (size : length ys ≡ w) where
  pub part_written : (c : ℕ) → c < w → get_or (put_mid (i * w) k xs ys) (i * w + c) 0 ≡ get_or ys c 0
  part_written c h = written (i * w) k xs ys (omega arith) (omega arith) c (omega arith)

  pub part_kept : (j c : ℕ) → (j ≡ i → ⊥) → c < w → get_or (put_mid (i * w) k xs ys) (j * w + c) 0 ≡ get_or xs (j * w + c) 0
  part_kept j c n h = kept (i * w) k xs ys (omega arith) (omega arith) (j * w + c) (λ d l q. n (part_of j i w c d h (omega arith) q))

-- part j of a run, read by itself
pub part_read : (xs : List ℕ) (j v w c : ℕ) → v ≡ w → c < w → get_or (between (j * v) (j * v + v) xs) c 0 ≡ get_or xs (j * w + c) 0
part_read xs j v w c e h = get_or-between xs (j * v) (j * v + v) c 0 (omega arith) ∙ ap (λ n. get_or xs (j * n + c) 0) e

pub part_length : (xs : List ℕ) (j v : ℕ) → j * v + v ≤ length xs → length (between (j * v) (j * v + v) xs) ≡ v
part_length xs j v h = length-between xs (j * v) (j * v + v) h ∙ (let e : j * v + v - j * v ≡ v = omega arith in e)

-- a run of zeros
pub get_or_zeros : (n k : ℕ) → ◌≡◌ {A = ℕ} (get_or (replicate n 0) k 0) 0
get_or_zeros zero k = refl
get_or_zeros (suc n) zero = refl
get_or_zeros (suc n) (suc k) = get_or_zeros n k
