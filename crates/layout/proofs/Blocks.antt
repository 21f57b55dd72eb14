-- Runs of packets that have the same words are the same runs.
use Rattle.std.proofs.Common.{◌≡◌, ℕ, ◌+◌, ◌*◌, ◌/◌, ◌%◌, ◌<◌, List, ◌++◌, length, get_or, sym, ap, ◌∙◌, add-zero, mul-zero, div-add-mod', arith}
use native.Mathlib.Decide.{ℕ_discrete, dec_lt}
use Rattle.std.proofs.lemmas.Nat.{mul-le, div_below, div-mul-add, mod_below}
use Rattle.std.proofs.lemmas.List.{ext_get_or, get_or_past, get_or_append_left}
use Rattle.algebra.specs.Code.{Code}
use Rattle.layout.specs.declared.shape.Shape.{Shape}
use Rattle.layout.specs.Sizes.{packet_of, packets_in, Packets}
use Rattle.layout.specs.Blocks.{size_of, Run, block_at, ZeroRun}

module _ (s : Shape) where
  pub packet_pos : 0 < packet_of s
  packet_pos = let h = mul-le 3 1 s.rows s.words s.field.0 s.sizes.2 in omega arith

  -- a run of n packets has room for n
  pub packets_are : (n : ℕ) (run : List ℕ) → Packets s n run → packets_in s run ≡ n
  packets_are n run e = ap (λ k. k / packet_of s) e ∙ ap (λ k. k / packet_of s) (sym (add-zero _)) ∙ div-mul-add n (packet_of s) 0 packet_pos

-- the place of a word of a packet, and back
pub row_lt : (rows words : ℕ) → 0 < words → (j : ℕ) → j < rows * words → j / words < rows
row_lt rows words some j h = div_below j words rows some h

pub column_lt : (words : ℕ) → 0 < words → (j : ℕ) → j % words < words
column_lt words some j = mod_below j words some

pub place : (words j : ℕ) → j / words * words + j % words ≡ j
place words j = div-add-mod' j words

-- packets that are not empty
module _ (C : Code) (some : 0 < size_of C) where
  pub words_pos : 0 < C.words
  words_pos = elim (ℕ_discrete C.words 0) [
    | yes e ↦ absurd (let z : C.rows * C.words ≡ 0 = ap (λ w. C.rows * w) e ∙ mul-zero C.rows in omega arith)
    | no e ↦ omega arith
  ]

  pub same_runs : (n : ℕ) (xs ys : List ℕ) → Run C n xs → Run C n ys
      → ((q i c : ℕ) → q < n → i < C.rows → c < C.words → block_at C xs q i c ≡ block_at C ys q i c) → xs ≡ ys
  same_runs n xs ys lx ly e = ext_get_or 0 xs ys (lx ∙ sym ly) (λ k h.
      let p = size_of C in
      let q = k / p in
      let j = k % p in
      let lt : j < p = mod_below k p some in
      let at : q * p + (j / C.words * C.words + j % C.words) ≡ k = ap (λ m. q * p + m) (place C.words j) ∙ div-add-mod' k p in
      ap (λ m. get_or xs m 0) (sym at)
      ∙ e q (j / C.words) (j % C.words) (div_below k p n some (omega arith)) (row_lt C.rows C.words words_pos j lt) (column_lt C.words words_pos j)
      ∙ ap (λ m. get_or ys m 0) at)

-- the front of a run of zeros
pub zero_front : (xs ys : List ℕ) → ZeroRun (xs ++ ys) → ZeroRun xs
zero_front xs ys z k = elim (dec_lt k (length xs)) [
  | yes h ↦ sym (get_or_append_left xs ys 0 k h) ∙ z k
  | no h ↦ get_or_past xs k 0 (omega arith)
]
