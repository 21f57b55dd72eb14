-- A run of packets of a code, of which one is read or written.
use Rattle.std.proofs.Common.{◌≡◌, ℕ, ◌+◌, ◌-◌, ◌*◌, ◌<◌, ◌≤◌, List, length, get_or, take, ap, ◌∙◌, mul-le-mul_right, arith}
use borrow.Rule.Slice.PartMut.{put_mid}
use Rattle.std.specs.List.{between}
use Rattle.std.proofs.lemmas.List.{get_or-take}
use Rattle.algebra.specs.Code.{Code}
use Rattle.layout.specs.Blocks.{size_of, packet_in, block_at}
use Rattle.layout.proofs.Parts.{part_written, part_kept, part_read}

module _ (C : Code) where
  -- word c of row i lies within a packet
  pub word_lt : (i c : ℕ) → i < C.rows → c < C.words → i * C.words + c < size_of C
  word_lt i c h l = omega (arith, mul-le-mul_right C.words h)

  module _ (n v : ℕ) (t : List ℕ) (e : v ≡ size_of C) where
    -- packet n of the run, read by itself
    pub entry_read : (i c : ℕ) → i < C.rows → c < C.words → packet_in C.words (between (n * v) (n * v + v) t) i c ≡ block_at C t n i c
    entry_read i c h l = part_read t n v (size_of C) (i * C.words + c) e (word_lt i c h l)

    -- packet 0 of the run, read by itself
    pub first_read : (i c : ℕ) → i < C.rows → c < C.words → packet_in C.words (take (v - 0) t) i c ≡ block_at C t 0 i c
    first_read i c h l = let k = word_lt i c h l in get_or-take (v - 0) t (i * C.words + c) 0 (omega arith) ∙ ap (λ u. get_or t u 0) (omega arith)

    -- packet n of the run is written
    module _ (k : ℕ) (y : List ℕ) (size : k ≡ v) (fits : n * v + v ≤ length t) (long : length y ≡ v) where
      pub entry_written : (i c : ℕ) → i < C.rows → c < C.words → block_at C (put_mid (n * v) k t y) n i c ≡ packet_in C.words y i c
      entry_written i c h l =
          ap (λ u. get_or (put_mid (n * u) k t y) (n * size_of C + (i * C.words + c)) 0) e
          ∙ part_written n (size_of C) k t y (size ∙ e) (rw e at fits) (long ∙ e) (i * C.words + c) (word_lt i c h l)

      pub entry_kept : (μ : ℕ) → (μ ≡ n → ⊥) → (i c : ℕ) → i < C.rows → c < C.words → block_at C (put_mid (n * v) k t y) μ i c ≡ block_at C t μ i c
      entry_kept μ q i c h l =
          ap (λ u. get_or (put_mid (n * u) k t y) (μ * size_of C + (i * C.words + c)) 0) e
          ∙ part_kept n (size_of C) k t y (size ∙ e) (rw e at fits) (long ∙ e) μ (i * C.words + c) q (word_lt i c h l)
