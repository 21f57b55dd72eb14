-- The rows of a packet that have gained a matrix times another, one after another.
use Rattle.std.proofs.Common.{◌≡◌, ℕ, ◌+◌, ◌*◌, ◌<◌, ◌≤◌, List, length, get_or, refl, sym, ap, ◌∙◌, arith}
use native.Mathlib.Decide.{ℕ_discrete}
use borrow.Rule.Slice.PartMut.{put_mid}
use lib.Bits.{bit_xor}
use Rattle.algebra.specs.Code.{Packet}
use Rattle.layout.specs.Blocks.{packet_in}
use Rattle.layout.proofs.Parts.{part_written, part_kept}
use Rattle.code.specs.Subsets.{selected}

-- the first n rows of t are those of e, and each has gained the rows of p that the matrix's row selects
pub record RowsDone (m w : ℕ) (matrix : List ℕ) (p : Packet) (n : ℕ) (e t : List ℕ) : Type 0 where
  pub at : (i c : ℕ) → i < n → c < w → packet_in w t i c ≡ bit_xor (packet_in w e i c) (selected m (get_or matrix i 0) p c)
  pub off : (i c : ℕ) → n ≤ i → c < w → packet_in w t i c ≡ packet_in w e i c

pub rows_none : (m w : ℕ) (matrix : List ℕ) (p : Packet) (e : List ℕ) → RowsDone m w matrix p 0 e e
rows_none m w matrix p e = record { at = λ i c h l. absurd (omega arith); off = λ i c h l. refl }

-- row n is written
pub rows_more : (m w : ℕ) (matrix : List ℕ) (p : Packet) (n k : ℕ) (e t y : List ℕ) → k ≡ w → n * w + w ≤ length t → length y ≡ w
    → ((c : ℕ) → c < w → get_or y c 0 ≡ bit_xor (packet_in w t n c) (selected m (get_or matrix n 0) p c))
    → RowsDone m w matrix p n e t → RowsDone m w matrix p (n + 1) e (put_mid (n * w) k t y)
rows_more m w matrix p n k e t y size fits long here d = record {
  at = λ i c h l. elim (ℕ_discrete i n) [
    | yes q ↦ ap (λ u. packet_in w (put_mid (n * w) k t y) u c) q ∙ part_written n w k t y size fits long c l ∙ here c l
        ∙ ap (λ u. bit_xor u (selected m (get_or matrix n 0) p c)) (d.off n c (omega arith) l)
        ∙ ap (λ u. bit_xor (packet_in w e u c) (selected m (get_or matrix u 0) p c)) (sym q)
    | no q ↦ part_kept n w k t y size fits long i c q l ∙ d.at i c (omega arith) l
  ];
  off = λ i c h l. part_kept n w k t y size fits long i c (λ q. omega arith) l ∙ d.off i c (omega arith) l;
}
