-- A packet of a run, read, written and copied.
use Rattle.std.proofs.Common.{◌≡◌, ℕ, ◌+◌, ◌-◌, ◌*◌, ◌<◌, ◌≤◌, List, length, get_or, refl, ap, ◌∙◌, inl, inr, mul-le-mul_right, add-mul, arith}
use borrow.Rule.Slice.PartMut.{put_mid}
use Rattle.std.specs.List.{between, CopiedTo, SameBelow, SameFrom}
use Rattle.std.proofs.lemmas.Bool.{cases_lt}
use Rattle.algebra.specs.Code.{Code, SamePacket}
use Rattle.layout.specs.Blocks.{Run, packet_in, block_at, size_of}
use Rattle.layout.proofs.Places.{part_ends}
use Rattle.layout.proofs.Parts.{part_length}
use Rattle.layout.proofs.Entries.{word_lt, entry_read, entry_written, entry_kept}
use Rattle.code.specs.Packets.{PacketRange, PacketWritten}
use Rattle.code.specs.Solving.{Copied}

module _ {C : Code} {n a b : ℕ} (r : PacketRange C n a b) (t : List ℕ) where
  pub range_read : SamePacket C (packet_in C.words (between a b t)) (block_at C t n)
  range_read = rw (r.start, r.end) (entry_read C n (size_of C) t refl)

  pub range_written : {m : ℕ} → Run C m t → n < m → (y : List ℕ) → length y ≡ length (between a b t) → PacketWritten C n y t (put_mid a (b - a) t y)
  range_written {m} long lt y same =
      let p = size_of C in
      let fits : n * p + p ≤ length t = part_ends n m p refl refl long lt in
      let size : n * p + p - n * p ≡ p = omega arith in
      let whole : length y ≡ p = (rw (r.start, r.end) at same) ∙ part_length t n p fits in
      rw (r.start, r.end) record {
        at = entry_written C n p t refl _ y size fits whole;
        off = entry_kept C n p t refl _ y size fits whole;
      }

-- packet n is copied to packet m
pub range_copied : {C : Code} {n m a b c d : ℕ} → PacketRange C n a b → PacketRange C m c d → (e t : List ℕ)
    → CopiedTo e t a c (b - a) → SameBelow e t c → SameFrom e t (c + (b - a)) → Copied C m n e t
range_copied {C} {n} {m} {a} {b} {c} {d} from to e t copied below behind = record {
  at = λ i k h l.
      let j = i * C.words + k in
      let lt = word_lt C i k h l in
      let there : a + (m * size_of C + j - c) ≡ n * size_of C + j = omega arith in
      copied (m * size_of C + j) 0 (omega arith) (omega arith) ∙ ap (λ k. get_or e k 0) there;
  off = λ μ _ q i k h l.
      let j = i * C.words + k in
      let lt = word_lt C i k h l in
      elim (cases_lt μ m) [
        | inl up ↦ let part = mul-le-mul_right (size_of C) up in below (μ * size_of C + j) 0 (omega (arith, add-mul μ 1 (size_of C)))
        | inr le ↦ let part : (m + 1) * size_of C ≤ μ * size_of C = mul-le-mul_right (size_of C) (omega arith) in behind (μ * size_of C + j) 0 (omega (arith, add-mul m 1 (size_of C)))
      ];
}
