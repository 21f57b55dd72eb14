-- The parts that one block has of the image and of the parity words.
use Rattle.std.proofs.Common.{◌≡◌, ℕ, ◌+◌, ◌*◌, ◌<◌, ◌≤◌, List, ◌++◌, length, drop, min, Some, None, Option, sym, refl, ap, ◌∙◌, mul_assoc, mul-le-mul_right, add-mul, arith}
use borrow.Rule.Slice.PartMut.{put_mid}
use native.Mathlib.Decide.{ℕ_discrete}
use Rattle.std.proofs.lemmas.Nat.{mul-le}
use Rattle.std.proofs.lemmas.Slice.{between_is, between-put_mid, take-put_mid_below}
use Rattle.layout.specs.declared.shape.Shape.{Shape}
use Rattle.layout.specs.Sizes.{parity_of, packet_of, Packets}
use Rattle.layout.proofs.Blocks.{packet_pos}
use Rattle.layout.proofs.Places.{part_ends}
use Rattle.layout.proofs.Parts.{part_length}
use Rattle.layout.proofs.Passes.{pass_both, run_ok, run_passes}
use Rattle.refusal.specs.Numbers.{or_else}
use Rattle.layout.specs.Blocks.{code_of}
use Rattle.code.specs.Calls.{Encoded, encode_refusal}
use Rattle.code.proofs.Chunks.{ChunkTurn, chunk_turn, ChunksAt}
use Rattle.sender.specs.Prepared.{part, Prepared, runs_refusal}

module _ (w n k : ℕ) (xs ys : List ℕ) (size : k ≡ w) (within : n * w + w ≤ length xs) (long : length ys ≡ w) where
  -- part n is written
  part_here : part w (put_mid (n * w) k xs ys) n ≡ ys
  part_here = between-put_mid (n * w) k xs ys (n * w + w) (omega arith) (omega arith)

  -- the parts in front of it stay
  part_before : (b : ℕ) → b < n → part w (put_mid (n * w) k xs ys) b ≡ part w xs b
  part_before b lt =
      let h : (b + 1) * w ≤ n * w = mul-le-mul_right w (omega arith) in
      between_is _ (b * w) (b * w + w)
      ∙ ap (drop (b * w)) (take-put_mid_below (n * w) k xs ys (b * w + w) (omega (arith, h, add-mul b 1 w)) (omega arith))
      ∙ sym (between_is xs (b * w) (b * w + w))

-- two checks together pass: each does
pub both_pass : (a b : Option (ℕ × List ℕ)) → None ≡ or_else a b → (a ≡ None) × (b ≡ None)
both_pass None b e = (refl, sym e)
both_pass (Some r) b e = absurd (let z : ◌≡◌ {A = ℕ} 0 1 = cc in omega arith)

module _ (s : Shape) where
  -- a run of the packets of all blocks has a part of each block
  pub parts_long : (count : ℕ) (run : List ℕ) → Packets s (s.blocks * count) run → length run ≡ s.blocks * (count * packet_of s)
  parts_long count run e = e ∙ mul_assoc s.blocks count (packet_of s)

  -- the runs have the packets of all blocks
  pub runs_pass : (image parity : List ℕ) → None ≡ runs_refusal s image parity → Packets s (s.blocks * s.sources) image × Packets s (s.blocks * parity_of s) parity
  runs_pass image parity e = let (first, second) = both_pass _ _ e in (run_passes s _ image 0 first, run_passes s _ parity 1 second)

  -- block number n, with source packets x, comes from an iterator over the blocks of an image
  pub record BlockTurn (image parity : List ℕ) (n size w : ℕ) (x next : List ℕ) : Type 0 where
    pub source : ChunkTurn (s.sources * packet_of s) image s.blocks n size x next
    pub end : n * w + w ≤ length parity

  pub sources_pos : 1 ≤ s.sources * packet_of s
  sources_pos = mul-le 1 1 s.sources (packet_of s) s.counts.0 (packet_pos s)

  pub block_turn : (image parity : List ℕ) (n size size' w : ℕ) (left x next : List ℕ)
      → Packets s (s.blocks * s.sources) image → Packets s (s.blocks * parity_of s) parity
      → w ≡ parity_of s * packet_of s → ChunksAt (s.sources * packet_of s) image s.blocks n size left
      → (size' ≡ size) × ((left ≡ x ++ next) × (length x ≡ min size (length left)) × (0 < length left)) → BlockTurn image parity n size' w x next
  block_turn image parity n size size' w left x next whole fits of at step =
      let turn = chunk_turn sources_pos (parts_long s.sources image whole) at x next step in
      record { source = turn; end = part_ends n s.blocks w refl of (parts_long (parity_of s) parity fits) turn.lt }

  -- its encoding is not refused
  pub encodes : (image parity : List ℕ) (n size w : ℕ) (x next : List ℕ) → w ≡ parity_of s * packet_of s
      → BlockTurn image parity n size w x next → encode_refusal s x (part w parity n) ≡ None
  encodes image parity n size w x next of turn =
      pass_both _ _ (run_ok s s.sources x 0 turn.source.long) (run_ok s (parity_of s) _ 1 (part_length parity n w turn.end ∙ of))

  -- the parity of one block more
  pub prepared_more : (prod : ℕ → ℕ → ℕ) (image : List ℕ) (n w k : ℕ) (before y : List ℕ) → w ≡ parity_of s * packet_of s → k ≡ w → n * w + w ≤ length before → length y ≡ w
      → Encoded (code_of s prod) (part (s.sources * packet_of s) image n) y → Prepared s prod image before n → Prepared s prod image (put_mid (n * w) k before y) (n + 1)
  prepared_more prod image n w k before y of size within long encoded done b lt = elim (ℕ_discrete b n) [
    | yes same ↦ rw (same, ← of, part_here w n k before y size within long) encoded
    | no other ↦ rw (← of, part_before w n k before y size within long b (omega arith), of) (done b (omega arith))
  ]
