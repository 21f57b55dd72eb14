-- The numbers of each frame fit their bits.
use Rattle.std.proofs.Common.{◌≡◌, ℕ, zero, suc, ◌/◌, ◌%◌, ◌^◌, ◌<◌, ◌≤◌, true, eqb, leb, List, length, None, refl, mul_comm, pow_mono, arith}
use Rattle.std.proofs.lemmas.Nat.{div_below, mod_below}
use Rattle.refusal.specs.declared.Refusal.TheVariants.{OutsideShape}
use Rattle.refusal.specs.Numbers.{said}
use Rattle.layout.proofs.Passes.{test_passes}
use Rattle.frame.specs.Frames.{fits, frame_words, write_refusal}
use Rattle.sender.specs.Numbering.{last_frame}
use Rattle.sender.proofs.Parts.{both_pass}
use Rattle.sender.specs.Sending.{Sending}
use Rattle.sender.specs.Sent.{sent, sent_refusal, frame_refusal}

module _ (t : Sending) where
  sent_fits : (f : ℕ) → f ≤ last_frame t.shape → fits (sent t f) ≡ true
  sent_fits zero le =
      let s = t.shape in
      let h : 2 ^ s.rows ≤ 2 ^ 10 = pow_mono s.field.1 in
      let few = s.length in
      let counts = s.counts in
      let sizes = s.sizes in
      let field = s.field in
      grind arith
  sent_fits (suc f) le =
      let s = t.shape in
      let h : 2 ^ s.rows ≤ 2 ^ 10 = pow_mono s.field.1 in
      let few = s.length in
      let sizes = s.sizes in
      let block : f % s.blocks < s.blocks = mod_below f s.blocks (omega arith) in
      let position : f / s.blocks < s.positions = div_below f s.blocks s.positions (omega arith) (omega (arith, mul_comm s.blocks s.positions)) in
      grind arith

  -- a run of the frame's length is not refused by the writer, nor as a whole
  pub written : (f : ℕ) (run : List ℕ) → None ≡ sent_refusal t f → length run ≡ length (frame_words (sent t f)) → write_refusal (sent t f) run ≡ frame_refusal t run f
  written f run passes long =
      let within : leb f (last_frame t.shape) ≡ true = test_passes (leb f (last_frame t.shape)) (said OutsideShape) (both_pass _ _ passes).0 in
      let fit = sent_fits f (grind arith) in
      let same : eqb (length run) (length (frame_words (sent t f))) ≡ true = grind arith in
      rw (fit, same, ← passes) refl
