-- Where the checks of the calls refuse nothing.
use Rattle.std.proofs.Common.{◌≡◌, ℕ, ◌<◌, ◌≤◌, true, ltb, List, length, None, sym, ◌∙◌, one-mul, arith}
use Rattle.std.proofs.lemmas.Bool.{cond-true}
use Rattle.layout.specs.declared.shape.Shape.{Shape}
use Rattle.layout.specs.declared.losses.LossList.{LossList}
use Rattle.layout.specs.Sizes.{parity_of, packet_of, Packets, LostBelow}
use Rattle.layout.proofs.Passes.{pass_both, run_ok, losses_ok}
use Rattle.code.specs.Rebuilt.{absorb_refusal, rebuild_refusal}

module _ (s : Shape) (sums : List ℕ) (size : Packets s (parity_of s) sums) where
  pub absorb_passes : (position : ℕ) (packet : List ℕ) → position < s.positions → length packet ≡ packet_of s → absorb_refusal s sums position packet ≡ None
  absorb_passes position packet lt long =
      let within : ltb position s.positions ≡ true = grind arith in
      pass_both _ _ (run_ok s (parity_of s) sums 0 size) (pass_both _ _ (run_ok s 1 packet 1 (long ∙ sym (one-mul _))) (cond-true _ _ _ within))

  pub rebuild_passes : (l : LossList) (scratch : List ℕ) → LostBelow l s.positions → l.len ≤ parity_of s → length scratch ≡ packet_of s → rebuild_refusal s l sums scratch ≡ None
  rebuild_passes l scratch below few long =
      pass_both _ _ (run_ok s (parity_of s) sums 0 size) (pass_both _ _ (run_ok s 1 scratch 1 (long ∙ sym (one-mul _))) (losses_ok s l below few))
