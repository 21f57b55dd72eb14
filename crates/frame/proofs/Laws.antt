-- Reading gives back what was written, and nothing else is read.
use Rattle.std.proofs.Common.{◌≡◌, ℕ, ◌-◌, true, List, [], ◌∷◌, length, set, arith, rules, ◌≢◌}
use borrow.Rule.Slice.PartMut.{put_mid}
use Rattle.std.proofs.lemmas.Grind.{common_steps}
use Rattle.std.proofs.lemmas.Slice.{overwrites}
use Rattle.frame.specs.Frames.{Sight, shape, packet, refused, fits, frame_words, parse}

pub back : (f : Sight) → fits f ≡ true → parse (frame_words f) ≡ f
back (shape d) h = grind (arith, common_steps)
back (packet block position payload) h = grind (arith, common_steps)
back (refused e) h = cc

-- words that are refused are those of no frame
pub unspelled : (ws : List ℕ) (e : ℕ × List ℕ) → refused e ≡ parse ws → (f : Sight) → fits f ≡ true → frame_words f ≢ ws
unspelled ws e none f fit same = let read = back f fit in cc

-- a run of which the first word and then the others are written
pub whole : (run payload : List ℕ) (a : ℕ) → length run ≡ length (a ∷ payload) → put_mid 1 (length (set run 0 a) - 1) (set run 0 a) payload ≡ a ∷ payload
whole [] payload a len = absurd (omega arith)
whole (x ∷ xs) payload a len = search (rules, overwrites)
