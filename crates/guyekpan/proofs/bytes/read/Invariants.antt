use Rattle.std.proofs.Common.{◌≡◌, ℕ, ◌<◌, get_or}
use Rattle.guyekpan.specs.Bytes.{words_of}
use Rattle.guyekpan.proofs.bytes.read.Given as goal

abbrev pub invariant-loop-i : goal.invariant-loop-i
invariant-loop-i l = (j : ℕ) → j < l.i → get_or (words_of l.bytes) j 0 ≡ get_or l.words j 0
