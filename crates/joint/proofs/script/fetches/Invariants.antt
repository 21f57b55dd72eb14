use Rattle.std.proofs.Common.{◌≡◌, ◌+◌, length}
use Rattle.joint.specs.Asked.{AtEach, AsksFetch}
use Rattle.joint.proofs.script.fetches.Given as goal

abbrev pub invariant-loop-number : goal.invariant-loop-number
invariant-loop-number l = record { number : length l.entries.items + 1 ≡ l.number; each : AtEach (AsksFetch l.shape) l.entries.items }
