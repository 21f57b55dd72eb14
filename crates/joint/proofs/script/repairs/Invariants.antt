use Rattle.std.proofs.Common.{◌≡◌, length}
use Rattle.joint.specs.Asked.{AtEach, AsksRepair}
use Rattle.joint.proofs.script.repairs.Given as goal

abbrev pub invariant-loop-block : goal.invariant-loop-block
invariant-loop-block l = record { number : length l.entries.items ≡ l.block; each : AtEach (AsksRepair l.shape) l.entries.items }
