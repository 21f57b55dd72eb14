use Rattle.std.proofs.Common.{◌≤◌}
use Rattle.layout.specs.Sizes.{parity_of}
use Rattle.joint.proofs.link.Random.losses.Given as goal

abbrev pub invariant-loop-position : goal.invariant-loop-position
invariant-loop-position l = l.losses.len ≤ parity_of l.shape
