use Rattle.sender.specs.Sending.{sending_of}
use Rattle.joint.specs.Held.{GaveBelow}
use Rattle.joint.proofs.board.gave_all.Given as goal

abbrev pub invariant-loop-number : goal.invariant-loop-number
invariant-loop-number l = GaveBelow (sending_of l.sent) l.fetches l.number
