use Rattle.std.proofs.Common.{◌≡◌, drop}
use Rattle.joint.specs.Held.{first_refusal}
use Rattle.joint.proofs.board.Board.check.Given as goal

abbrev pub invariant-loop-entry : goal.invariant-loop-entry
invariant-loop-entry l = first_refusal l.self.entries.items ≡ first_refusal (drop l.entry-index l.self.entries.items)
