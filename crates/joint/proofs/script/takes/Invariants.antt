use Rattle.std.proofs.Common.{◌≤◌, min}
use Rattle.sender.specs.Broadcast.{turns_of}
use Rattle.joint.specs.Asked.{InTurns}
use Rattle.joint.proofs.script.takes.Given as goal

abbrev pub invariant-loop-turn : goal.invariant-loop-turn
invariant-loop-turn l = record {
  from : l.link.late ≤ l.turn;
  asked : InTurns l.head_end l.link.late (min l.turn (turns_of l.head_end.shape)) l.entries.items;
}
