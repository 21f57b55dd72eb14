use Rattle.std.proofs.Common.{◌≡◌, take, drop}
use Rattle.receiver.specs.Meaning.{means}
use Rattle.history.specs.Turns.{transcript, calls}
use Rattle.history.specs.Steps.{AllSteps}
use Rattle.history.proofs.make.make_all.Given as goal

-- the entries so far were made in order, the others are as they were, and the calls stay
abbrev pub invariant-loop-entry : goal.invariant-loop-entry
invariant-loop-entry g l =
    let k = l.entry-index in
    record {
      ran : AllSteps g.F.Arithmetic.bits g.F.Arithmetic.prod (means l.initial.receiver) (transcript (take k l.initial.entries) (take k l.entries)) (means l.receiver);
      left : drop k l.entries ≡ drop k l.initial.entries;
      calls_same : calls l.entries ≡ calls l.initial.entries;
    }
