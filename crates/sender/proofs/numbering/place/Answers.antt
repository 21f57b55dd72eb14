use Rattle.sender.proofs.Places.{each_once}
use Rattle.sender.proofs.numbering.place.Goals as goal

pub returns-then-frame-eq0-clause-each : goal.returns-then-frame-eq0-clause-each
returns-then-frame-eq0-clause-each c = each_once c.args.shape.now

pub returns-clause-each : goal.returns-clause-each
returns-clause-each c = each_once c.args.shape.now
