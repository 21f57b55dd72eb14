use Rattle.sender.proofs.Order.{in_order}
use Rattle.sender.proofs.broadcast.frame_of.Goals as goal

pub returns-then-turn-turns-clause-order : goal.returns-then-turn-turns-clause-order
returns-then-turn-turns-clause-order c = in_order c.args.shape.now

pub returns-then-turn-eq0-clause-order : goal.returns-then-turn-eq0-clause-order
returns-then-turn-eq0-clause-order c = in_order c.args.shape.now

pub returns-clause-order : goal.returns-clause-order
returns-clause-order c = in_order c.args.shape.now
