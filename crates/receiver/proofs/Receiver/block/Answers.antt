use Rattle.receiver.proofs.Receiver.block.Goals as goal

pub invariant_of-result-clause-fitted : goal.invariant_of-result-clause-fitted
invariant_of-result-clause-fitted g c = (c.args.self.now.sound c.in_ok-shape.shape c.in_ok-shape.ensures).1
