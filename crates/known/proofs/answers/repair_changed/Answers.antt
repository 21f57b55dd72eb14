use Rattle.known.proofs.answers.repair_changed.Goals as goal

pub returns : goal.returns
returns c = λ positions is. record {
  shape = c.args.shape.now;
  small = c.requires;
  losses = c.args.lost.now;
  lists = is;
  block = c.repair.new.block;
  repaired = rw c.known_block-block.ensures.block at c.repair.ensures.repaired;
  answer = rw c.known_block-block.ensures.block at c.repair.ensures.answer;
  cleared = rw c.known_block-block.ensures.block at c.repair.ensures.work;
}
