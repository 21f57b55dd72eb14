use Rattle.std.proofs.Common.{sym, ◌∙◌}
use Rattle.guyekpan.proofs.Numbers.{position_read}
use Rattle.guyekpan.proofs.bytes.position.Goals as goal

pub returns : goal.returns
returns c = c.from.ensures ∙ c.from_be_bytes.ensures ∙ sym (position_read c.args.bytes.now c.args.i c.requires)
