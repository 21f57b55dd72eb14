use Rattle.std.proofs.Common.{sym, ◌∙◌}
use Rattle.guyekpan.proofs.Numbers.{word_read}
use Rattle.guyekpan.proofs.bytes.word.Goals as goal

pub returns : goal.returns
returns c = c.from_be_bytes.ensures ∙ sym (word_read c.args.bytes.now c.args.i c.requires)
