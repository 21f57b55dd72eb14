use Rattle.std.proofs.Common.{sym, ap, ◌∙◌, arith}
use Rattle.frame.specs.Frames.{parse}
use Rattle.frame.proofs.Laws.{whole, back}
use Rattle.frame.proofs.Frame.write.Goals as goal

pub returns-in-Packet-clause-after : goal.returns-in-Packet-clause-after
returns-in-Packet-clause-after c = grind (arith, whole)

pub returns-in-Packet-clause-back : goal.returns-in-Packet-clause-back
returns-in-Packet-clause-back c = ap parse (returns-in-Packet-clause-after c) ∙ back _ (sym c.if-not-fits.ensures)
