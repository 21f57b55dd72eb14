use Rattle.std.proofs.Common.{Ok, ap}
use Rattle.known.proofs.Block.{parity_is}
use Rattle.known.proofs.answers.encoded.Goals as goal

pub returns : goal.returns
returns c = ap Ok (parity_is c.in_ok-shape.shape c.in_ok-shape.ensures.made _ c.encode.auto.parity c.in_ok-encode.ensures.filled)
