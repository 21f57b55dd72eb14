use Rattle.std.proofs.lemmas.Nat.{shl_whole}
use Rattle.std.proofs.Common.{arith}
use Rattle.frame.proofs.bits.BitField.put.Goals as goal

pub returns : goal.returns
returns c = shl_whole c.args.value c.args.self.count c.args.self.low 32 c.requires (omega arith)
