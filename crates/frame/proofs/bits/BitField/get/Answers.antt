use Rattle.std.proofs.lemmas.Nat.{one_shl, and_mask}
use Rattle.frame.proofs.bits.BitField.get.Goals as goal

pub returns : goal.returns
returns c = simp (one_shl c.args.self.count 32 c.args.self.within.1, and_mask)
