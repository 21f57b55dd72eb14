use Rattle.std.proofs.Common.{arith}
use Rattle.guyekpan.proofs.Numbers.{numbers_are}
use Rattle.guyekpan.proofs.bytes.read_positions.Goals as goal

pub returns : goal.returns
returns c =
    let long = c.loop-i.auto.positions in
    let stop = c.loop-i-test.false in
    let size = c.requires in
    numbers_are _ _ c.args.bytes.now c.loop-i.positions (omega arith) (λ i lt. c.loop-i.invariant i (omega arith))
