use Rattle.code.proofs.Ranges.{range_written}
use Rattle.code.proofs.code.Code.write_packet.Goals as goal

pub returns : goal.returns
returns g c =
    let is = c.copy_from_slice.ensures.after in
    rw is (range_written c.range.ensures c.args.block.now c.requires.block c.requires.position c.args.packet.now (rw is at c.copy_from_slice.auto.self))
