use Rattle.std.proofs.Math.Facts.{Fits-lt-pow}
use Rattle.layout.specs.Blocks.{code_of}
use Rattle.layout.proofs.Blocks.{packet_pos}
use Rattle.code.proofs.Repairs.{repaired}
use Rattle.code.proofs.solver.Solver.restore.Goals as goal

pub returns : goal.returns
returns g c =
    let v = c.args.self.now in
    let s = v.code.now.shape in
    repaired (code_of s g.F.Arithmetic.prod) (packet_pos s) v.losses.now c.args.block.now _ c.write_found.new.block c.requires.block c.write_found.auto.block
    (λ k. Fits-lt-pow (c.type_inv.block k)) c.in_ok-find_lost.ensures c.write_found.ensures
