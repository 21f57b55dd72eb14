use Rattle.std.proofs.Common.{refl}
use Rattle.layout.specs.Blocks.{code_of, packet_in}
use Rattle.code.proofs.Absorbs.{share_added}
use Rattle.code.proofs.Stages.{laws_of}
use Rattle.code.proofs.code.Code.absorb.Goals as goal

pub returns-clause-added : goal.returns-clause-added
returns-clause-added g c =
    let f = g.F.Arithmetic in
    let s = c.args.self.now.shape in
    share_added (code_of s f.prod) (laws_of s.rows f.bits f.prod f.inv c.args.self.now.width g.met.F.Arithmetic.field) _ c.args.position (packet_in s.words c.args.packet.now) _ _ refl
    c.add_at.ensures
