use Rattle.std.proofs.Common.{sym, ◌∙◌, one-mul, arith}
use Rattle.layout.specs.Sizes.{packet_of}
use Rattle.layout.specs.Blocks.{code_of}
use Rattle.layout.proofs.Blocks.{packets_are}
use Rattle.code.proofs.Held.{run_one}
use Rattle.code.proofs.Stages.{laws_of}
use Rattle.code.proofs.code.Code.add_at.Goals as goal

pub add_run-requires-clause-run : goal.add_run-requires-clause-run
add_run-requires-clause-run g c =
    let s = c.args.self.now.shape in
    let whole = c.requires.packet ∙ sym (one-mul (packet_of s)) in
    rw (packets_are s 1 c.args.packet.now whole) whole

pub add_run-requires-clause-end : goal.add_run-requires-clause-end
add_run-requires-clause-end g c =
    let s = c.args.self.now.shape in
    let one = packets_are s 1 c.args.packet.now (c.requires.packet ∙ sym (one-mul (packet_of s))) in
    let h = c.requires.position in omega arith

pub returns : goal.returns
returns g c =
    let f = g.F.Arithmetic in
    let s = c.args.self.now.shape in
    let one = packets_are s 1 c.args.packet.now (c.requires.packet ∙ sym (one-mul (packet_of s))) in
    run_one (code_of s f.prod) (laws_of s.rows f.bits f.prod f.inv c.args.self.now.width g.met.F.Arithmetic.field) c.none.result c.args.first c.args.position c.args.packet.now _ _
    c.none.ensures (rw one at c.add_run.ensures)
