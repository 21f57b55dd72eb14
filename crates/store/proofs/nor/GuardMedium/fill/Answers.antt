use Rattle.std.proofs.Common.{ap, ◌∙◌, length, arith}
use Rattle.std.proofs.lemmas.List.{length-set}
use Rattle.store.proofs.Flash.{fills_more}
use Rattle.store.proofs.nor.GuardMedium.fill.Goals as goal

pub loop-i-preserved : goal.loop-i-preserved
loop-i-preserved c =
    let p = c.loop-i.invariant in
    let e = c.program.ensures in (
      e.run
          ∙ fills_more c.args.self.now.words.now c.loop-i.self.words.now c.args.packet.now c.args.at c.loop-i.i c.requires.room (omega arith) c.requires.unfilled
          (c.type_inv.packet c.loop-i.i) p.0,
      e.still,
      ap length e.run ∙ length-set _ _ _ ∙ p.2,
      e.lent ∙ p.3,
    )
