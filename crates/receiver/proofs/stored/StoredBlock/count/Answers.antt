use Rattle.std.proofs.Common.{◌≡◌, ◌∙◌, arith}
use Rattle.receiver.specs.Calls.{held_in}
use Rattle.receiver.proofs.Counts.{count_none, count_marked, count_unmarked}
use Rattle.receiver.proofs.stored.StoredBlock.count.Goals as goal
use Rattle.receiver.proofs.stored.StoredBlock.count.Goals.{then-branch, else-branch}

pub loop-position-init : goal.loop-position-init
loop-position-init g c = (count_none _, omega arith)

pub loop-position-preserved : goal.loop-position-preserved
loop-position-preserved g c =
    let f = held_in (g.S.SlotStore.grid c.args.self.now.store.now) c.args.self.now.block in
    let n = c.loop-position.position in
    let v = c.loop-position.invariant in
    let is : c.in_ok-held.field-0 ≡ f n = let e = c.in_ok-held.ensures in cc in
    elim c.if-branch.branch [
      | then-branch w ↦ let t = w.if-branch.true in (w.held-is ∙ count_marked f n c.loop-position.held v.0 cc, omega (arith, w.held-is, v.1))
      | else-branch w ↦ let t = w.if-branch.false in (w.held-is ∙ count_unmarked f n c.loop-position.held v.0 cc, omega (arith, w.held-is, v.1))
    ]
