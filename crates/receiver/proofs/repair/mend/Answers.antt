use Rattle.std.proofs.Common.{◌∙◌}
use Rattle.receiver.proofs.Completing.{completes, still_fitted}
use Rattle.receiver.proofs.repair.mend.Goals as goal

pub returns-clause-mended : goal.returns-clause-mended
returns-clause-mended g c =
    let s = c.args.shape.now in
    let l = c.args.losses.now in
    let i = c.args.block in
    let T = g.S.SlotStore in
    let G = T.grid c.args.store.now in
    let H = T.grid c.put_found.new.store in
    let prod = g.F.Arithmetic.prod in
    let A = c.requires.lacks in
    let W = c.find_missing.new.work in
    let size = c.find_missing.auto.work ∙ c.requires.work in
    let h = c.in_ok-put_found.ensures in (
      c.positions.ensures.len,
      completes s prod l G i A W H size h.words h.put (rw c.in_ok-codec.ensures.shape at c.in_ok-find_missing.ensures),
      still_fitted s prod l G i A W H size h.words h.put,
    )
