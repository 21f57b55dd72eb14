use Rattle.std.proofs.Common.{ap}
use Rattle.std.proofs.lemmas.Result.{err_from_is_err_and}
use Rattle.layout.specs.declared.shape.Dimensions.{Dimensions}
use Rattle.words.specs.Words.{one_block}
use Rattle.words.proofs.Repairs.{list_refused, repaired}
use Rattle.words.proofs.repair.Goals as goal

pub returns-in_err-losses : goal.returns-in_err-losses
returns-in_err-losses c =
    let refused = list_refused (one_block c.args.n c.args.k c.args.w) c.in_ok-shape.shape c.in_ok-shape.ensures.of
    c.args.lost.now c.args.block.now c.args.work.now c.in_err-losses.field-0.0 c.in_err-losses.ensures in
    let gives = err_from_is_err_and c.from_residual-in_err-losses.result c.from_residual-in_err-losses.ensures.1 in
    rw (gives.1, gives.2) refused

pub returns : goal.returns
returns c =
    let s = c.in_ok-shape.shape in
    repaired (one_block c.args.n c.args.k c.args.w) s c.in_ok-losses.losses c.args.lost.now c.args.block.now c.repair.new.block
    c.args.work.now c.repair.new.work c.repair.result c.in_ok-shape.ensures.of (ap (λ (d : Dimensions). d.rows) c.in_ok-shape.ensures.of)
    c.in_ok-losses.ensures c.repair.ensures.repaired c.repair.ensures.answer c.repair.ensures.left c.repair.ensures.work
