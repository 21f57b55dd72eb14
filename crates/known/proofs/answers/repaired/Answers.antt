use Rattle.std.proofs.Common.{replicate, Ok, sym, refl, ap}
use Rattle.refusal.specs.Numbers.{said, refused_with}
use Rattle.layout.proofs.Passes.{passed}
use Rattle.known.proofs.Block.{restored}
use Rattle.known.proofs.answers.repaired.Goals as goal

pub returns-in_err-repair : goal.returns-in_err-repair
returns-in_err-repair c =
    let l = c.in_ok-lost in
    let none = (restored c.in_ok-shape.shape c.in_ok-shape.ensures.made l.lost _ (replicate 12 0) refl _ (l.ensures.len, l.ensures.at) _ refl refl c.repair.ensures.repaired c.repair.ensures.answer).0 in
    passed (refused_with c.repair.result) (said c.in_err-repair.field-0.0) none (sym (ap refused_with c.in_err-repair.was))

pub returns : goal.returns
returns c =
    let l = c.in_ok-lost in
    ap Ok (restored c.in_ok-shape.shape c.in_ok-shape.ensures.made l.lost _ (replicate 12 0) refl _ (l.ensures.len, l.ensures.at) _ refl refl c.repair.ensures.repaired c.repair.ensures.answer).1
