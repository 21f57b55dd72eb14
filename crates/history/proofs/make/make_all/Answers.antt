use Rattle.std.proofs.Common.{get_or, add-one, arith, ap, ◌∙◌, subst, sym}
use Rattle.receiver.specs.Meaning.{means}
use Rattle.history.specs.Steps.{AllSteps}
use Rattle.history.proofs.Runs.{run_more, one_more}
use Rattle.history.proofs.make.make_all.Goals as goal

pub loop-entry-preserved : goal.loop-entry-preserved
loop-entry-preserved g c =
    let f = g.F.Arithmetic in
    let v = c.loop-entry.invariant in
    let now = c.loop-entry.entries in
    let k = c.loop-entry.entry-index in
    let h = c.make.ensures in
    let r = one_more c.args.entries.now now k (get_or now k c.entry-item.result) c.make.new.entry (omega arith) (ap (get_or now k) c.entry-item.is) v.left h.call in
    rw (add-one k) record {
      ran = subst (λ ts. AllSteps f.bits f.prod (means c.args.receiver.now) ts (means c.make.new.receiver)) (sym r.turns) (run_more f.bits f.prod _ _ _ _ _ v.ran h.step);
      left = r.left;
      calls_same = r.calls_same ∙ v.calls_same;
    }
