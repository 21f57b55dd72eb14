use Rattle.std.proofs.Common.{◌≡◌, ◌+◌, Some, None, sym, refl, ◌∙◌, subst}
use Rattle.std.proofs.lemmas.Result.{err_from_is_err_and}
use Rattle.refusal.specs.Numbers.{said}
use Rattle.layout.specs.declared.shape.Shape.{Shape}
use Rattle.layout.specs.Sizes.{parity_of}
use Rattle.layout.specs.Blocks.{code_of}
use Rattle.layout.specs.Checks.{run_refusal}
use Rattle.layout.proofs.Passes.{passed}
use Rattle.code.proofs.Stages.{laws_of}
use Rattle.receiver.specs.Meaning.{means}
use Rattle.receiver.specs.Repairs.{few_refusal, Judged}
use Rattle.receiver.specs.Steps.{Lacks}
use Rattle.receiver.proofs.Judging.{repair_passes, few_judged, mended_whole, mended_answer, mended_left, mended_judged}
use Rattle.receiver.proofs.Receiver.repair.Goals as goal

pub returns-in_err-losses-clause-judged : goal.returns-in_err-losses-clause-judged
returns-in_err-losses-clause-judged g c =
    let f = g.F.Arithmetic in
    let m = means c.args.self.now in
    let stored = c.in_ok-stored.ensures in
    let p = err_from_is_err_and c.from_residual-in_err-losses.result c.from_residual-in_err-losses.ensures.1 in
    rw (p.1, p.2) (λ t it _ _.
    let k : Some c.in_ok-stored.stored.shape ≡ Some t = sym stored.shape ∙ it in
    let same : c.in_ok-stored.stored.shape ≡ t = cc in
    let v = c.in_ok-stored.stored in
    let there : few_refusal v.shape (g.S.SlotStore.grid v.store.now) v.block ≡ Some (said c.in_err-losses.field-0.0) = c.in_err-losses.ensures in
    let few : few_refusal t m.grid c.args.block ≡ Some (said c.in_err-losses.field-0.0) = rw (same, stored.at, stored.store) at there in
    let F = c.args.self.now.sound t it in
    few_judged t f.prod f.inv m.grid c.args.block (laws_of t.rows f.bits f.prod f.inv F.0 g.met.F.Arithmetic.field) F.1 _ few)

pub returns : goal.returns
returns g c =
    let f = g.F.Arithmetic in
    let m = means c.args.self.now in
    let stored = c.in_ok-stored.ensures in
    let v = c.in_ok-stored.stored in
    let s = v.shape in
    let i = c.args.block in
    let work = c.args.work.now in
    let l = c.in_ok-losses.losses in
    let r = c.mend-outcome.result in
    let h = c.mend-outcome.ensures in
    let G = g.S.SlotStore.grid v.store.now in
    let there : Lacks s G v.block l = record { fitted = v.fitted; inside = v.inside; missing = c.in_ok-losses.ensures.0 } in
    let A : Lacks s m.grid i l = rw (stored.at, stored.store) at there in
    let few : few_refusal s G v.block ≡ None = c.in_ok-losses.ensures.1 in
    let long : None ≡ run_refusal s (parity_of s + 1) work 0 = rw c.parity.ensures at c.in_ok-check_run.ensures in
    let enough : few_refusal s m.grid i ≡ None = rw (stored.at, stored.store) at few in
    let pass = repair_passes m s i work stored.shape stored.answer long enough in
    record {
      whole = mended_whole s f.prod l m i stored.shape A _ refl h.kept r h.mended;
      answer = mended_answer s f.prod l m i stored.shape A _ refl h.kept _ pass r h.mended;
      left = mended_left s f.prod l m i stored.shape A _ refl h.kept r h.mended;
      work = (λ _. c.clear.ensures, λ e q. passed _ e pass (sym q));
      judged = λ t it _ _.
          let k : Some s ≡ Some t = sym stored.shape ∙ it in
          let same : s ≡ t = cc in
          subst (λ (u : Shape). Judged (code_of u f.prod) m.grid i r) same (mended_judged s f.prod l m.grid i A r _ h.mended);
      shut = h.shut;
    }
