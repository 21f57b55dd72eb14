use Rattle.std.proofs.Common.{◌≡◌, ◌<◌, false, arith}
use Rattle.std.proofs.lemmas.Result.{err_from_is_err_and}
use Rattle.receiver.specs.Calls.{held_in}
use Rattle.receiver.proofs.Missing.{collected_none, collected_held, collected_missing, push_refused}
use Rattle.receiver.proofs.stored.StoredBlock.missing.Goals as goal
use Rattle.receiver.proofs.stored.StoredBlock.missing.Goals.{then-not-branch+in_ok-push, else-not-branch}

pub loop-position-init : goal.loop-position-init
loop-position-init g c = collected_none _ _ _ c.none-losses.ensures

pub loop-position-preserved : goal.loop-position-preserved
loop-position-preserved g c =
    let s = c.args.self.now.shape in
    let f = held_in (g.S.SlotStore.grid c.args.self.now.store.now) c.args.self.now.block in
    let n = c.loop-position.position in
    let l = c.loop-position.losses in
    let is : c.in_ok-held.field-0 ≡ f n = let e = c.in_ok-held.ensures in cc in
    elim c.if-not-branch.branch [
      | then-not-branch+in_ok-push w ↦ let t = w.if-not-branch.true in rw w.losses-is (collected_missing f s n l c.loop-position.invariant (let e = is in cc) w.push.new.self w.in_ok-push.ensures)
      | else-not-branch w ↦ let t = w.if-not-branch.false in rw w.losses-is (collected_held f s n l c.loop-position.invariant cc)
    ]

pub returns-in_err-push : goal.returns-in_err-push
returns-in_err-push g c =
    let s = c.args.self.now.shape in
    let G = g.S.SlotStore.grid c.args.self.now.store.now in
    let i = c.args.self.now.block in
    let n = c.loop-position.position in
    let missed : false ≡ held_in G i n = let e = c.in_ok-held.ensures in let t = c.if-not-branch.true in cc in
    let lt : n < s.positions = omega (arith, c.positions-position-end.ensures.value) in
    let e = err_from_is_err_and c.from_residual-in_err-push.result c.from_residual-in_err-push.ensures.1 in
    rw (e.1, e.2) (push_refused s G i n c.loop-position.losses _ _ c.loop-position.invariant lt missed c.in_err-push.ensures)
