use Rattle.std.proofs.Math.Facts.{Fits-lt-pow}
use Rattle.std.proofs.Common.{◌≡◌, [], ◌∷◌, length, ap, ◌∙◌, subst, inl, inr, arith, length-append}
use Rattle.layout.proofs.Blocks.{packet_pos}
use Rattle.layout.proofs.Passes.{passed}
use Rattle.store.specs.Grids.{Filled, put_refusal}
use Rattle.code.proofs.Chunks.{lost_turn, lost_done}
use Rattle.receiver.proofs.Putting.{put_more, put_passes}
use Rattle.receiver.proofs.repair.put_found.Goals as goal

pub returns-in_err-put-clause-put : goal.returns-in_err-put-clause-put
returns-in_err-put-clause-put g c =
    let s = c.args.shape.now in
    let l = c.args.losses.now in
    let n = length c.loop-at.yielded in
    let v = c.loop-at.invariant in
    let p = c.positions.ensures in
    let (item, step) = c.in-Some.ensures.steps in
    let turn = lost_turn (packet_pos s) c.requires.work v.turn _ p.value p.len p.at _ _ _ _ _ item step in
    passed _ _ (put_passes s l c.args.block c.args.work.now _ c.requires.lacks n c.in-Some.packet.now _ turn.listed turn.packet.long v.put)
    (c.in_err-put.ensures.answer ∙ ap (λ q. put_refusal (g.S.SlotStore.grid c.loop-at.store) c.args.block q c.in-Some.packet.now) turn.at)

pub loop-at-preserved : goal.loop-at-preserved
loop-at-preserved g c =
    let s = c.args.shape.now in
    let l = c.args.losses.now in
    let T = g.S.SlotStore in
    let n = length c.loop-at.yielded in
    let v = c.loop-at.invariant in
    let p = c.positions.ensures in
    let (item, step) = c.in-Some.ensures.steps in
    let turn = lost_turn (packet_pos s) c.requires.work v.turn _ p.value p.len p.at _ _ _ _ _ item step in
    let h = c.in_ok-put.ensures in
    rw (length-append c.loop-at.yielded ((c.in-Some.at, c.in-Some.packet) ∷ [])) record {
      turn = turn.next;
      put = put_more s l c.args.block c.args.work.now _ n c.in-Some.packet.now (T.grid c.loop-at.store) (T.grid c.put.new.self) turn.listed turn.packet.is v.put
          (subst (λ q. Filled (T.grid c.loop-at.store) c.args.block q c.in-Some.packet.now (T.grid c.put.new.self)) turn.at h.after);
      kept = h.kept ∙ v.kept;
      shut = λ _. h.shut;
    }

pub returns : goal.returns
returns g c =
    let s = c.args.shape.now in
    let l = c.args.losses.now in
    let v = c.loop-at.invariant in
    let p = c.positions.ensures in
    let done = lost_done (packet_pos s) c.requires.work v.turn _ p.value p.len (let k = c.requires.lacks.missing.few in omega arith) in
    let all : length c.loop-at.yielded ≡ l.len = elim c.in-None.ensures.steps [ inl a ↦ done (inl a.1.0) | inr b ↦ done (inr b.1.1.0) ] in
    record { put = rw all at v.put; words = λ k. Fits-lt-pow (c.type_inv.work k); kept = v.kept; shut = v.shut }
