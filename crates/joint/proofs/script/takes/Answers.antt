use Rattle.std.proofs.Common.{◌+◌, min, ap, ◌∙◌, arith}
use Rattle.frame.specs.Frames.{parse}
use Rattle.sender.specs.Broadcast.{turns_of}
use Rattle.sender.specs.Sent.{sent}
use Rattle.joint.specs.Sends.{sends}
use Rattle.joint.proofs.Asking.{in_turns_more, in_turns_push}
use Rattle.joint.proofs.script.takes.Goals as goal

pub loop-turn-preserved : goal.loop-turn-preserved
loop-turn-preserved c =
    let h = c.args.head_end.now in
    let turn = c.loop-turn.turn in
    let all = turns_of h.shape in
    let v = c.loop-turn.invariant in
    let from = v.from in
    let end = c.turns-turn-end.ensures.value ∙ ap turns_of c.shape-shape.ensures in
    let lt = c.loop-turn-test.true in
    record {
      from = omega arith;
      asked = rw c.in_ok-push.ensures.items (in_turns_push h c.args.link.now.late (min turn all) turn (min (turn + 1) all) c.loop-turn.entries.items c.new.result
          from (omega arith) (omega arith) v.asked (record {
            call = c.new.ensures.call;
            frame = ap (λ v. parse v.items) c.new.ensures.run ∙ c.in_ok-frame.ensures ∙ ap (sent (sends h)) c.in_ok-number.ensures.value;
          }));
    }

pub loop-turn-preserved-then-branch : goal.loop-turn-preserved-then-branch
loop-turn-preserved-then-branch c =
    let all = turns_of c.args.head_end.now.shape in
    let turn = c.loop-turn.turn in
    let from = c.loop-turn.invariant.from in
    record {
      from = omega arith;
      asked = in_turns_more c.args.head_end.now c.args.link.now.late (min turn all) (min (turn + 1) all) c.loop-turn.entries.items (omega arith) c.loop-turn.invariant.asked;
    }

pub returns : goal.returns
returns c =
    let all = turns_of c.args.head_end.now.shape in
    in_turns_more c.args.head_end.now c.args.link.now.late (min c.loop-turn.turn all) all c.loop-turn.entries.items (omega arith) c.loop-turn.invariant.asked
