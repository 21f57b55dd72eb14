use Rattle.std.proofs.Common.{◌≡◌, length, sym, ap, ◌∙◌, rules, one-mul}
use Rattle.sender.specs.Numbering.{frame_block, frame_position}
use Rattle.history.specs.declared.call.Call.TheVariants.{Fetch}
use Rattle.joint.specs.Asked.{AsksFetch}
use Rattle.joint.proofs.Asking.{at_each_push}
use Rattle.joint.proofs.script.fetches.Goals as goal

pub loop-number-preserved : goal.loop-number-preserved
loop-number-preserved c =
    let v = c.loop-number.invariant in
    let e = c.new.result in
    let s = c.args.shape.now in
    let n = c.loop-number.number in
    let at = c.in_ok-block.ensures.value in
    let long : length c.in_ok-run.run'.items ≡ c.packet.result = search rules in
    record {
      number = search rules;
      each = rw c.in_ok-push.ensures.items (at_each_push (AsksFetch c.args.shape.now) c.loop-number.entries.items e v.each (record {
        call = c.new.ensures.call ∙ ap (λ b. Fetch b c.in_ok-block.position) at.0 ∙ ap (Fetch (frame_block s n)) at.1 ∙ ap (λ n. Fetch (frame_block s n) (frame_position s n)) (sym v.number);
        right = ap (λ r. length r.items) c.new.ensures.run ∙ long ∙ c.packet.ensures.value ∙ sym (one-mul _);
      }));
    }
