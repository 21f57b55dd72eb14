use Rattle.std.proofs.Common.{◌+◌, ◌<◌, length, sym, refl, get_or-set_other, get_or-set_same, arith, rules}
use borrow.Author.Tests.{tests}
use Rattle.std.proofs.lemmas.Grind.{take-set_at}
use Rattle.layout.specs.Rules.{Ascends}
use Rattle.layout.proofs.Positions.{all_below_last}
use Rattle.layout.proofs.losses.LossList.push.Goals as goal

pub returns : goal.returns
returns c =
    let l = c.args.self.now in
    let p = c.positions-else-position-positions in
    let len = p.ensures.len in
    let asc : Ascends p.result.now (length p.result.now) = λ i j lt le. rw (p.ensures.at i (omega arith), p.ensures.at j (omega arith)) (l.ascends i j lt (omega arith)) in
    let below = all_below_last p.result.now c.last.result c.args.position _ _ asc c.last.ensures.item.3 c.is_some_and.ensures (λ x k. search (rules, tests)) in
    let room : l.len < length l.at = let few = l.few in let k = c.args.shape.now.counts.2 in omega arith in
    record {
      follows = (omega arith, λ s h. rw (sym (p.ensures.at s h)) (below s (omega arith)));
      room = omega arith;
      positions = take-set_at l.at l.len (l.len + 1) c.args.position refl room;
      len = refl;
      kept = λ k h. get_or-set_other l.at l.len k c.args.position 0 (λ e. omega arith);
      last = get_or-set_same l.at l.len c.args.position 0 room;
    }
