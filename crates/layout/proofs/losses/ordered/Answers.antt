use Rattle.std.proofs.Common.{◌≡◌, ◌&&◌, ltb, refl, rules}
use borrow.Author.Tests.{tests}
use Rattle.std.proofs.lemmas.Fn.{answers_by}
use Rattle.layout.proofs.Positions.{ordered_by_steps}
use Rattle.layout.proofs.losses.ordered.Goals as goal

pub returns-then-is_none_or : goal.returns-then-is_none_or
returns-then-is_none_or c =
    let end = c.args.end in
    ordered_by_steps c.args.positions.now end c.is_sorted_by.result (λ h. search (rules, tests))
    (c.is_sorted_by.ensures.cases (λ x y. ltb x y && ltb y end) (answers_by _ _ (λ f. f.0.now ≡ end) (λ f a r g k h. (search (rules, tests), search (rules, tests))) _ refl))
