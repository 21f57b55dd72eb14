use Rattle.std.proofs.Common.{◌<◌, ◌≤◌, sym, arith, rules}
use borrow.Author.Tests.{tests}
use Rattle.std.proofs.lemmas.Iterator.{cases_from_any, YieldsList-from_slice}
use Rattle.layout.specs.Sizes.{LostBelow}
use Rattle.layout.proofs.Passes.{losses_ok, losses_outside, losses_many}
use Rattle.layout.proofs.losses.LossList.check.Goals as goal
use Rattle.layout.proofs.losses.LossList.check.Goals.{Else-any}

pub returns-then-any : goal.returns-then-any
returns-then-any c =
    let outside = cases_from_any _ _ _ (λ x. c.args.shape.now.positions ≤ x) (λ x. x < c.args.shape.now.positions) c.any.ensures.ran (YieldsList-from_slice c.positions.result.now cc) (λ x q k. search (rules, tests)) (λ x q k. search (rules, tests)) in
    let (k, h, f) = rw c.if-any.true at outside in
    let lt : k < c.args.self.now.len = let e = c.positions.ensures.len in omega arith in
    sym (losses_outside c.args.shape.now c.args.self.now k lt (let e = c.positions.ensures.at k lt in let g = f 0 in omega arith))

below : (c : Else-any) → LostBelow c.args.self.now c.args.shape.now.positions
below c s h =
    let inside = cases_from_any _ _ _ (λ x. c.args.shape.now.positions ≤ x) (λ x. x < c.args.shape.now.positions) c.any.ensures.ran (YieldsList-from_slice c.positions.result.now cc) (λ x q k. search (rules, tests)) (λ x q k. search (rules, tests)) in
    let f = (rw c.if-any.false at inside) s 0 (omega arith) (let e = c.positions.ensures.len in omega arith) in
    let e = c.positions.ensures.at s h in
    omega arith

pub returns-then-positions-parity : goal.returns-then-positions-parity
returns-then-positions-parity c = sym (losses_many c.args.shape.now c.args.self.now (below c.before.before.before) (let e = c.positions-2.ensures.len in omega arith))

pub returns : goal.returns
returns c = sym (losses_ok c.args.shape.now c.args.self.now (below c.before.before.before) (let e = c.positions-2.ensures.len in omega arith))
