use Rattle.std.proofs.Common.{◌≡◌, ℕ, ◌<◌, length, get_or, set, sym, refl, ap, ◌∙◌, ap₂, mod-eq_of_lt, arith, rules, length-set, get_or-set_other, get_or-set_same, pow_pos}
use native.Mathlib.Decide.{ℕ_discrete, dec_lt}
use Rattle.layout.specs.Blocks.{code_of}
use Rattle.galois.specs.Field.{power}
use Rattle.galois.proofs.Powers.{two_lt, power_lt}
use Rattle.layout.specs.Sizes.{lost}
use Rattle.code.specs.Solving.{locator_at}
use Rattle.layout.proofs.Parts.{get_or_zeros}
use Rattle.layout.proofs.Passes.{losses_pass}
use Rattle.code.proofs.Stages.{laws_of}
use Rattle.code.proofs.Fitting.{proper}
use Rattle.code.proofs.Rebuilds.{lost_apart}
use Rattle.code.proofs.solver.Solver.new.Goals as goal

pub loop-s-init : goal.loop-s-init
loop-s-init g c = (refl, λ k h. absurd (omega arith), λ k h. get_or_zeros 32 k)

pub loop-s-preserved : goal.loop-s-preserved
loop-s-preserved g c =
    let f = g.F.Arithmetic in
    let laws = g.met.F.Arithmetic.field in
    let s = c.loop-s.s in
    let room : s < length c.loop-s.locators = let h = c.loop-s.invariant.0 in let k = c.loop-s-test.true in let e = c.positions-p-items.ensures.len in let w = c.args.losses.now.few in omega arith in
    let lt : s < c.args.losses.now.len = let e = c.positions-p-items.ensures.len in let h = c.loop-s-test.true in omega arith in
    let here : c.raise.result ≡ power f.prod 2 (lost c.args.losses.now s) =
    c.raise.ensures ∙ ap₂ (power f.prod) (mod-eq_of_lt (two_lt laws)) (c.positions-p-items.ensures.at s lt) in (
      length-set c.loop-s.locators s _ ∙ c.loop-s.invariant.0,
      λ k h. elim (ℕ_discrete k s) [
        | yes q ↦ ap (λ u. get_or (set c.loop-s.locators s c.raise.result) u 0) q ∙ get_or-set_same c.loop-s.locators s _ 0 room ∙ here ∙ ap (λ u. power f.prod 2 (lost c.args.losses.now u)) (sym q)
        | no q ↦ get_or-set_other c.loop-s.locators s k _ 0 q ∙ c.loop-s.invariant.1 k (omega arith)
      ],
      λ k h. get_or-set_other c.loop-s.locators s k _ 0 (λ q. omega arith) ∙ c.loop-s.invariant.2 k (omega arith),
    )

pub overflow_cast-p : goal.overflow_cast-p
overflow_cast-p g c =
    let shape = c.args.code.now.shape in
    let lt : c.loop-s.s < c.args.losses.now.len = let e = c.positions-p-items.ensures.len in let h = c.loop-s-test.true in omega arith in
    let below = (losses_pass shape c.args.losses.now (sym c.in_ok-check.ensures)).0 c.loop-s.s lt in
    let is = c.positions-p-items.ensures.at c.loop-s.s lt in
    search rules

pub invariant_of-result : goal.invariant_of-result
invariant_of-result g c =
    let f = g.F.Arithmetic in
    let s = c.args.code.now.shape in
    let C = code_of s f.prod in
    let l = c.args.losses.now in
    let laws = laws_of s.rows f.bits f.prod f.inv c.args.code.now.width g.met.F.Arithmetic.field in
    let (below, few) = losses_pass s l (sym c.in_ok-check.ensures) in
    let all : c.loop-s.s ≡ l.len = let e = c.positions-p-items.ensures.len in omega arith in
    let at : (k : ℕ) → k < l.len → locator_at c.loop-s.locators k ≡ power f.prod 2 (lost l k) = λ k h. c.loop-s.invariant.1 k (omega arith) in
    record {
      below = below;
      at = at;
      solvable = record {
        laws = laws;
        few = few;
        elements = λ k. elim (dec_lt k c.loop-s.s) [
          | yes h ↦ rw (c.loop-s.invariant.1 k h) (power_lt laws 2 (lost l k) (two_lt laws))
          | no h ↦ rw (c.loop-s.invariant.2 k (omega arith)) (pow_pos s.rows)
        ];
        apart = lost_apart C f.inv (proper s f.prod f.inv laws) l below c.loop-s.locators at;
      };
    }
