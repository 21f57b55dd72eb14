use Rattle.std.proofs.Common.{◌≡◌, suc, ◌+◌, ◌-◌, ◌%◌, ◌^◌, ◌<◌, refl, sym, ap, ◌∙◌, ap₂, mod-eq_of_lt, get_or-set_same, get_or-set_other, length-set, arith}
use native.Mathlib.Decide.{ℕ_discrete}
use lib.Bits.{bit_xor, xor_lt}
use Rattle.code.specs.Solving.{locator_at, gap_of}
use Rattle.code.specs.Values.{gap_in}
use Rattle.code.proofs.Backs.{gap_lt, gap_front}
use Rattle.code.proofs.solver.Solver.factors.Goals as goal

pub loop-j-init : goal.loop-j-init
unfolding gap_of
loop-j-init g c =
    let f = g.F.Arithmetic in
    let v = c.args.self.now in
    let none : c.args.n - c.args.n ≡ 0 = omega arith in
    record {
      product = sym (ap (λ k. gap_of f.prod (locator_at v.locators) c.args.n k (locator_at v.locators c.args.n)) none);
      made = λ k h l. absurd (omega arith);
      long = refl;
    }

pub loop-j-preserved : goal.loop-j-preserved
loop-j-preserved g c =
    let f = g.F.Arithmetic in
    let v = c.args.self.now in
    let x = locator_at v.locators in
    let n = c.args.n in
    let m = c.loop-j.j in
    let j = m - 1 in
    let some = c.loop-j-test.true in
    let end = c.loop-j.auto.j in
    let wide = v.code.now.width in
    let laws = v.solvable.laws in
    let lt = v.solvable.elements in
    let more : n - j ≡ suc (n - m) = omega arith in
    let next : j + 1 ≡ m = omega arith in
    let step : gap_in v j n ≡ f.prod (bit_xor (x n) (x j)) (gap_in v m n) =
    ap (λ k. gap_of f.prod x j k (x n)) more ∙ gap_front laws x lt j (n - m) (x n) (lt n) ∙ ap (λ k. f.prod (bit_xor (x n) (x j)) (gap_of f.prod x k (n - m) (x n))) next in
    let d-lt : bit_xor (x n) (x j) < 2 ^ f.bits = rw (sym wide) (xor_lt v.code.now.shape.rows (x n) (x j) (lt n) (lt j)) in
    let g-lt : gap_in v m n < 2 ^ f.bits = rw (sym wide) (gap_lt laws x lt m (n - m) (x n) (lt n)) in
    let h-lt : gap_in v j n < 2 ^ f.bits = rw (sym wide) (gap_lt laws x lt j (n - j) (x n) (lt n)) in
    let is : c.product-product.result ≡ gap_in v j n =
    c.product-product.ensures ∙ ap₂ f.prod (mod-eq_of_lt d-lt) (ap (λ u. u % 2 ^ f.bits) c.loop-j.invariant.product ∙ mod-eq_of_lt g-lt) ∙ sym step in
    let made : c.inverse.result ≡ f.inv (gap_in v j n) = c.inverse.ensures ∙ ap f.inv (ap (λ u. u % 2 ^ f.bits) is ∙ mod-eq_of_lt h-lt) in
    record {
      product = is;
      made = λ k h l. elim (ℕ_discrete k j) [
        | yes q ↦ rw q (get_or-set_same c.loop-j.factors j c.inverse.result 0 (let z = c.loop-j.invariant.long in let few = v.solvable.few in let r = v.code.now.shape.counts in let within = c.requires in omega arith) ∙ made)
        | no q ↦ get_or-set_other c.loop-j.factors j k c.inverse.result 0 q ∙ c.loop-j.invariant.made k (omega arith) l
      ];
      long = length-set c.loop-j.factors j c.inverse.result ∙ c.loop-j.invariant.long;
    }
