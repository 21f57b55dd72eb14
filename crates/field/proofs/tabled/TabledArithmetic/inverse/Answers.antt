use Rattle.std.proofs.Common.{◌≡◌, ◌%◌, ◌^◌, ◌<◌, sym, ◌∙◌, mod-lt, arith, pow_pos}
use Rattle.galois.proofs.Laws.{inverse_zero, inverse_by_log}
use Rattle.field.proofs.tabled.TabledArithmetic.inverse.Goals as goal

pub returns-then-element-eq0 : goal.returns-then-element-eq0
returns-then-element-eq0 g c =
    let m = g.T.Logarithms.bits in
    let z : c.args.a % 2 ^ m ≡ 0 = omega arith in
    rw z (sym (inverse_zero _ _ g.met.T.Logarithms.generates))

pub returns-else-element-eq0 : goal.returns-else-element-eq0
returns-else-element-eq0 g c =
    let m = g.T.Logarithms.bits in
    let p = g.T.Logarithms.poly in
    let some : 0 < c.args.a % 2 ^ m = omega arith in
    c.power-reciprocal.ensures ∙ rw c.order.ensures (
    inverse_by_log m p g.met.T.Logarithms.generates (c.args.a % 2 ^ m) _ some (mod-lt c.args.a (pow_pos m))
    c.logarithm.ensures.below (c.logarithm.ensures.exponent some))
