use Rattle.std.proofs.Common.{◌≡◌, ◌%◌, ◌^◌, ◌∙◌, sym, mod-lt, arith, pow_pos}
use Rattle.galois.specs.Field.{steps}
use Rattle.galois.proofs.Laws.{zero_l, zero_r, product_by_logs}
use Rattle.field.proofs.tabled.TabledArithmetic.product.Goals as goal
use Rattle.field.proofs.tabled.TabledArithmetic.product.Goals.{then-element-eq0-via-then-element-eq0, then-element-eq0-via-else-element-eq0+then-element-eq0-2}

pub returns-then-element-eq0 : goal.returns-then-element-eq0
returns-then-element-eq0 g c =
    let m = g.T.Logarithms.bits in
    let t = g.met.T.Logarithms.generates in
    elim c.then-element-eq0.branch [
      | then-element-eq0-via-then-element-eq0 w ↦
          let z : c.args.a % 2 ^ m ≡ 0 = let h = w.if-element-eq0.true in omega arith in
          rw z (sym (zero_l _ _ t (c.args.b % 2 ^ m)))
      | then-element-eq0-via-else-element-eq0+then-element-eq0-2 w ↦
          let z : c.args.b % 2 ^ m ≡ 0 = let h = w.if-element-eq0-2.true in omega arith in
          rw z (sym (zero_r _ _ t (c.args.a % 2 ^ m)))
    ]

pub returns : goal.returns
returns g c =
    let m = g.T.Logarithms.bits in
    let p = g.T.Logarithms.poly in
    let a : steps m p c.logarithm.result 1 ≡ c.args.a % 2 ^ m = c.logarithm.ensures.exponent (omega arith) in
    let b : steps m p c.logarithm-2.result 1 ≡ c.args.b % 2 ^ m = c.logarithm-2.ensures.exponent (omega arith) in
    c.power.ensures ∙ product_by_logs m p g.met.T.Logarithms.generates _ _ _ _ (mod-lt c.args.b (pow_pos m)) a b
