use Rattle.std.proofs.Common.{◌≡◌, ℕ, ◌/◌, ◌%◌, ◌^◌, ◌<◌, sym, ap, ◌∙◌, ap₂, mod-lt, mod-eq_of_lt, arith, pow_pos}
use Rattle.galois.specs.Field.{power}
use Rattle.galois.proofs.Powers.{one_lt, prod_one, power_lt, power_even, power_odd}
use Rattle.field.proofs.power.raise.Goals as goal
use Rattle.field.proofs.power.raise.Goals.{then-rest-eq1, else-rest-eq1}

pub loop-rest-init : goal.loop-rest-init
loop-rest-init g c =
    let f = g.F.Arithmetic in
    let laws = g.met.F.Arithmetic.field in
    let a = c.args.a % 2 ^ f.bits in
    let lt : a < 2 ^ f.bits = mod-lt c.args.a (pow_pos f.bits) in
    let is : c.product-square.result ≡ a = c.product-square.ensures ∙ ap (f.prod a) (mod-eq_of_lt (one_lt laws)) ∙ prod_one laws a lt in
    record {
      square = rw is lt;
      result = let h = one_lt laws in omega arith;
      rest = rw is (laws.one (power f.prod a c.args.exponent) (power_lt laws a c.args.exponent lt));
    }

pub loop-rest-preserved : goal.loop-rest-preserved
loop-rest-preserved g c =
    let f = g.F.Arithmetic in
    let laws = g.met.F.Arithmetic.field in
    let s = c.loop-rest.square in
    let r = c.loop-rest.result in
    let e = c.loop-rest.rest in
    let hs = c.loop-rest.invariant.square in
    let hr = c.loop-rest.invariant.result in
    let squared : c.product-square-in-loop-rest.result ≡ f.prod s s =
    c.product-square-in-loop-rest.ensures ∙ ap₂ f.prod (mod-eq_of_lt hs) (mod-eq_of_lt hs) in
    let hq = laws.closed s s hs hs in
    elim c.if-rest-eq1.branch [
      | then-rest-eq1 w ↦
          let multiplied : c.if-rest-eq1.result ≡ f.prod r s =
          w.result-is ∙ w.product-result.ensures ∙ ap₂ f.prod (mod-eq_of_lt hr) (mod-eq_of_lt hs) in
          record {
            square = rw squared hq;
            result = rw multiplied (laws.closed r s hr hs);
            rest =
                rw (squared, multiplied) (
                laws.assoc r s (power f.prod (f.prod s s) (e / 2)) hr hs (power_lt laws (f.prod s s) (e / 2) hq)
                ∙ ap (f.prod r) (power_odd laws s e hs w.if-rest-eq1.true) ∙ c.loop-rest.invariant.rest);
          }
      | else-rest-eq1 w ↦
          record {
            square = rw squared hq;
            result = rw w.result-is hr;
            rest = rw (squared, w.result-is) (ap (f.prod r) (power_even laws s e hs (omega arith)) ∙ c.loop-rest.invariant.rest);
          }
    ]

pub returns : goal.returns
unfolding power
returns g c =
    let f = g.F.Arithmetic in
    let r = c.loop-rest.result in
    let none : c.loop-rest.rest ≡ 0 = omega arith in
    sym (prod_one g.met.F.Arithmetic.field r c.loop-rest.invariant.result)
    ∙ ap (λ (n : ℕ). f.prod r (power f.prod c.loop-rest.square n)) (sym none) ∙ c.loop-rest.invariant.rest
