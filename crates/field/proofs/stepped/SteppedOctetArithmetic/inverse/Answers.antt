use Rattle.std.proofs.Common.{◌≡◌, ℕ, ◌+◌, ◌-◌, ◌*◌, ◌%◌, ◌^◌, ◌<◌, sym, refl, ap, ◌∙◌, ap₂, mod-eq_of_lt, arith, pow_pos, pow-add}
use lib.Bits.{and_mask}
use Rattle.galois.specs.Field.{product, power, inverse}
use Rattle.galois.proofs.Laws.{laws}
use Rattle.galois.proofs.Powers.{power_lt, power_add, prod_one}
use Rattle.field.specs.Fields.{octet}
use Rattle.field.proofs.stepped.SteppedOctetArithmetic.inverse.Goals as goal

-- the product of two powers, as the code computes it
powers : (a e f x y : ℕ) → a < 256 → x ≡ power (product 8 0x11D) a e → y ≡ power (product 8 0x11D) a f
    → product 8 0x11D (x % 256) (y % 256) ≡ power (product 8 0x11D) a (e + f)
powers a e f x y h p q =
    let field = laws 8 0x11D octet in
    let xs : x < 256 = rw p (power_lt field a e h) in
    let ys : y < 256 = rw q (power_lt field a f h) in
    ap₂ (product 8 0x11D) (mod-eq_of_lt xs ∙ p) (mod-eq_of_lt ys ∙ q) ∙ sym (power_add field a e f h)

pub loop-i-init : goal.loop-i-init
unfolding power
loop-i-init c = record {
  square = and_mask c.args.a 8 ∙ sym (prod_one (laws 8 0x11D octet) (c.args.a % 256) (omega arith));
  inverse = refl;
}

pub loop-i-preserved : goal.loop-i-preserved
loop-i-preserved c =
    let a = c.args.a % 256 in
    let lt : a < 256 = omega arith in
    let i = c.loop-i._i in
    let was = c.loop-i.invariant in
    let once : 2 ^ (i + 1) ≡ 2 ^ i * 2 = pow-add 2 i 1 in
    let twice : 2 ^ (i + 1 + 1) ≡ 2 ^ (i + 1) * 2 = pow-add 2 (i + 1) 1 in
    let pos : 0 < 2 ^ i = pow_pos i in
    let e : 2 ^ i + 2 ^ i ≡ 2 ^ (i + 1) = omega arith in
    let f : 2 ^ (i + 1) - 2 + 2 ^ (i + 1) ≡ 2 ^ (i + 1 + 1) - 2 = omega arith in
    let squared = c.by_steps-square.ensures ∙ powers a (2 ^ i) (2 ^ i) _ _ lt was.square was.square ∙ ap (power (product 8 0x11D) a) e in
    record {
      square = squared;
      inverse = c.by_steps-inverse.ensures ∙ powers a (2 ^ (i + 1) - 2) (2 ^ (i + 1)) _ _ lt was.inverse squared ∙ ap (power (product 8 0x11D) a) f;
    }

pub returns : goal.returns
unfolding inverse
returns c =
    let all : c.loop-i._i ≡ 7 = let k = c.loop-i.auto in omega arith in
    rw all at c.loop-i.invariant.inverse
