use Rattle.std.proofs.Common.{◌≡◌, suc, ◌+◌, ◌-◌, sym, ap₂, ◌∙◌, arith}
use lib.Bits.{bit_and, and_mask, mask_lt}
use Rattle.galois.specs.Field.{times, product}
use Rattle.galois.proofs.Turns.{turn_set, turn_clear, done}
use Rattle.field.proofs.stepped.by_steps.Goals as goal
use Rattle.field.proofs.stepped.by_steps.Goals.{then-rest-eq1, else-rest-eq1}

pub loop-j-init : goal.loop-j-init
unfolding product
loop-j-init c = record { shifted = mask_lt c.args.a 8; sum = ap₂ (times 8 0x11D 8) (and_mask c.args.a 8) (and_mask c.args.b 8) }

pub loop-j-preserved : goal.loop-j-preserved
loop-j-preserved c =
    let k = 8 - (c.loop-j._j + 1) in
    let x = c.loop-j.shifted in
    let r = c.loop-j.rest in
    let s = c.loop-j.sum in
    let left : 8 - c.loop-j._j ≡ suc k = omega arith in
    let was = rw left at c.loop-j.invariant.sum in
    let doubled = c.doubled-shifted.ensures.value in
    record {
      shifted = c.doubled-shifted.ensures.element;
      sum = elim c.if-rest-eq1.branch [
        | then-rest-eq1 w ↦ rw (w.sum-is, doubled) (sym (turn_set 8 0x11D k s x r w.if-rest-eq1.true) ∙ was)
        | else-rest-eq1 w ↦
            let clear : bit_and r 1 ≡ 0 = let m = and_mask r 1 in omega arith in
            rw (w.sum-is, doubled) (sym (turn_clear 8 0x11D k s x r clear) ∙ was)
      ];
    }

pub returns : goal.returns
returns c =
    let none : 8 - c.loop-j._j ≡ 0 = omega arith in
    sym (done 8 0x11D c.loop-j.sum c.loop-j.shifted c.loop-j.rest) ∙ rw none at c.loop-j.invariant.sum
