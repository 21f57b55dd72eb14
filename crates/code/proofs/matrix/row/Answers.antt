use Rattle.std.proofs.Common.{◌*◌, ◌/◌, ◌%◌, ◌^◌, ◌<◌, get_or, refl, ap, ap₂, ◌∙◌, add-one, mod-eq_of_lt, arith}
use lib.Bits.{bit_xor, and_mask}
use lib.Pow.{pow-lt}
use Rattle.galois.proofs.Linear.{digit_lt}
use Rattle.algebra.specs.Code.{xors, bit}
use Rattle.code.proofs.matrix.row.Goals as goal

pub loop-j-init : goal.loop-j-init
unfolding xors
loop-j-init c = refl

pub loop-j-preserved : goal.loop-j-preserved
unfolding xors bit
loop-j-preserved c =
    let j = c.loop-j.j in
    let b = get_or c.args.columns.now j 0 / 2 ^ c.args.i in
    let lt = c.loop-j-test.true in
    let few = c.requires.m in
    let small : b % 2 * 2 ^ j < 2 ^ 32 = digit_lt 32 0 (b % 2) (2 ^ j) (omega arith) (pow-lt {i = j} {j = 32} (omega arith)) in
    rw (add-one j) (ap₂ bit_xor c.loop-j.invariant (ap (λ u. u * 2 ^ j % 2 ^ 32) (and_mask b 1) ∙ mod-eq_of_lt small))
