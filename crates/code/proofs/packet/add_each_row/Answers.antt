use Rattle.std.proofs.Common.{◌≡◌, ◌+◌, ◌-◌, ◌*◌, ◌≤◌, length, get_or, refl, ap, ◌∙◌, arith}
use lib.Bits.{bit_xor}
use Rattle.layout.proofs.Places.{part_ends}
use Rattle.layout.proofs.Parts.{part_read, part_length}
use Rattle.code.specs.Subsets.{selected}
use Rattle.code.proofs.Rows.{rows_none, rows_more}
use Rattle.code.proofs.packet.add_each_row.Goals as goal

pub loop-i-init : goal.loop-i-init
loop-i-init c p t = rows_none _ _ _ _ _

pub loop-i-preserved : goal.loop-i-preserved
loop-i-preserved c p d =
    let w = c.args.w in
    let m = c.args.m in
    let n = c.loop-i.i in
    let t = c.loop-i.target in
    let fits : n * w + w ≤ length t = part_ends n m w refl refl (c.loop-i.auto.target ∙ c.requires.target) c.loop-i-test.true in
    let long = part_length t n w fits in
    let size : n * w + w - n * w ≡ w = omega arith in
    rows_more m w c.args.matrix.now p n _ _ t _ size fits (c.add_selected.auto.target ∙ long)
    (λ k l. c.add_selected.ensures p d k l ∙ ap (λ u. bit_xor u (selected m (get_or c.args.matrix.now n 0) p k)) (part_read t n w w k refl l))
    (c.loop-i.invariant p d)

pub returns : goal.returns
returns c p d i k h l = (c.loop-i.invariant p d).at i k (let end = c.loop-i-test.false in omega arith) l
