use Rattle.std.proofs.Common.{◌*◌, ◌^◌, ap, ◌∙◌, arith}
use Rattle.algebra.specs.Code.{bit}
use Rattle.algebra.proofs.Words.{xors_ext}
use Rattle.code.specs.Matrices.{matrix_row}
use Rattle.code.proofs.matrix.write_matrix.Goals as goal

pub returns : goal.returns
unfolding matrix_row
returns g c i h =
    let e = c.width-m.ensures in
    let f = g.F.Arithmetic in
    rw e at (c.loop-i.invariant i (let end = c.loop-i-test.false in omega arith))
    ∙ xors_ext f.bits _ _ (λ j l. ap (λ u. bit i u * 2 ^ j) (c.columns-columns.ensures j l))
