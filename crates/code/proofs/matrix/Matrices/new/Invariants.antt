use Rattle.std.proofs.Common.{◌≡◌, ℕ, ◌^◌, ◌<◌}
use Rattle.layout.specs.Blocks.{packet_in}
use Rattle.code.specs.Matrices.{MatrixOf, matrix_row}
use Rattle.code.proofs.matrix.Matrices.new.Given as goal

abbrev pub invariant-loop-j : goal.invariant-loop-j
invariant-loop-j g l =
    let f = g.F.Arithmetic in
    record {
      written : (j i : ℕ) → j < l.j → i < f.bits → packet_in f.bits l.matrices j i ≡ matrix_row f.bits f.prod (2 ^ j) i;
      next : l.j < f.bits → MatrixOf f.bits f.prod (2 ^ l.j) l.matrix;
    }
