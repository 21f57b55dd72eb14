use Rattle.std.proofs.Common.{ℕ, ◌≤◌, List}
use Rattle.galois.specs.Field.{power}
use Rattle.layout.specs.Blocks.{packet_in}
use Rattle.code.specs.Matrices.{MatrixOf}
use Rattle.code.specs.Sums.{Absorbed}
use Rattle.code.specs.Values.{code}
use Rattle.code.proofs.code.Code.add_powers.Given as goal

abbrev pub invariant-loop-sum : goal.invariant-loop-sum
invariant-loop-sum g l =
    let f = g.F.Arithmetic in
    let p = packet_in l.self.shape.words l.packet in
    record {
      matrix : MatrixOf f.bits f.prod (power f.prod l.x l.sum) l.matrix;
      from : l.first ≤ l.sum;
      absorbed : (e : List ℕ) → Absorbed (code l.self) l.first l.next l.x p e l.initial.sums → Absorbed (code l.self) l.first l.sum l.x p e l.sums;
    }
