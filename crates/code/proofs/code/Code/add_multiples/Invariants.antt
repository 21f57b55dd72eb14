use Rattle.std.proofs.Common.{◌≡◌}
use Rattle.galois.specs.Field.{power}
use Rattle.layout.specs.Blocks.{packet_in}
use Rattle.code.specs.Sums.{Absorbed}
use Rattle.code.specs.Values.{code}
use Rattle.code.proofs.code.Code.add_multiples.Given as goal

abbrev pub invariant-loop-sum : goal.invariant-loop-sum
invariant-loop-sum g l =
    let f = g.F.Arithmetic in
    (l.a ≡ power f.prod l.x l.sum) × Absorbed (code l.self) l.first l.sum l.x (packet_in l.self.shape.words l.packet) l.initial.sums l.sums
