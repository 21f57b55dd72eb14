use Rattle.std.proofs.Common.{◌≡◌, ◌+◌}
use Rattle.galois.specs.Field.{power}
use Rattle.layout.specs.Sizes.{packet_of, packets_in}
use Rattle.code.specs.Held.{RunAdded}
use Rattle.code.specs.Values.{code}
use Rattle.code.proofs.Chunks.{ChunksAt}
use Rattle.code.proofs.code.Code.add_held.Given as goal

abbrev pub invariant-loop-i : goal.invariant-loop-i
invariant-loop-i g l =
    let f = g.F.Arithmetic in
    let s = l.self.shape in
    let n = l.i-iterator.count in
    record {
      turn : ChunksAt (packet_of s) l.run (packets_in s l.run) n l.i-iterator.iter.size l.i-iterator.iter.rest.now;
      added : RunAdded (code l.self) l.losses l.first l.start n l.run l.initial.sums l.sums;
      locator : l.x ≡ power f.prod 2 (l.start + n);
    }
