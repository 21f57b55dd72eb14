use Rattle.std.proofs.Common.{◌≡◌, ◌*◌, length}
use Rattle.layout.specs.Sizes.{packet_of}
use Rattle.code.proofs.Chunks.{ChunksAt}
use Rattle.sender.specs.Prepared.{Prepared}
use Rattle.sender.proofs.prepare.prepare.Given as goal

abbrev pub invariant-loop-block : goal.invariant-loop-block
invariant-loop-block g l =
    let s = l.shape in
    let n = length l.yielded in
    record {
      count : l.block-iterator.count ≡ n;
      chunks : ChunksAt (s.sources * packet_of s) l.image s.blocks n l.block-iterator.iter.size l.block-iterator.iter.rest.now;
      prepared : Prepared s g.F.Arithmetic.prod l.image l.parity n;
    }
