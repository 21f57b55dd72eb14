use Rattle.std.proofs.Common.{◌≡◌, ℕ, ◌+◌, ◌-◌, ◌*◌, ◌<◌, drop, get_or, None}
use Rattle.layout.specs.Sizes.{parity_of, packet_of}
use Rattle.code.specs.Sums.{ZeroSums}
use Rattle.code.specs.Values.{code}
use Rattle.code.proofs.Chunks.{ChunksAt}
use Rattle.code.proofs.code.Code.first_nonzero.Given as goal

abbrev pub invariant-found : goal.invariant-found
invariant-found g l =
    let s = l.self.shape in
    let n = l.i-iterator.count in
    record {
      turn : ChunksAt (packet_of s) (drop (l.first * l.p) l.sums) (parity_of s - l.first) n l.i-iterator.iter.size l.i-iterator.iter.rest.now;
      zeros : ZeroSums (code l.self) l.sums l.first (l.first + n);
      none : l.at ≡ None;
    }

abbrev pub invariant-loop-word : goal.invariant-loop-word
invariant-loop-word g l = record {
  zeros : (k : ℕ) → k < l.word → get_or l.packet k 0 ≡ 0;
  none : l.at ≡ None;
}
