use Rattle.std.proofs.Common.{◌≡◌, ◌+◌, length}
use Rattle.layout.specs.Sizes.{packet_of, parity_of}
use Rattle.code.proofs.Chunks.{LostAt}
use Rattle.receiver.specs.Steps.{Put}
use Rattle.receiver.proofs.repair.put_found.Given as goal

abbrev pub invariant-loop-at : goal.invariant-loop-at
invariant-loop-at g l =
    let T = g.S.SlotStore in
    let n = length l.yielded in
    record {
      turn : LostAt (packet_of l.shape) l.losses l.work (parity_of l.shape + 1) n l.at-iterator.b.size l.at-iterator.a.rest.now l.at-iterator.b.rest.now;
      put : Put l.shape l.losses l.block n l.work (T.grid l.initial.store) (T.grid l.store);
      kept : T.capacity l.store ≡ T.capacity l.initial.store;
      shut : T.lock l.initial.store ≡ 0 → T.lock l.store ≡ 0;
    }
