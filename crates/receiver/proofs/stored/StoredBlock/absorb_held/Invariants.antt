use Rattle.code.specs.Values.{code}
use Rattle.code.specs.Sums.{SumsTo}
use Rattle.receiver.specs.Blocks.{block_of}
use Rattle.receiver.proofs.stored.StoredBlock.absorb_held.Given as goal

abbrev pub invariant-loop-position : goal.invariant-loop-position
invariant-loop-position g l =
    let G = g.S.SlotStore.grid l.self.store.now in
    let C = code l.codec in
    SumsTo C (block_of C G l.self.block) l.position l.sums
