use Rattle.receiver.specs.Calls.{held_in}
use Rattle.receiver.proofs.Missing.{Collected}
use Rattle.receiver.proofs.stored.StoredBlock.missing.Given as goal

abbrev pub invariant-loop-position : goal.invariant-loop-position
invariant-loop-position g l = Collected (held_in (g.S.SlotStore.grid l.self.store.now) l.self.block) l.position l.self.shape l.losses
