use Rattle.std.proofs.Common.{◌≡◌, ◌≤◌}
use Rattle.algebra.specs.Code.{count}
use Rattle.receiver.specs.Calls.{held_in}
use Rattle.receiver.proofs.stored.StoredBlock.count.Given as goal

abbrev pub invariant-loop-position : goal.invariant-loop-position
invariant-loop-position g l = (l.held ≡ count (held_in (g.S.SlotStore.grid l.self.store.now) l.self.block) l.position) × (l.held ≤ l.position)
