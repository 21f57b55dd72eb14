use Rattle.std.proofs.Common.{◌≡◌, ◌+◌, length, take}
use Rattle.store.specs.Layout.{slot_put}
use Rattle.store.specs.Nor.{lock_of}
use Rattle.store.proofs.nor.GuardMedium.fill.Given as goal

abbrev pub invariant-loop-i : goal.invariant-loop-i
invariant-loop-i l =
    (l.self.words.now ≡ slot_put l.initial.self.words.now (l.at + 2) (take l.i l.packet)) × (lock_of l.self.words.now ≡ 1)
    × (length l.self.words.now ≡ length l.initial.self.words.now) × (l.self.words.ghost_name ≡ l.initial.self.words.ghost_name)
