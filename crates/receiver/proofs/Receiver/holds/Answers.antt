use Rattle.std.proofs.lemmas.Slice.Eq.{slice_eq-Decides}
use Rattle.receiver.proofs.Slots.{compared}
use Rattle.receiver.proofs.Receiver.holds.Goals as goal
use Rattle.std.proofs.lemmas.Bool.Decides.{Decides-eqb}

pub returns-clause-same : goal.returns-clause-same
returns-clause-same g c =
    let h = c.in_ok-get.ensures in
    compared (g.S.SlotStore.grid c.args.self.now.store) c.args.slot.row c.args.slot.column _ _ c.args.words.now c.eq.result h.answer h.after (slice_eq-Decides Decides-eqb _ _ _ c.eq.ensures)
