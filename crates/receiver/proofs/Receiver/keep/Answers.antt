use Rattle.std.proofs.Common.{◌≡◌, None, Some, sym, refl, ◌∙◌, arith}
use Rattle.store.specs.Grids.{get_refusal}
use Rattle.receiver.specs.Meaning.{means}
use Rattle.receiver.proofs.Slots.{slot_held}
use Rattle.receiver.proofs.Receiver.keep.Goals as goal

pub returns-in-Ok-true-clause-after : goal.returns-in-Ok-true-clause-after
returns-in-Ok-true-clause-after g c =
    let G = (means c.args.self.now).grid in
    let i = c.args.block in
    let j = c.args.position in
    let ws = c.args.payload.now in
    let row = c.in_ok-slot.ensures.row in
    let at = c.in_ok-block.ensures.at in
    let column = c.in_ok-slot.ensures.column in
    let read : None ≡ get_refusal G i j ws = rw (row, at, column) at c.in-Ok-true.ensures.answer in
    let held : G.slots i j ≡ Some ws = rw (row, at, column) at (slot_held _ ws (sym c.in-Ok-true.field-0-test ∙ c.in-Ok-true.ensures.same)) in
    record { same = refl; row_inside = grind (arith, read); column_inside = grind (arith, read); held = held }
