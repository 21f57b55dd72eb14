use Rattle.std.proofs.Common.{◌*◌, refl, sym, subst}
use Rattle.layout.specs.declared.shape.Dimensions.{Dimensions}
use Rattle.layout.specs.Sizes.{packet_of}
use Rattle.store.specs.Grids.{Grid, Emptied}
use Rattle.receiver.specs.Sound.{Sound}
use Rattle.receiver.proofs.Receiver.start.Goals as goal

-- refused: the grid is as it was
pub invariant_of-self : goal.invariant_of-self
invariant_of-self g c = record { sound = subst (λ (k : Grid). Sound g.F.Arithmetic.bits c.args.self.now.shape k) (sym c.in_err-format.ensures.after) c.args.self.now.sound }

pub returns-clause-after : goal.returns-clause-after
returns-clause-after g c =
    let s = c.in_ok-shape.shape in
    let made = c.in_ok-shape.ensures.made in
    let h = c.in_ok-format.ensures in
    let G = g.S.SlotStore.grid c.format.new.self in
    let E : Emptied s.blocks s.positions (packet_of s) G = rw (c.format_for.ensures.rows, c.format_for.ensures.columns, c.format_for.ensures.size) at h.after in
    record {
      made = s;
      dimensions = made;
      shape_is = refl;
      capacity_same = h.kept;
      emptied = subst (λ (d : Dimensions). Emptied d.blocks d.positions (d.rows * d.words) G) made E;
    }
