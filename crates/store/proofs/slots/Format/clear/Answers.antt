use Rattle.std.proofs.Common.{length, sym, ap, ◌∙◌}
use Rattle.store.specs.Calls.{fits_in}
use Rattle.store.proofs.Places.{cleared}
use Rattle.store.proofs.slots.Format.clear.Goals as goal

pub returns-clause-after : goal.returns-clause-after
returns-clause-after g c =
    let f = c.args.self in
    cleared g.M.Medium.empty f _ g.M.Medium.blank _ (ap (λ ws. fits_in (length ws) f) (sym c.words.ensures) ∙ sym c.if-not-fits.ensures)
    c.blank.ensures.words g.met.M.Medium.empty_when_blank
