use Rattle.std.proofs.Common.{length, sym, subst}
use Rattle.store.specs.Grids.{Filled}
use Rattle.store.specs.Layout.{grid_in, StartsAt}
use Rattle.store.proofs.Places.{filled}
use Rattle.store.proofs.slots.Format.put.Goals as goal

pub returns-clause-after : goal.returns-clause-after
returns-clause-after g c =
    let f = c.args.self in
    let s = c.args.slot in
    let packet = c.args.packet.now in
    let empty = g.M.Medium.empty in
    let words = g.M.Medium.words c.args.medium.now in
    let start = subst (λ ws. StartsAt (length ws) f s c.in_ok-range.range.start) c.words-words.ensures c.in_ok-range.ensures.range.start in
    subst (λ ws. Filled (grid_in empty f words) s.row s.column packet (grid_in empty f ws)) (sym c.fill.ensures.words)
    (filled empty f s _ g.M.Medium.mark words packet start c.if-packet-self.false (g.met.M.Medium.filled_by_mark packet))
