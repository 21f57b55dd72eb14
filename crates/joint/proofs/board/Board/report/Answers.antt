use Rattle.std.proofs.Common.{◌∙◌, ap, drop, subst}
use Rattle.std.specs.Prelude.{◌↔◌, IsTrue}
use Rattle.layout.specs.declared.shape.Shape.{Shape}
use Rattle.joint.specs.Held.{GaveAll}
use Rattle.joint.proofs.board.Board.report.Goals as goal

pub returns : goal.returns
returns c =
    let b = c.args.self.now in
    let blocks = c.blocks-2.ensures.value ∙ ap (λ (s : Shape). s.blocks) c.shape-shape.ensures in
    let fetches = c.fetches.ensures ∙ ap (λ n. drop n (drop b.heard b.entries.items)) blocks in
    subst (λ sent. IsTrue c.in_ok-holds.holds ↔ GaveAll sent (drop c.args.head_end.now.shape.blocks (drop b.heard b.entries.items))) c.transmission.ensures (rw fetches at c.in_ok-holds.ensures)
