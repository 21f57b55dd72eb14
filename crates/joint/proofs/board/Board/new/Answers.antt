use Rattle.std.proofs.Common.{List, ◌++◌, ap, ◌∙◌, subst, append_assoc, rules}
use Rattle.layout.specs.declared.shape.Shape.{Shape}
use Rattle.history.specs.declared.call.Entry.{Entry}
use Rattle.joint.specs.Asked.{Repairs, FetchesAll}
use Rattle.joint.proofs.board.Board.new.Goals as goal

pub returns : goal.returns
returns c =
    let frames = c.in_ok-entries.entries.items in
    let more = c.in_ok-repairs.field-0.items in
    let last = c.in_ok-fetches.field-0.items in
    record {
      frames = frames;
      repairs = more;
      fetches = last;
      entries_are = c.in_ok-append-2.ensures.items ∙ ap (λ (es : List Entry). es ++ last) c.in_ok-append.ensures.items ∙ append_assoc frames more last;
      heard = search rules;
      taken = c.in_ok-entries.ensures;
      repaired = subst (λ (s : Shape). Repairs s more) c.shape.ensures c.in_ok-repairs.ensures;
      fetched = subst (λ (s : Shape). FetchesAll s last) c.shape-2.ensures c.in_ok-fetches.ensures;
    }
