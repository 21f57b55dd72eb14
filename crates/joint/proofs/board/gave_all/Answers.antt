use Rattle.std.proofs.Common.{◌≡◌, ◌-◌, refl, arith, rules}
use Rattle.std.proofs.lemmas.Option.{slice_get_past, slice_get_read}
use Rattle.sender.specs.Sending.{sending_of}
use Rattle.joint.proofs.Holding.{gave_more, gave_every, entry_there, entry_gave, frame_gave}
use Rattle.joint.proofs.board.gave_all.Goals as goal

pub returns-in_default : goal.returns-in_default
returns-in_default c =
    let t = sending_of c.args.sent in
    let entries = c.args.fetches.now in
    let f = c.loop-number.number in
    let at = c.in_ok-block.ensures in
    let none = slice_get_past entries (f - 1) c.in_default.ensures.lookup.3 in
    (λ no. search rules, λ all. absurd (entry_there t entries all f _ _ (omega arith) at.value at.inside none))

pub returns-then-not-gave : goal.returns-then-not-gave
returns-then-not-gave c =
    let t = sending_of c.args.sent in
    let entries = c.args.fetches.now in
    let f = c.loop-number.number in
    let at = c.in_ok-block.ensures in
    let found = c.in-Some.ensures.lookup in
    let is = slice_get_read entries _ (f - 1) c.in-Some.entry.now refl found.3.0 found.1 in (
      λ no. search rules,
      λ all. c.if-not-gave.ensures.1 (entry_gave t entries all f _ _ (omega arith) at.value at.inside _ _ c.in_ok-words.ensures.value is),
    )

pub loop-number-preserved : goal.loop-number-preserved
loop-number-preserved c =
    let t = sending_of c.args.sent in
    let entries = c.args.fetches.now in
    let f = c.loop-number.number in
    let at = c.in_ok-block.ensures in
    let found = c.in-Some.ensures.lookup in
    let is = slice_get_read entries _ (f - 1) c.in-Some.entry.now refl found.3.0 found.1 in
    gave_more t entries f c.loop-number.invariant
    (frame_gave t entries f _ _ _ _ at.value c.in_ok-words.ensures.value is (c.if-not-gave.ensures.0 (search rules)))

pub returns : goal.returns
returns c =
    let t = sending_of c.args.sent in
    let end : c.loop-number.number ≡ c.frames-number-end.result = omega arith in
    (λ yes. gave_every t c.args.fetches.now (rw (end, c.frames-number-end.ensures.value) at c.loop-number.invariant), λ all. search rules)
