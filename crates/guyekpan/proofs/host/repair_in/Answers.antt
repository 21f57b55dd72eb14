use Rattle.std.proofs.Common.{◌≡◌, ◌+◌, take, None, sym, ◌∙◌, rules}
use Rattle.layout.specs.Made.{dimensions_of}
use Rattle.layout.specs.Sizes.{parity_of, Packets}
use Rattle.std.proofs.lemmas.List.{places}
use Rattle.guyekpan.specs.Host.{host_check_refusal}
use Rattle.guyekpan.proofs.Repairs.{repaired, unrepaired}
use Rattle.guyekpan.proofs.host.repair_in.Goals as goal

pub returns-then-is_ok-clause-after : goal.returns-then-is_ok-clause-after
returns-then-is_ok-clause-after g c =
    let s = c.args.one.now.shape in
    let checked : host_check_refusal (dimensions_of s) c.args.block.now c.args.work.now ≡ None = search rules in
    let long : Packets s s.positions c.read.new.words = search (rules, places) in
    let room : Packets s (parity_of s + 1) (take c.in_ok-r.r c.split_at_mut-run.result.1.now) = search (rules, places) in
    repaired s c.in_ok-lost.lost c.args.block.now c.args.losses.now c.args.work.now c.clear.new.bytes
    c.args.one.now.octet checked c.in_ok-lost.ensures.0 c.in_ok-lost.ensures.1 c.clear.ensures _ _
    (sym c.read.ensures) long room _ c.write.new.bytes c.repair-outcome.result c.write.ensures (sym c.is_ok.ensures.value ∙ c.if-is_ok.true) c.repair-outcome.ensures.repaired

pub returns-else-is_ok-clause-after : goal.returns-else-is_ok-clause-after
returns-else-is_ok-clause-after g c =
    let s = c.args.one.now.shape in
    let checked : host_check_refusal (dimensions_of s) c.args.block.now c.args.work.now ≡ None = search rules in
    let long : Packets s s.positions c.read.new.words = search (rules, places) in
    let room : Packets s (parity_of s + 1) (take c.in_ok-r.r c.split_at_mut-run.result.1.now) = search (rules, places) in
    unrepaired s c.in_ok-lost.lost c.args.block.now c.args.losses.now c.args.work.now c.clear.new.bytes
    c.args.one.now.octet checked c.in_ok-lost.ensures.0 c.in_ok-lost.ensures.1 c.clear.ensures _ _
    (sym c.read.ensures) long room c.repair-outcome.result (sym c.is_ok.ensures.value ∙ c.if-is_ok.false) c.repair-outcome.ensures.answer
