use Rattle.std.proofs.Common.{◌-◌, ◌*◌, ap, rules, arith}
use Rattle.layout.proofs.Places.{part_ends}
use Rattle.sender.proofs.Places.{place_lt}
use Rattle.sender.proofs.Transmission.packet.Goals as goal

pub slice_bounds-result-end : goal.slice_bounds-result-end
slice_bounds-result-end c =
    let s = c.args.self.now.shape.now in
    let e = c.parity-parity.ensures in
    let lt = place_lt c.args.block c.parity-parity.result c.args.position s.blocks c.requires.inside.0 c.if-position-parity.true in
    let end = part_ends _ (s.blocks * c.parity-parity.result) c.packet-size.result (ap (λ r. s.blocks * r) e) c.packet-size.ensures.value c.requires.packets.1 lt in
    search rules

pub slice_bounds-result-end-else-position-parity : goal.slice_bounds-result-end-else-position-parity
slice_bounds-result-end-else-position-parity c =
    let s = c.args.self.now.shape.now in
    let e = c.sources.ensures.value in
    let of = c.parity-parity.ensures in
    let k = s.counts in
    let not = c.if-position-parity.false in
    let lt = place_lt c.args.block c.sources.result (c.args.position - c.parity-parity.result) s.blocks c.requires.inside.0 (let i = c.requires.inside.1 in omega arith) in
    let end = part_ends _ (s.blocks * c.sources.result) c.packet-size.result (ap (λ r. s.blocks * r) e) c.packet-size.ensures.value c.requires.packets.0 lt in
    search rules
