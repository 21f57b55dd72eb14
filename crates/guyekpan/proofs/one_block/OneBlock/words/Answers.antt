use Rattle.std.proofs.Common.{◌≡◌, ◌+◌, ◌*◌, ap, ◌∙◌, arith}
use Rattle.std.proofs.Math.Nat.{add-mul}
use Rattle.layout.specs.Sizes.{parity_of, packet_of}
use Rattle.guyekpan.proofs.one_block.OneBlock.words.Goals as goal

pub returns-clause-parts : goal.returns-clause-parts
returns-clause-parts c =
    let s = c.args.self.now.shape in
    let counts = s.counts in
    let whole : s.positions ≡ s.sources + parity_of s = omega arith in
    rw (c.positions.ensures.value, c.packet.ensures.value) (ap (λ n. n * packet_of s) whole ∙ add-mul s.sources (parity_of s) (packet_of s))
