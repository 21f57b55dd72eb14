use Rattle.std.proofs.Common.{◌≡◌, ◌+◌, ◌*◌, ◌<◌, sym, ap, ◌∙◌, mod-eq_of_lt, arith}
use lib.Bits.{bit_xor}
use Rattle.galois.specs.Field.{power}
use Rattle.galois.proofs.Powers.{prod_one}
use Rattle.layout.specs.Blocks.{code_of, packet_in}
use Rattle.layout.proofs.Entries.{word_lt}
use Rattle.code.proofs.Absorbs.{absorbed_plain}
use Rattle.code.proofs.Ranges.{range_read, range_written}
use Rattle.code.proofs.Stages.{laws_of}
use Rattle.code.proofs.code.Code.add_plain.Goals as goal

pub returns-then-first-gt0-clause-power : goal.returns-then-first-gt0-clause-power
returns-then-first-gt0-clause-power g c =
    let f = g.F.Arithmetic in
    c.raise.ensures ∙ ap (λ y. power f.prod y c.args.first) (mod-eq_of_lt c.requires.element)

pub returns-clause-added : goal.returns-clause-added
returns-clause-added g c =
    let f = g.F.Arithmetic in
    let s = c.args.self.now.shape in
    let C = code_of s f.prod in
    let e = c.args.sums.now in
    let some : 0 < C.parity = let h = s.counts.1 in omega arith in
    let w = range_written c.range.ensures e c.requires.sums some c.add_words.new.target c.add_words.auto.target in
    let zero : c.args.first ≡ 0 = let h = c.if-first-gt0.false in omega arith in
    rw zero
    (absorbed_plain C (laws_of s.rows f.bits f.prod f.inv c.args.self.now.width g.met.F.Arithmetic.field) c.args.x (packet_in s.words c.args.packet.now) e c.add_words.new.target _ some w
    (λ i k h l. c.add_words.ensures (i * s.words + k) (let w = word_lt C i k h l in omega arith)
    ∙ ap (λ u. bit_xor u (packet_in s.words c.args.packet.now i k)) (range_read c.range.ensures e i k h l)))

pub returns-clause-power : goal.returns-clause-power
unfolding power
returns-clause-power g c = sym (prod_one g.met.F.Arithmetic.field c.args.x c.requires.element)
