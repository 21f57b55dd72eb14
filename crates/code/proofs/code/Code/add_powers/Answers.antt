use Rattle.std.proofs.Common.{◌≡◌, ◌+◌, ◌*◌, ◌^◌, ◌<◌, take, get_or, refl, sym, ap, ◌∙◌, ap₂, get_or-take, add-one, arith}
use lib.Bits.{bit_xor}
use Rattle.galois.specs.Field.{power}
use Rattle.galois.proofs.Powers.{power_lt}
use Rattle.layout.specs.Blocks.{code_of, packet_in, size_of}
use Rattle.code.specs.Subsets.{RowTable, selected}
use Rattle.code.specs.Matrices.{matrix_row}
use Rattle.code.specs.Packets.{AddedRows, PacketRange}
use Rattle.code.proofs.Absorbs.{absorbed_more}
use Rattle.code.proofs.Ranges.{range_read, range_written}
use Rattle.code.proofs.Stages.{laws_of}
use Rattle.code.proofs.Matrices.{row_lt, rows_times, selected_scaled, table_same}
use Rattle.code.proofs.code.Code.add_powers.Goals as goal

pub of-matrix-requires : goal.of-matrix-requires
of-matrix-requires g c = rw c.add_plain-next.ensures.power (power_lt g.met.F.Arithmetic.field c.args.x c.add_plain-next.result.0 c.requires.element)

pub loop-sum-init : goal.loop-sum-init
loop-sum-init g c =
    let f = g.F.Arithmetic in
    record {
      matrix = λ i h. c.of-matrix.ensures i h ∙ ap (λ a. matrix_row f.bits f.prod a i) c.add_plain-next.ensures.power;
      from = c.add_plain-next.ensures.from;
      absorbed = λ e d. d;
    }

pub add_rows_and_step-requires-clause-matrix : goal.add_rows_and_step-requires-clause-matrix
add_rows_and_step-requires-clause-matrix g c i h =
    let e = c.width-m.ensures in
    rw (e, c.loop-sum.invariant.matrix i (omega arith)) (row_lt g.met.F.Arithmetic.field _ i)

pub loop-sum-preserved : goal.loop-sum-preserved
unfolding power
loop-sum-preserved g c =
    let f = g.F.Arithmetic in
    let s = c.args.self.now.shape in
    let C = code_of s f.prod in
    let K = g.met.F.Arithmetic.field in
    let x = c.args.x in
    let n = c.loop-sum.sum in
    let t = c.loop-sum.sums in
    let a = power f.prod x n in
    let a-lt : a < 2 ^ f.bits = power_lt K x n c.requires.element in
    let rows : s.rows ≡ f.bits = c.args.self.now.width in
    let bits = c.width-m.ensures in
    let m = bits ∙ sym rows in
    let w = c.requires.width in
    let within : n < C.parity = let e = c.parity-sum-end.ensures in let h = c.loop-sum-test.true in omega arith in
    let part : PacketRange C n (n * (c.width-m.result * c.args.w)) (n * (c.width-m.result * c.args.w) + c.width-m.result * c.args.w) =
    record { start = ap (λ k. n * k) (ap₂ ◌*◌ m w); end = ap (λ k. n * k + k) (ap₂ ◌*◌ m w) } in
    let written = range_written part t (c.loop-sum.auto.sums ∙ c.add_plain-next.auto.sums ∙ c.requires.sums) within c.add_rows_and_step.new.target c.add_rows_and_step.auto.target in
    let p = packet_in s.words c.args.packet.now in
    let table : RowTable C.rows C.words p c.fill.new.table = rw (m, w) at c.fill.ensures in
    let added : AddedRows C.rows C.words c.loop-sum.matrix p _ c.add_rows_and_step.new.target = (rw (m, w) at c.add_rows_and_step.ensures.added) p table in
    let step : RowTable f.bits 1 _ c.fill-2.new.table = rw bits at c.fill-2.ensures in
    record {
      matrix = λ i h.
          (rw bits at c.add_rows_and_step.ensures.stepped) (λ j k. matrix_row f.bits f.prod x j) (table_same (λ j k l o.
          let place : j * 1 + k ≡ j = omega arith in
          ap (λ u. get_or (take f.bits c.of.result) u 0) place ∙ get_or-take f.bits c.of.result j 0 l ∙ c.of.ensures j l) step) i h
          ∙ ap (λ u. selected f.bits u (λ j k. matrix_row f.bits f.prod x j) 0) (c.loop-sum.invariant.matrix i h)
          ∙ rows_times K a x i 0 a-lt c.requires.element h ∙ ap (λ y. matrix_row f.bits f.prod y i) (K.comm a x a-lt c.requires.element ∙ ap (power f.prod x) (sym (add-one n)));
      from = let h = c.loop-sum.invariant.from in omega arith;
      absorbed = λ e d. absorbed_more C c.args.first x p _ c.loop-sum.invariant.from within written
          (λ i k h l. added i k h l
          ∙ ap₂ bit_xor (range_read {C = C} {a = n * size_of C} {b = n * size_of C + size_of C} (record { start = refl; end = refl }) t i k h l)
          (ap (λ u. selected C.rows u p k) (rw rows (c.loop-sum.invariant.matrix i (omega arith)))
          ∙ selected_scaled C (laws_of s.rows f.bits f.prod f.inv rows K) a i k p))
          (c.loop-sum.invariant.absorbed e d);
    }

pub returns : goal.returns
returns g c =
    let all : c.loop-sum.sum ≡ (code_of c.args.self.now.shape g.F.Arithmetic.prod).parity =
    let e = c.parity-sum-end.ensures in let h = c.loop-sum-test.false in let k = c.add_plain-next.ensures.end in let l = c.loop-sum.auto.sum in omega arith in
    rw all at (c.loop-sum.invariant.absorbed c.args.sums.now c.add_plain-next.ensures.added)
