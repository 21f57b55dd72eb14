use Rattle.std.proofs.Common.{◌≡◌, get_or, sym, ap, ◌∙◌, arith}
use lib.Bits.{bit_xor}
use Rattle.layout.specs.Blocks.{packet_in, code_of}
use Rattle.code.specs.Subsets.{selected}
use Rattle.code.specs.Matrices.{matrix_row}
use Rattle.code.specs.Packets.{AddedRows}
use Rattle.code.proofs.Stages.{laws_of}
use Rattle.code.proofs.Matrices.{row_lt, selected_scaled}
use Rattle.code.proofs.code.Code.add_times.Goals as goal

pub add_each_row-requires-clause-matrix : goal.add_each_row-requires-clause-matrix
add_each_row-requires-clause-matrix g c i h =
    let f = g.F.Arithmetic in
    let e = c.width.ensures in
    rw (e, c.of-matrix.ensures i (omega arith)) (row_lt g.met.F.Arithmetic.field c.args.a i)

pub returns : goal.returns
returns g c p t i k h l =
    let f = g.F.Arithmetic in
    let s = c.args.self.now.shape in
    let C = code_of s f.prod in
    let rows : s.rows ≡ f.bits = c.args.self.now.width in
    let m = c.width.ensures ∙ sym rows in
    let w = c.requires.width in
    let added : AddedRows C.rows C.words c.of-matrix.result p c.args.target.now c.add_each_row.new.target = (rw (m, w) at c.add_each_row.ensures) p t in
    let at : get_or c.of-matrix.result i 0 ≡ matrix_row C.rows f.prod c.args.a i = rw rows (c.of-matrix.ensures i (omega arith)) in
    added i k h l
    ∙ ap (bit_xor (packet_in s.words c.args.target.now i k))
    (ap (λ u. selected C.rows u p k) at ∙ selected_scaled C (laws_of s.rows f.bits f.prod f.inv rows g.met.F.Arithmetic.field) c.args.a i k p)
