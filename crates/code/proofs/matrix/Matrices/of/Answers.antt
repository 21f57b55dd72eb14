use Rattle.std.proofs.Common.{◌≡◌, ◌^◌, length, min, ap, ◌∙◌, get_or-take, length-take, arith}
use lib.Bits.{bit_xor, xor_zero_l}
use Rattle.std.proofs.lemmas.List.{get_or_append_left}
use Rattle.layout.proofs.Parts.{get_or_zeros}
use Rattle.code.proofs.Matrices.{rows_add}
use Rattle.code.specs.Matrices.{matrix_row}
use Rattle.code.specs.Subsets.{selected}
use Rattle.code.proofs.matrix.Matrices.of.Goals as goal

pub returns : goal.returns
returns g c i h =
    let f = g.F.Arithmetic in
    let e = c.width-m.ensures in
    let y = c.add_selected.new.target in
    let narrow = g.met.F.Arithmetic.field.narrow in
    let long : length y ≡ min c.width-m.result 10 = c.add_selected.auto.target ∙ length-take _ _ in
    get_or_append_left y _ 0 i (omega arith)
    ∙ (rw e at c.add_selected.ensures) (λ j. matrix_row f.bits f.prod (2 ^ j)) c.args.self.now.sums i h
    ∙ ap (λ u. bit_xor u (selected f.bits c.args.a (λ j. matrix_row f.bits f.prod (2 ^ j)) i)) (get_or-take f.bits _ i 0 h ∙ get_or_zeros 10 i) ∙ xor_zero_l _ ∙ rows_add g.met.F.Arithmetic.field c.args.a i c.requires h
