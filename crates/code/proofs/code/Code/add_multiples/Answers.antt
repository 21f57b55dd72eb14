use Rattle.std.proofs.Common.{◌≡◌, ℕ, ◌+◌, ◌*◌, ◌^◌, ◌<◌, ◌++◌, ◌≤◌, get_or, take, length, min, sym, refl, ap, ◌∙◌, ap₂, mod-eq_of_lt, add-one, mul-le-mul_right, add-mul, get_or-take, length-take, arith}
use lib.Bits.{bit_xor, xor_zero_l}
use Rattle.std.proofs.lemmas.List.{get_or_append_left}
use Rattle.galois.specs.Field.{power}
use Rattle.galois.proofs.Powers.{power_lt}
use Rattle.algebra.specs.Code.{SamePacket, scaled}
use Rattle.layout.specs.Blocks.{code_of, packet_in, block_at, size_of}
use Rattle.layout.proofs.Entries.{word_lt}
use Rattle.code.specs.Subsets.{RowTable}
use Rattle.code.specs.Packets.{PacketRange}
use Rattle.code.proofs.Absorbs.{absorbed_none, absorbed_more}
use Rattle.code.proofs.Ranges.{range_read, range_written}
use Rattle.code.proofs.Stages.{laws_of}
use Rattle.code.proofs.Matrices.{multiples_selected, selected_product}
use Rattle.code.proofs.code.Code.add_multiples.Goals as goal

pub loop-sum-init : goal.loop-sum-init
loop-sum-init g c =
    (c.raise-a.ensures ∙ ap (λ y. power g.F.Arithmetic.prod y c.args.first) (mod-eq_of_lt c.requires.element), absorbed_none _ _ _ _ _)

pub add_selected-requires-clause-number : goal.add_selected-requires-clause-number
add_selected-requires-clause-number g c =
    rw (c.width-m.ensures, c.loop-sum.invariant.0) (power_lt g.met.F.Arithmetic.field c.args.x c.loop-sum.sum c.requires.element)

pub add_selected-requires-in-loop-sum-clause-number : goal.add_selected-requires-in-loop-sum-clause-number
add_selected-requires-in-loop-sum-clause-number g c =
    rw (c.width-m.ensures, c.loop-sum.invariant.0) (power_lt g.met.F.Arithmetic.field c.args.x c.loop-sum.sum c.requires.element)

pub loop-sum-preserved : goal.loop-sum-preserved
unfolding power
loop-sum-preserved g c =
    let f = g.F.Arithmetic in
    let s = c.args.self.now.shape in
    let C = code_of s f.prod in
    let K = g.met.F.Arithmetic.field in
    let x = c.args.x in
    let n = c.loop-sum.sum in
    let t = c.loop-sum.sums in
    let a = c.loop-sum.a in
    let is : a ≡ power f.prod x n = c.loop-sum.invariant.0 in
    let lt : a < 2 ^ f.bits = rw is (power_lt K x n c.requires.element) in
    let rows : s.rows ≡ f.bits = c.args.self.now.width in
    let m = c.width-m.ensures ∙ sym rows in
    let w = c.words-w.ensures in
    let within : n < C.parity = let e = c.parity-sum-end.ensures in let h = c.loop-sum-test.true in omega arith in
    let part : PacketRange C n (n * (c.width-m.result * c.words-w.result)) (n * (c.width-m.result * c.words-w.result) + c.width-m.result * c.words-w.result) =
    record { start = ap (λ k. n * k) (ap₂ ◌*◌ m w); end = ap (λ k. n * k + k) (ap₂ ◌*◌ m w) } in
    let written = range_written part t (c.loop-sum.auto.sums ∙ c.requires.sums) within c.add_selected.new.target c.add_selected.auto.target in
    let p = packet_in s.words c.args.packet.now in
    let table : RowTable C.rows C.words p c.fill.new.table = rw (m, w) at c.fill.ensures in
    let ms = c.fill_multiples.new.multiples in
    let laws = laws_of s.rows f.bits f.prod f.inv rows K in
    let all : C.rows * size_of C ≤ 10 * size_of C = mul-le-mul_right (size_of C) s.field.1 in
    let long : length ms ≡ min (C.rows * size_of C) 160 = rw (m, w) at (c.fill_multiples.auto.multiples ∙ length-take _ _) in
    let short = c.requires.short in
    let steps : RowTable f.bits 1 (packet_in 1 (take f.bits c.columns.result)) c.fill-3.new.table = rw c.width-m.ensures at c.fill-3.ensures in
    let step : RowTable C.rows (size_of C) (packet_in (size_of C) (take (C.rows * size_of C) (ms ++ _))) c.fill-2.new.table = rw (m, w) at c.fill-2.ensures in
    let each : (j : ℕ) → j < C.rows → SamePacket C (block_at C (take (C.rows * size_of C) (ms ++ _)) j) (scaled C (2 ^ j) p) =
    λ j h i k b d.
    let z = word_lt C i k b d in
    let up : (j + 1) * size_of C ≤ C.rows * size_of C = mul-le-mul_right (size_of C) (omega arith) in
    let inside : j * size_of C + (i * C.words + k) < C.rows * size_of C = omega (arith, z, up, add-mul j 1 (size_of C)) in
    get_or-take (C.rows * size_of C) (ms ++ _) (j * size_of C + (i * C.words + k)) 0 inside
    ∙ get_or_append_left ms _ 0 (j * size_of C + (i * C.words + k)) (omega (arith, inside, long, all, short))
    ∙ c.fill_multiples.ensures p table j h i k b d in (
      (rw c.width-m.ensures at c.add_selected-in-loop-sum.ensures) _ steps 0 (omega arith) ∙ xor_zero_l _
          ∙ selected_product K x a (packet_in 1 (take f.bits c.columns.result)) 0 c.requires.element lt (λ j l.
          let place : j * 1 + 0 ≡ j = omega arith in
          ap (λ u. get_or (take f.bits c.columns.result) u 0) place ∙ get_or-take f.bits c.columns.result j 0 l ∙ c.columns.ensures j l
          ∙ ap (λ u. f.prod u (2 ^ j)) (mod-eq_of_lt c.requires.element))
          ∙ ap (f.prod x) is ∙ ap (power f.prod x) (sym (add-one n)),
      absorbed_more C c.args.first x p _ c.loop-sum.auto.sum within written
          (λ i k h l.
          (rw (m, w) at c.add_selected.ensures) (packet_in (size_of C) (take (C.rows * size_of C) (ms ++ _))) step (i * C.words + k) (word_lt C i k h l)
          ∙ ap₂ bit_xor (range_read {C = C} {a = n * size_of C} {b = n * size_of C + size_of C} (record { start = refl; end = refl }) t i k h l)
          (multiples_selected C laws a p (take (C.rows * size_of C) (ms ++ _)) (rw rows lt) each i k h l ∙ ap (λ y. scaled C y p i k) is))
          c.loop-sum.invariant.1,
    )
