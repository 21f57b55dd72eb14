use Rattle.std.proofs.Common.{◌≡◌, ◌+◌, ◌*◌, ◌%◌, ◌^◌, ◌<◌, refl, sym, ap, ◌∙◌, ap₂, arith}
use native.Mathlib.Decide.{ℕ_discrete}
use lib.Bits.{bit_xor, xor_zero_l}
use lib.Pow.{pow-lt}
use Rattle.std.proofs.lemmas.Nat.{one_shl}
use Rattle.layout.specs.Blocks.{code_of, size_of}
use Rattle.code.specs.Subsets.{selected}
use Rattle.code.specs.Matrices.{matrix_row}
use Rattle.code.specs.Packets.{AddedRows, PacketRange}
use Rattle.code.proofs.Ranges.{range_read, range_written}
use Rattle.code.proofs.Stages.{laws_of}
use Rattle.code.proofs.Matrices.{row_lt, selected_scaled}
use Rattle.code.proofs.code.Code.fill_multiples.Goals as goal

pub loop-j-init : goal.loop-j-init
loop-j-init g c = record {
  made = λ q t j h. absurd (omega arith);
  left = λ j h i k a b. c.clear.ensures _;
}

pub of-matrix-requires : goal.of-matrix-requires
of-matrix-requires g c =
    let e = c.width-m.ensures in
    let narrow = g.met.F.Arithmetic.field.narrow in
    let lt = c.loop-j-test.true in
    rw (one_shl c.loop-j.j 32 (omega arith)) (pow-lt (omega arith))

pub add_each_row-requires-clause-matrix : goal.add_each_row-requires-clause-matrix
add_each_row-requires-clause-matrix g c i h =
    let e = c.width-m.ensures in
    rw (e, c.of-matrix.ensures i (omega arith)) (row_lt g.met.F.Arithmetic.field _ i)

pub loop-j-preserved : goal.loop-j-preserved
loop-j-preserved g c =
    let f = g.F.Arithmetic in
    let s = c.args.self.now.shape in
    let C = code_of s f.prod in
    let K = g.met.F.Arithmetic.field in
    let n = c.loop-j.j in
    let t = c.loop-j.multiples in
    let rows : s.rows ≡ f.bits = c.args.self.now.width in
    let bits = c.width-m.ensures in
    let m = bits ∙ sym rows in
    let w = c.requires.width in
    let narrow = K.narrow in
    let lt = c.loop-j-test.true in
    let within : n < C.rows = omega arith in
    let part : PacketRange C n (n * (c.width-m.result * c.args.w)) (n * (c.width-m.result * c.args.w) + c.width-m.result * c.args.w) =
    record { start = ap (λ k. n * k) (ap₂ ◌*◌ m w); end = ap (λ k. n * k + k) (ap₂ ◌*◌ m w) } in
    let written = range_written part t (c.loop-j.auto.multiples ∙ c.clear.auto.run ∙ c.requires.multiples) within c.add_each_row.new.target c.add_each_row.auto.target in
    let unit : 1 * 2 ^ n % 2 ^ 32 ≡ 2 ^ n = one_shl n 32 (omega arith) in
    record {
      made = λ q o j h. elim (ℕ_discrete j n) [
        | yes e ↦ rw e (λ i k a b.
            let added : AddedRows C.rows C.words c.of-matrix.result q _ c.add_each_row.new.target = (rw (m, w) at c.add_each_row.ensures) q o in
            written.at i k a b ∙ added i k a b
            ∙ ap₂ bit_xor (range_read {C = C} {a = n * size_of C} {b = n * size_of C + size_of C} (record { start = refl; end = refl }) t i k a b ∙ c.loop-j.invariant.left n (omega arith) i k a b)
            (ap (λ u. selected C.rows u q k) (rw rows (c.of-matrix.ensures i (omega arith) ∙ ap (λ y. matrix_row f.bits f.prod y i) unit))
            ∙ selected_scaled C (laws_of s.rows f.bits f.prod f.inv rows K) (2 ^ n) i k q)
            ∙ xor_zero_l _)
        | no e ↦ λ i k a b. written.off j e i k a b ∙ c.loop-j.invariant.made q o j (omega arith) i k a b
      ];
      left = λ j h i k a b. written.off j (λ e. omega arith) i k a b ∙ c.loop-j.invariant.left j (omega arith) i k a b;
    }

pub returns : goal.returns
returns g c q o j h = c.loop-j.invariant.made q o j (let end = c.loop-j-test.false in let e = c.width-m.ensures in let r = c.args.self.now.width in omega arith)
