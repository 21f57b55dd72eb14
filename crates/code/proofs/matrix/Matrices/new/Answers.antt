use Rattle.std.proofs.Common.{◌≡◌, ℕ, List, ◌+◌, ◌-◌, ◌*◌, ◌<◌, ◌≤◌, ◌++◌, get_or, take, length, min, ap, ◌∙◌, mul-le-mul_right, add-mul, get_or-take, length-take, mod-eq_of_lt, arith}
use native.Mathlib.Decide.{ℕ_discrete}
use Rattle.std.proofs.lemmas.List.{get_or_append_left}
use Rattle.galois.proofs.Powers.{one_lt, two_lt}
use Rattle.layout.proofs.Parts.{part_length, part_written, part_kept}
use Rattle.layout.specs.Blocks.{packet_in}
use Rattle.code.specs.Matrices.{matrix_row}
use Rattle.code.specs.Subsets.{RowTable, selected}
use Rattle.code.proofs.Matrices.{row_lt, row_next, table_same}
use Rattle.code.proofs.matrix.Matrices.new.Goals as goal

-- the first places of a list behind which others stand
front : (x rest : List ℕ) (m j k : ℕ) → m ≤ length x → j < m → k < 1 → packet_in 1 (take m (x ++ rest)) j k ≡ get_or x j 0
front x rest m j k long l o =
    let place : j * 1 + k ≡ j = omega arith in
    ap (λ u. get_or (take m (x ++ rest)) u 0) place ∙ get_or-take m (x ++ rest) j 0 l ∙ get_or_append_left x rest 0 j (omega arith)

pub loop-j-init : goal.loop-j-init
loop-j-init g c =
    let f = g.F.Arithmetic in
    let narrow = g.met.F.Arithmetic.field.narrow in
    let e = c.width-m.ensures in
    let y = c.write_matrix-2.new.matrix in
    let long : length y ≡ min c.width-m.result 10 = c.write_matrix-2.auto.matrix ∙ length-take _ _ in
    record {
      written = λ j i h. absurd (omega arith);
      next = λ h i l. get_or_append_left y _ 0 i (omega arith) ∙ c.write_matrix-2.ensures i l ∙ ap (λ a. matrix_row f.bits f.prod a i) (mod-eq_of_lt (one_lt g.met.F.Arithmetic.field));
    }

pub step-requires-clause-matrix : goal.step-requires-clause-matrix
step-requires-clause-matrix g c i h =
    let e = c.width-m.ensures in
    let lt = c.loop-j-test.true in
    rw (e, c.loop-j.invariant.next (omega arith) i (omega arith)) (row_lt g.met.F.Arithmetic.field _ i)

pub loop-j-preserved : goal.loop-j-preserved
loop-j-preserved g c =
    let f = g.F.Arithmetic in
    let K = g.met.F.Arithmetic.field in
    let narrow = K.narrow in
    let e = c.width-m.ensures in
    let n = c.loop-j.j in
    let lt : n < f.bits = let h = c.loop-j-test.true in omega arith in
    let t = c.loop-j.matrices in
    let a = c.loop-j.matrix in
    let y = c.copy_from_slice.new.self in
    let all = c.loop-j-test.array_long in
    let up : (n + 1) * f.bits ≤ 10 * f.bits = mul-le-mul_right f.bits (omega arith) in
    let fits : n * f.bits + f.bits ≤ length t = omega (arith, up, all, narrow, add-mul n 1 f.bits) in
    let size : n * f.bits + f.bits - n * f.bits ≡ f.bits = omega arith in
    let long : length y ≡ f.bits = (rw e at c.copy_from_slice.ensures.len) ∙ part_length t n f.bits fits in
    let copied : y ≡ take f.bits a = rw e at c.copy_from_slice.ensures.after in
    let x = c.write_matrix.new.matrix in
    let wide : length x ≡ min c.width-m.result 10 = c.write_matrix.auto.matrix ∙ length-take _ _ in
    let filled : RowTable f.bits 1 _ c.fill.new.table = rw e at c.fill.ensures in
    let table : RowTable f.bits 1 (λ j k. matrix_row f.bits f.prod 2 j) c.fill.new.table = table_same (λ j k l o.
    front x _ f.bits j k (omega arith) l o
    ∙ c.write_matrix.ensures j l ∙ ap (λ b. matrix_row f.bits f.prod b j) (mod-eq_of_lt (two_lt K))) filled in
    record {
      written = rw e (λ j i h l. elim (ℕ_discrete j n) [
        | yes q ↦ rw q (part_written n f.bits _ t y size fits long i l ∙ ap (λ u. get_or u i 0) copied ∙ get_or-take f.bits a i 0 l ∙ c.loop-j.invariant.next lt i l)
        | no q ↦ part_kept n f.bits _ t y size fits long j i q l ∙ c.loop-j.invariant.written j i (omega arith) l
      ]);
      next = λ h i l.
          (rw e at c.step.ensures) _ table i l ∙ ap (λ u. selected f.bits u (λ j k. matrix_row f.bits f.prod 2 j) 0) (c.loop-j.invariant.next lt i l) ∙ row_next K n i h l;
    }

pub invariant_of-result : goal.invariant_of-result
invariant_of-result g c =
    let f = g.F.Arithmetic in
    let e = c.width-m.ensures in
    let end = c.loop-j-test.false in
    let t : RowTable f.bits f.bits _ c.fill-2.new.table = rw e at c.fill-2.ensures in
    record {
      sums = table_same (λ j i h l.
          let up : (j + 1) * f.bits ≤ f.bits * f.bits = mul-le-mul_right f.bits (omega arith) in
          get_or-take (f.bits * f.bits) c.loop-j.matrices (j * f.bits + i) 0 (omega (arith, up, add-mul j 1 f.bits)) ∙ c.loop-j.invariant.written j i (omega arith) l) t;
    }
