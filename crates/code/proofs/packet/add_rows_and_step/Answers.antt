use Rattle.std.proofs.Common.{◌≡◌, ◌+◌, ◌-◌, ◌*◌, ◌≤◌, length, get_or, refl, ap, ◌∙◌, get_or-set_same, get_or-set_other, length-set, arith}
use native.Mathlib.Decide.{ℕ_discrete}
use lib.Bits.{bit_xor, xor_zero_l}
use Rattle.layout.proofs.Places.{part_ends}
use Rattle.layout.proofs.Parts.{part_read, part_length}
use Rattle.code.specs.Subsets.{selected}
use Rattle.code.proofs.Rows.{rows_none, rows_more}
use Rattle.code.proofs.packet.add_rows_and_step.Goals as goal

pub loop-i-init : goal.loop-i-init
loop-i-init c = record {
  added = λ p t. rows_none _ _ _ _ _;
  stepped = λ q t i h. absurd (omega arith);
  left = λ i h. refl;
  long = c.told-matrix;
}

pub loop-i-preserved : goal.loop-i-preserved
loop-i-preserved c =
    let w = c.args.w in
    let m = c.args.m in
    let n = c.loop-i.i in
    let t = c.loop-i.target in
    let a = c.loop-i.matrix in
    let v = c.loop-i.invariant in
    let x = get_or c.add_selected-in-loop-i.new.target 0 0 in
    let lt = c.loop-i-test.true in
    let fits : n * w + w ≤ length t = part_ends n m w refl refl (c.loop-i.auto.target ∙ c.requires.target) lt in
    let long = part_length t n w fits in
    let size : n * w + w - n * w ≡ w = omega arith in
    record {
      added = λ p d.
          rows_more m w c.args.matrix.now p n _ _ t _ size fits (c.add_selected.auto.target ∙ long)
          (λ k l. c.add_selected.ensures p d k l
          ∙ ap (λ u. bit_xor u (selected m (get_or a n 0) p k)) (part_read t n w w k refl l)
          ∙ ap (λ u. bit_xor (get_or t (n * w + k) 0) (selected m u p k)) (v.left n (omega arith)))
          (v.added p d);
      stepped = λ q d i h. elim (ℕ_discrete i n) [
        | yes e ↦ rw e (get_or-set_same a n x 0 (let z = v.long in let few = c.requires.m in omega arith) ∙ c.add_selected-in-loop-i.ensures q d 0 (omega arith) ∙ xor_zero_l _
            ∙ ap (λ u. selected m u q 0) (v.left n (omega arith)))
        | no e ↦ get_or-set_other a n i x 0 e ∙ v.stepped q d i (omega arith)
      ];
      left = λ i h. get_or-set_other a n i x 0 (λ e. omega arith) ∙ v.left i (omega arith);
      long = length-set a n x ∙ v.long;
    }

pub returns-clause-added : goal.returns-clause-added
returns-clause-added c p d i k h l = (c.loop-i.invariant.added p d).at i k (let end = c.loop-i-test.false in omega arith) l
