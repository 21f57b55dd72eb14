use Rattle.std.proofs.Common.{get_or, refl, ap, ◌∙◌, get_or-set_same, get_or-set_other, length-set, arith}
use native.Mathlib.Decide.{ℕ_discrete}
use lib.Bits.{xor_zero_l}
use Rattle.code.specs.Subsets.{selected}
use Rattle.code.proofs.matrix.step.Goals as goal

pub loop-i-init : goal.loop-i-init
loop-i-init c = record {
  stepped = λ q t i h. absurd (omega arith);
  left = λ i h. refl;
  long = c.told-matrix;
}

pub loop-i-preserved : goal.loop-i-preserved
loop-i-preserved c =
    let m = c.args.m in
    let n = c.loop-i.i in
    let a = c.loop-i.matrix in
    let v = c.loop-i.invariant in
    let x = get_or c.add_selected.new.target 0 0 in
    let lt = c.loop-i-test.true in
    record {
      stepped = λ q d i h. elim (ℕ_discrete i n) [
        | yes e ↦ rw e (get_or-set_same a n x 0 (let z = v.long in let few = c.requires.m in omega arith) ∙ c.add_selected.ensures q d 0 (omega arith) ∙ xor_zero_l _
            ∙ ap (λ u. selected m u q 0) (v.left n (omega arith)))
        | no e ↦ get_or-set_other a n i x 0 e ∙ v.stepped q d i (omega arith)
      ];
      left = λ i h. get_or-set_other a n i x 0 (λ e. omega arith) ∙ v.left i (omega arith);
      long = length-set a n x ∙ v.long;
    }
