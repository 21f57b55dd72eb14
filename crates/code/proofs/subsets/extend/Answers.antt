use Rattle.std.proofs.Common.{◌≡◌, ◌+◌, ◌-◌, ◌*◌, ◌<◌, ◌≤◌, ◌++◌, length, get_or, refl, ap, ◌∙◌, mul-le-mul_right, get_or-take, add-mul, arith}
use native.Mathlib.Decide.{ℕ_discrete}
use lib.Bits.{bit_xor}
use Rattle.std.proofs.lemmas.List.{get_or-append-add}
use Rattle.layout.proofs.Parts.{part_read, part_length, part_written, part_kept}
use Rattle.code.proofs.subsets.extend.Goals as goal

pub loop-v-preserved : goal.loop-v-preserved
loop-v-preserved c v k h l =
    let w = c.args.w in
    let n = c.loop-v.v in
    let t = c.loop-v.rest in
    let d = c.split_at_mut-done.result.0.now in
    let lt = c.loop-v-test.true in
    let front = c.split_at_mut-done.ensures.front_len in
    let back = c.split_at_mut-done.ensures.back_len in
    let same = c.loop-v.auto.rest in
    let up : (n + 1) * w ≤ c.args.half * w = mul-le-mul_right w (omega arith) in
    let step = add-mul n 1 w in
    let room : 2 * c.args.half * w ≡ c.args.half * w + c.args.half * w = omega arith in
    let fits : n * w + w ≤ length t = let z = c.requires.table in omega arith in
    let there : n * w + w ≤ length d = omega arith in
    let long = part_length t n w fits in
    let entry = part_length d n w there in
    let size : n * w + w - n * w ≡ w = omega arith in
    elim (ℕ_discrete v n) [
      | yes q ↦
          rw q (part_written n w _ t c.write_sum.new.target size fits (c.write_sum.auto.target ∙ long) k l
          ∙ c.write_sum.ensures k (omega arith)
          ∙ ap (λ u. bit_xor u (get_or c.args.row.now k 0)) (part_read d n w w k refl l))
      | no q ↦ part_kept n w _ t c.write_sum.new.target size fits (c.write_sum.auto.target ∙ long) v k q l ∙ c.loop-v.invariant v k (omega arith) l
    ]

pub returns-clause-back : goal.returns-clause-back
returns-clause-back c v k h l =
    let w = c.args.w in
    let half = c.args.half in
    let d = c.split_at_mut-done.result.0.now in
    let end = c.loop-v-test.false in
    let front = c.split_at_mut-done.ensures.front_len in
    let up : (v + 1) * w ≤ half * w = mul-le-mul_right w (omega arith) in
    let inside : v * w + k < half * w = omega (arith, add-mul v 1 w) in
    let place : (half + v) * w + k ≡ length d + (v * w + k) = omega (arith, add-mul half v w) in
    ap (λ i. get_or (◌++◌ d c.loop-v.rest) i 0) place ∙ get_or-append-add d c.loop-v.rest (v * w + k) 0
    ∙ c.loop-v.invariant v k (omega arith) l
    ∙ ap (λ u. bit_xor u (get_or c.args.row.now k 0)) (ap (λ u. get_or u (v * w + k) 0) c.split_at_mut-done.ensures.front ∙ get_or-take (half * w) c.args.table.now (v * w + k) 0 inside)
