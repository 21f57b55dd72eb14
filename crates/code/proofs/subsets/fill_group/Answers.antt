use Rattle.std.proofs.Common.{◌≡◌, ◌+◌, ◌*◌, ◌^◌, drop, refl, sym, ◌∙◌, mul_comm, add-one, length-append, length-drop, length-take, arith}
use native.Mathlib.Nat.{pow-suc}
use Rattle.std.proofs.lemmas.Nat.{one_shl}
use Rattle.std.proofs.lemmas.List.{get_or_append_left}
use Rattle.std.proofs.Math.Pow.{pow_mono}
use Rattle.layout.proofs.Parts.{part_read}
use Rattle.layout.specs.Blocks.{packet_in}
use Rattle.code.proofs.Selecting.{sums_first, sums_more, sums_fit}
use Rattle.code.proofs.subsets.fill_group.Goals as goal

pub loop-j-init : goal.loop-j-init
loop-j-init c =
    let w = c.args.w in
    let t = c.args.table.now in
    let room = c.requires.table in
    let some = sums_fit 0 c.args.count w (omega arith) in
    sums_first w (packet_in w c.args.rows.now) _ (λ k l.
    get_or_append_left c.clear.new.run (drop w t) 0 k (let e = c.clear.auto.run in omega (arith, length-take w t)) ∙ c.clear.ensures k)

pub extend-requires-clause-half : goal.extend-requires-clause-half
extend-requires-clause-half c =
    let lt = c.loop-j-test.true in
    let few = c.requires.count in
    rw (one_shl c.loop-j.j 64 (omega arith)) (pow_mono {i = c.loop-j.j} {j = 3} (omega arith))

pub extend-requires-clause-table : goal.extend-requires-clause-table
extend-requires-clause-table c =
    let j = c.loop-j.j in
    let lt = c.loop-j-test.true in
    let few = c.requires.count in
    let up = sums_fit (j + 1) c.args.count c.args.w (omega arith) in
    let twice : 2 ^ (j + 1) ≡ 2 * 2 ^ j = rw (add-one j) (pow-suc 2 j ∙ mul_comm (2 ^ j) 2) in
    let same = c.loop-j.auto.table in
    let room = c.requires.table in
    rw (one_shl j 64 (omega arith), sym twice) (let e = c.clear.auto.run in let some = sums_fit 0 c.args.count c.args.w (omega arith) in omega (arith, length-append c.clear.new.run (drop c.args.w c.args.table.now), length-drop c.args.w c.args.table.now, length-take c.args.w c.args.table.now))

pub loop-j-preserved : goal.loop-j-preserved
loop-j-preserved c =
    let j = c.loop-j.j in
    let w = c.args.w in
    let lt = c.loop-j-test.true in
    let few = c.requires.count in
    rw (add-one j) (sums_more w (packet_in w c.args.rows.now) j _ _ _ _ (one_shl j 64 (omega arith)) c.extend.ensures.front c.extend.ensures.back
    (λ k l. part_read c.args.rows.now j w w k refl l) c.loop-j.invariant)
