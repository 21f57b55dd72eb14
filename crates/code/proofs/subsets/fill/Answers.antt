use Rattle.std.proofs.Common.{◌-◌, ◌∙◌, arith}
use Rattle.code.proofs.Selecting.{filled, sums_fit}
use Rattle.code.proofs.subsets.fill.Goals as goal

pub fill_group-requires-clause-table : goal.fill_group-requires-clause-table
fill_group-requires-clause-table c =
    let few = sums_fit c.min-four.result 4 c.args.w (let e = c.min-four.ensures in omega arith) in
    let front = c.split_at_mut-low.ensures.front_len in
    omega arith

pub fill_group-requires-2-clause-table : goal.fill_group-requires-2-clause-table
fill_group-requires-2-clause-table c =
    let few = sums_fit (c.min-eight.result - c.min-four.result) 4 c.args.w (let e = c.min-four.ensures in let f = c.min-eight.ensures in omega arith) in
    let front = c.split_at_mut-middle.ensures.front_len in
    omega arith

pub fill_group-requires-3-clause-table : goal.fill_group-requires-3-clause-table
fill_group-requires-3-clause-table c =
    let wide = c.requires.m in
    let few = sums_fit (c.args.m - c.min-eight.result) 2 c.args.w (let f = c.min-eight.ensures in omega arith) in
    let first = c.split_at_mut-low.ensures.back_len in
    let back = c.split_at_mut-middle.ensures.back_len in
    let room = c.requires.table in
    omega arith

pub returns : goal.returns
returns c =
    filled c.args.w c.args.m c.min-four.result c.min-eight.result c.args.rows.now _ _ _ c.requires.m c.requires.rows c.min-four.ensures c.min-eight.ensures
    (c.fill_group.auto.table ∙ c.split_at_mut-low.ensures.front_len) (c.fill_group-2.auto.table ∙ c.split_at_mut-middle.ensures.front_len)
    c.fill_group.ensures c.fill_group-2.ensures c.fill_group-3.ensures
