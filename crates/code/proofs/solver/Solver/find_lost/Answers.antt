use Rattle.std.proofs.Common.{◌+◌, ◌*◌, ◌∙◌, ap₂, subst, zero-add}
use Rattle.algebra.proofs.Marks.{among_at}
use Rattle.layout.specs.Sizes.{packets_in, lost}
use Rattle.layout.specs.Blocks.{block_at, ZeroRun, code_of}
use Rattle.layout.proofs.Blocks.{packet_pos, packets_are, zero_front}
use Rattle.code.specs.Sums.{SumsTo}
use Rattle.code.proofs.Absorbs.{sums_none}
use Rattle.code.proofs.Held.{left_reads}
use Rattle.code.proofs.Losing.{found_solved, found_joined}
use Rattle.code.proofs.Repairs.{left_of, left_gone, left_same}
use Rattle.code.proofs.solver.Solver.find_lost.Goals as goal

pub absorb_held-requires-clause-run : goal.absorb_held-requires-clause-run
absorb_held-requires-clause-run g c = rw (packets_are c.args.self.now.code.now.shape c.args.self.now.code.now.shape.positions c.args.block.now c.requires.block) c.requires.block

pub returns : goal.returns
returns g c =
    let f = g.F.Arithmetic in
    let v = c.args.self.now in
    let s = v.code.now.shape in
    let C = code_of s g.F.Arithmetic.prod in
    let l = v.losses.now in
    let run = c.args.block.now in
    let b = block_at C run in
    let S = c.absorb_held.new.sums in
    let none : ZeroRun c.split_at_mut-sums.result.0.now = zero_front _ c.split_at_mut-sums.result.1.now (rw c.split_at_mut-sums.ensures.value at c.clear.ensures) in
    let summed : SumsTo C (left_of l b) (0 + packets_in s run) S = c.absorb_held.ensures (left_of l b) (left_reads C l (packets_in s run) run) (sums_none C (left_of l b) _ none) in
    let are : SumsTo C (left_of l b) s.positions S = subst (λ n. SumsTo C (left_of l b) n S) (zero-add _ ∙ packets_are s s.positions run c.requires.block) summed in
    found_joined C l v.solvable.few b c.find.new.sums c.find.new.scratch (c.find.auto.sums ∙ c.absorb_held.auto.sums ∙ c.split_at_mut-sums.ensures.front_len ∙ ap₂ (λ a b. a * b) c.parity.ensures c.packet.ensures.value) c.find.result
    (found_solved C l v.below v.solvable.few b (left_of l b) (λ q _ e i k _ _. left_same l b q e i k) (λ k h i m _ _. left_gone l b (lost l k) (among_at (lost l) l.len k h) i m) S are (packet_pos s) _ c.find.result c.find.ensures)
