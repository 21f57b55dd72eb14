use Rattle.std.proofs.Common.{◌≡◌, ◌+◌, ◌-◌, ◌*◌, ◌<◌, get_or, sym, ap, ◌∙◌, ap₂, arith}
use lib.Bits.{bit_xor}
use Rattle.algebra.specs.Code.{scaled}
use Rattle.algebra.specs.Loops.{theta}
use Rattle.std.specs.List.{between}
use Rattle.layout.specs.Blocks.{code_of, packet_in}
use Rattle.layout.proofs.Entries.{word_lt}
use Rattle.code.specs.Solving.{locator_at}
use Rattle.code.proofs.Backs.{Cleared, factor, gap_is, gap_lt, cleared_none, cleared_more, cleared_all}
use Rattle.code.proofs.Ranges.{range_read, range_written, range_copied}
use Rattle.code.proofs.solver.Solver.backward.Goals as goal

pub add_times-requires-clause-element : goal.add_times-requires-clause-element
add_times-requires-clause-element g c =
    let f = g.F.Arithmetic in
    let s = c.args.self.now.code.now.shape in
    let v = c.args.self.now.solvable in
    let x = c.args.self.now.locators in
    rw (c.factors-factors.ensures c.loop-j.j c.loop-j-test.true, sym c.args.self.now.code.now.width)
    (v.laws.inverse_lt _ (gap_lt v.laws (locator_at x) v.elements c.loop-j.j (c.args.n - c.loop-j.j) (locator_at x c.args.n) (v.elements c.args.n)))

pub loop-j-preserved : goal.loop-j-preserved
unfolding theta
loop-j-preserved g c = λ e z o d.
    let f = g.F.Arithmetic in
    let s = c.args.self.now.code.now.shape in
    let C = code_of s f.prod in
    let x = c.args.self.now.locators in
    let n = c.args.n in
    let j = c.loop-j.j in
    let t = c.loop-j.sums in
    let v = c.args.self.now.solvable in
    let within : j < C.parity = let h = c.requires.n in let k = v.few in let l = c.loop-j-test.true in omega arith in
    let w = range_written c.range-in-loop-j.ensures t (c.loop-j.auto.sums ∙ c.copy_within.auto.self ∙ c.requires.sums) within c.add_times.new.target c.add_times.auto.target in
    let is : get_or c.factors-factors.result j 0 ≡ factor C f.inv x n j =
    c.factors-factors.ensures j c.loop-j-test.true ∙ ap f.inv (gap_is C f.inv (locator_at x) j (n - j) (locator_at x n)) in
    cleared_more v n z c.requires.some c.requires.n j e t _ c.loop-j-test.true
    (λ i k h l. w.at i k h l ∙ c.add_times.ensures z o i k h l
    ∙ ap₂ (λ a b. bit_xor a (scaled C b z i k)) (range_read c.range-in-loop-j.ensures t i k h l) is)
    (λ μ _. w.off μ) (c.loop-j.invariant e z o d)

pub returns : goal.returns
returns g c =
    let f = g.F.Arithmetic in
    let s = c.args.self.now.code.now.shape in
    let C = code_of s f.prod in
    let x = c.args.self.now.locators in
    let n = c.args.n in
    let e = c.args.sums.now in
    let u = c.loop-j.sums in
    let z = packet_in s.words (between c.range.result.start c.range.result.end e) in
    let v = c.args.self.now.solvable in
    let within : n < C.parity = let h = c.requires.n in let k = v.few in omega arith in
    let w = range_written c.range-5.ensures u (c.loop-j.auto.sums ∙ c.copy_within.auto.self ∙ c.requires.sums) within c.add_words.new.target c.add_words.auto.target in
    let by = c.copy_within.ensures.by_index in
    let all : c.loop-j.j ≡ n = omega arith in
    let started : Cleared C f.inv x c.args.self.now.losses.now.len n z 0 e c.copy_within.new.self =
    cleared_none v n z c.requires.some c.requires.n e c.copy_within.new.self
    (range_read c.range.ensures e)
    (range_copied c.range-2.ensures c.range-3.ensures e c.copy_within.new.self by.0 by.1 by.2) in
    let d : Cleared C f.inv x c.args.self.now.losses.now.len n z n e u = rw all at (c.loop-j.invariant e z c.fill_table.ensures started) in
    record {
      keeps = cleared_all v n z c.requires.some c.requires.n e u _ d
          (λ i k h l. w.at i k h l ∙ c.add_words.ensures (i * s.words + k) (let w = word_lt C i k h l in omega arith)
          ∙ ap₂ bit_xor (range_read c.range-5.ensures u i k h l) (ap (λ r. packet_in s.words r i k) c.copy_from_slice.ensures.after ∙ range_read c.range-4.ensures u i k h l))
          (λ μ _. w.off μ);
      off = λ μ h k i b a q. w.off μ (λ r. let m = c.requires.n in omega arith) i b a q ∙ d.off μ h k i b a q;
    }
