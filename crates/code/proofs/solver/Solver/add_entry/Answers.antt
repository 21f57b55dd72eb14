use Rattle.std.proofs.Common.{refl, ◌∙◌, ap₂, rules}
use lib.Bits.{bit_xor}
use Rattle.algebra.proofs.Words.{scaled_same}
use Rattle.layout.specs.Blocks.{code_of, block_at, size_of}
use Rattle.layout.proofs.Places.{part_ends}
use Rattle.code.proofs.Ranges.{range_read, range_written}
use Rattle.code.proofs.solver.Solver.add_entry.Goals as goal

pub slice_bounds-add_times-end : goal.slice_bounds-add_times-end
slice_bounds-add_times-end g c =
    let C = code_of c.args.self.now.code.now.shape g.F.Arithmetic.prod in
    let fits = part_ends c.args.to C.parity (size_of C) refl refl c.requires.sums c.requires.to in
    let end = c.range-2.ensures.end in
    search rules

pub returns : goal.returns
returns g c =
    let s = c.args.self.now.code.now.shape in
    let C = code_of s g.F.Arithmetic.prod in
    let t = c.args.sums.now in
    let a = c.args.a in
    let w = range_written c.range-2.ensures t c.requires.sums c.requires.to c.add_times.new.target c.add_times.auto.target in
    record {
      at = λ i k h l. w.at i k h l ∙ c.add_times.ensures _ c.fill_table.ensures i k h l
          ∙ ap₂ bit_xor (range_read c.range-2.ensures t i k h l) (scaled_same C a _ (block_at C t c.args.from) (range_read c.range.ensures t) i k l);
      off = λ μ _. w.off μ;
    }
