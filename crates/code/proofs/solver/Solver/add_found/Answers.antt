use Rattle.std.proofs.Common.{◌≡◌, ◌<◌, get_or, sym, refl, ap, ◌∙◌, arith}
use Rattle.galois.specs.Field.{power}
use Rattle.layout.specs.Blocks.{packet_in, code_of}
use Rattle.code.specs.Solving.{locator_at}
use Rattle.code.proofs.Founds.{found_none, found_more}
use Rattle.code.proofs.Ranges.{range_read}
use Rattle.code.proofs.solver.Solver.add_found.Goals as goal

pub loop-s-init : goal.loop-s-init
loop-s-init g c = (refl, found_none _ _ _ _)

pub loop-s-preserved : goal.loop-s-preserved
loop-s-preserved g c =
    let f = g.F.Arithmetic in
    let v = c.args.self.now in
    let s = v.code.now.shape in
    let C = code_of s f.prod in
    let n = c.loop-s.s in
    let lost = c.positions-at-items in
    let lt : n < v.losses.now.len = let h = c.loop-s-test.true in let e = lost.ensures.len in omega arith in
    let x : locator_at v.locators n ≡ power f.prod 2 (get_or lost.result.now n 0) = v.at n lt ∙ ap (power f.prod 2) (sym (lost.ensures.at n lt)) in (
      c.add_at.auto.sums ∙ c.loop-s.invariant.0,
      found_more C v.locators v.losses.now.len _ n (packet_in s.words c.copy_from_slice.new.self) c.loop-s.sums _ lt
          (λ i k h l. ap (λ r. packet_in s.words r i k) c.copy_from_slice.ensures.after ∙ range_read c.range.ensures c.loop-s.sums i k h l)
          (rw (c.count-t.ensures, sym x) at c.add_at.ensures) c.loop-s.invariant.1,
    )
