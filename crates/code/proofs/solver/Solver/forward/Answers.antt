use Rattle.std.proofs.Common.{◌≡◌, ◌+◌, ◌-◌, refl, ◌∙◌, arith}
use mathlib.Core.Logic.Iff
use native.Mathlib.Decide.{dec_lt}
use Rattle.layout.specs.Blocks.{code_of}
use Rattle.code.specs.Solving.{locator_at, Stepped}
use Rattle.code.proofs.Stages.{stages_start, stage_starts, stage_turn, stage_ends}
use Rattle.code.proofs.solver.Solver.forward.Goals as goal

pub loop-j-init : goal.loop-j-init
loop-j-init g c = (stages_start c.args.self.now.solvable c.args.sums.now, λ μ h k i b p q. refl)

pub loop-i-init : goal.loop-i-init
loop-i-init g c = (
  rw c.count-t.ensures (stage_starts c.args.self.now.solvable c.loop-j.sums (c.loop-j.j - 1) (c.args.self.now.losses.now.len - c.loop-j.j) (omega arith)),
  λ μ h k i b p q. refl,
)

pub loop-i-preserved : goal.loop-i-preserved
loop-i-preserved g c =
    let f = g.F.Arithmetic in
    let v = c.args.self.now.solvable in
    let s = c.args.self.now.code.now.shape in
    let C = code_of s g.F.Arithmetic.prod in
    let x = c.args.self.now.locators in
    let j = c.loop-j.j in
    let i = c.loop-i.i in
    let d : Stepped C (locator_at x (j - 1)) (i - 1) (i - 1 - 1) c.loop-i.sums c.add_entry.new.sums = c.add_entry.ensures in (
      λ I. Iff.trans (c.loop-i.invariant.0 I) (stage_turn v (j - 1) (i - 1) (i - 1 - 1) (i - j) (i - 1 - j) (omega arith) (omega arith) (omega arith) (omega arith) _ _ d I),
      λ μ h k a b p q. d.off μ k (λ z. omega arith) a b p q ∙ c.loop-i.invariant.1 μ h k a b p q,
    )

pub loop-j-preserved : goal.loop-j-preserved
loop-j-preserved g c = (
  λ I. Iff.trans (c.loop-j.invariant.0 I) (Iff.trans (c.loop-i.invariant.0 I)
      (stage_ends c.args.self.now.solvable c.loop-i.sums (c.loop-j.j - 1) (c.loop-i.i - c.loop-j.j) (c.loop-j.j + 1 - 1) (omega arith) (omega arith) I)),
  λ μ h k a b p q. c.loop-i.invariant.1 μ h k a b p q ∙ c.loop-j.invariant.1 μ h k a b p q,
)

pub returns-clause-keeps : goal.returns-clause-keeps
returns-clause-keeps g c = elim (dec_lt 0 c.args.self.now.losses.now.len) [
  | yes some ↦
      let end = c.loop-j.auto.j-end (let e = c.count-t.ensures in omega arith) in
      let e : c.args.self.now.losses.now.len - 1 ≡ c.loop-j.j - 1 = let t = c.count-t.ensures in omega arith in
      rw e c.loop-j.invariant.0
  | no none ↦ λ I. (λ _ m l. absurd (omega arith), λ _ m l. absurd (omega arith))
]
