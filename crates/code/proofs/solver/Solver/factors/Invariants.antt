use Rattle.std.proofs.Common.{◌≡◌, ℕ, ◌<◌, ◌≤◌, length, get_or}
use Rattle.code.specs.Values.{gap_in}
use Rattle.code.proofs.solver.Solver.factors.Given as goal

abbrev pub invariant-loop-j : goal.invariant-loop-j
invariant-loop-j g l =
    let f = g.F.Arithmetic in
    record {
      product : l.product ≡ gap_in l.self l.j l.n;
      made : (k : ℕ) → l.j ≤ k → k < l.n → get_or l.factors k 0 ≡ f.inv (gap_in l.self k l.n);
      long : length l.factors ≡ 32;
    }
