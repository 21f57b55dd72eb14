use Rattle.std.proofs.Common.{◌≡◌, ℕ, ◌<◌, ◌≤◌, length, get_or}
use Rattle.algebra.specs.Code.{Packet}
use Rattle.code.specs.Subsets.{RowTable, selected}
use Rattle.code.proofs.matrix.step.Given as goal

abbrev pub invariant-loop-i : goal.invariant-loop-i
invariant-loop-i l = record {
  stepped : (q : Packet) → RowTable l.m 1 q l.rows → (i : ℕ) → i < l.i → get_or l.matrix i 0 ≡ selected l.m (get_or l.initial.matrix i 0) q 0;
  left : (i : ℕ) → l.i ≤ i → get_or l.matrix i 0 ≡ get_or l.initial.matrix i 0;
  long : length l.matrix ≡ 10;
}
