use Rattle.algebra.specs.Code.{Packet}
use Rattle.code.specs.Subsets.{RowTable}
use Rattle.code.proofs.Rows.{RowsDone}
use Rattle.code.proofs.packet.add_each_row.Given as goal

abbrev pub invariant-loop-i : goal.invariant-loop-i
invariant-loop-i l = (p : Packet) → RowTable l.m l.w p l.table → RowsDone l.m l.w l.matrix p l.i l.initial.target l.target
