use Rattle.layout.specs.Blocks.{packet_in}
use Rattle.code.specs.Subsets.{SubsetSums}
use Rattle.code.proofs.subsets.fill_group.Given as goal

abbrev pub invariant-loop-j : goal.invariant-loop-j
invariant-loop-j l = SubsetSums l.w (packet_in l.w l.rows) l.j l.table
