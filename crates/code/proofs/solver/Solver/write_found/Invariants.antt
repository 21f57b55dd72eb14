use Rattle.std.proofs.Common.{◌+◌, length}
use Rattle.layout.specs.Sizes.{packet_of}
use Rattle.code.specs.Written.{Written}
use Rattle.code.specs.Values.{code_in}
use Rattle.code.proofs.Chunks.{LostAt}
use Rattle.code.proofs.solver.Solver.write_found.Given as goal

abbrev pub invariant-loop-at : goal.invariant-loop-at
invariant-loop-at g l =
    let n = length l.yielded in
    let C = code_in l.self in
    record {
      turn : LostAt (packet_of l.self.code.now.shape) l.self.losses.now l.work (C.parity + 1) n l.at-iterator.b.size l.at-iterator.a.rest.now l.at-iterator.b.rest.now;
      written : Written C l.self.losses.now n l.work l.initial.block l.block;
    }
