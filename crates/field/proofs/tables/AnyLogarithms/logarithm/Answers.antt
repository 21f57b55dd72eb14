use Rattle.std.proofs.Common.{arith}
use Rattle.galois.proofs.Lookups.{some_logarithms, log_read_lt, log_read, log_read_zero}
use Rattle.field.proofs.tables.AnyLogarithms.logarithm.Goals as goal

pub nonzero_rem-a : goal.nonzero_rem-a
nonzero_rem-a g c = let h = some_logarithms _ _ g.met.T.ByteTables.generates c.logarithms-logarithms.ensures in omega arith

pub bounds-logarithms-a : goal.bounds-logarithms-a
bounds-logarithms-a g c = let h = some_logarithms _ _ g.met.T.ByteTables.generates c.logarithms-logarithms.ensures in omega arith

pub returns-clause-below : goal.returns-clause-below
returns-clause-below g c = rw c.from.ensures (log_read_lt _ _ g.met.T.ByteTables.generates c.logarithms-logarithms.ensures _)

pub returns-clause-exponent : goal.returns-clause-exponent
returns-clause-exponent g c = rw c.from.ensures (log_read _ _ g.met.T.ByteTables.generates c.logarithms-logarithms.ensures _)

pub returns-clause-zero : goal.returns-clause-zero
returns-clause-zero g c = rw c.from.ensures (log_read_zero _ _ g.met.T.ByteTables.generates c.logarithms-logarithms.ensures _)
