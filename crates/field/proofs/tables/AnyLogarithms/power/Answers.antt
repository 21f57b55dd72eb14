use Rattle.std.proofs.Common.{◌∙◌, arith}
use Rattle.galois.proofs.Lookups.{some_powers, power_read}
use Rattle.field.proofs.tables.AnyLogarithms.power.Goals as goal

pub nonzero_rem-exponent : goal.nonzero_rem-exponent
nonzero_rem-exponent g c = let h = some_powers _ _ g.met.T.ByteTables.generates c.powers-powers.ensures in omega arith

pub bounds-powers-exponent : goal.bounds-powers-exponent
bounds-powers-exponent g c = let h = some_powers _ _ g.met.T.ByteTables.generates c.powers-powers.ensures in omega arith

pub returns : goal.returns
returns g c = c.from.ensures ∙ power_read _ _ g.met.T.ByteTables.generates c.powers-powers.ensures _
