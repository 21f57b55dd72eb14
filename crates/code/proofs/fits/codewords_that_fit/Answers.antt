use Rattle.std.proofs.Common.{arith}
use Rattle.code.proofs.Fitting.{fits_most, fits_one, fits_several}
use Rattle.code.proofs.fits.codewords_that_fit.Goals as goal

pub returns-then-held-sources : goal.returns-then-held-sources
returns-then-held-sources c = (omega arith, fits_several c.args.shape.now c.args.held (omega arith))

pub returns-then-held-sources-2 : goal.returns-then-held-sources-2
returns-then-held-sources-2 c = (omega arith, fits_one c.args.shape.now c.args.held (omega arith))

pub returns-else-held-sources-2 : goal.returns-else-held-sources-2
returns-else-held-sources-2 c = (omega arith, fits_most c.args.shape.now c.args.held (omega arith))
