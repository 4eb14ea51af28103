use Rattle.std.proofs.Common.{arith}
use Rattle.listing.proofs.Writing.{handed-whole}
use Rattle.listing.proofs.list.Goals as goal

pub returns-then-fits : goal.returns-then-fits
returns-then-fits g c = handed-whole _ _ c.fits.ensures c.if-fits.true (omega arith) c.put.ensures
