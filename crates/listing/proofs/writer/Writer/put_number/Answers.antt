use Rattle.std.proofs.Common.{arith, refl}
use Rattle.listing.proofs.Decimal.{laid_none, laid_next}
use Rattle.listing.proofs.writer.Writer.put_number.Goals as goal

pub loop-rest-init : goal.loop-rest-init
loop-rest-init c = laid_none _ _ (omega arith) refl

pub loop-rest-preserved : goal.loop-rest-preserved
loop-rest-preserved c = laid_next c.loop-rest.invariant c.last_digit.ensures c.loop-rest-test.true
