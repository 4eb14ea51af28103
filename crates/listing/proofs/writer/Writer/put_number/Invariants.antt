use Rattle.listing.proofs.Decimal.{Laid}
use Rattle.listing.proofs.writer.Writer.put_number.Given as goal

abbrev pub invariant-loop-rest : goal.invariant-loop-rest
invariant-loop-rest l = Laid l.n l.first l.rest l.digits

abbrev pub decreases-loop-rest : goal.decreases-loop-rest
decreases-loop-rest l = l.rest
