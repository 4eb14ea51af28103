use Rattle.std.proofs.Common.{length, ◌-◌}
use Rattle.convert.proofs.Passes.{Measuring}
use Rattle.convert.proofs.measure.Given as goal

abbrev pub invariant-loop-found : goal.invariant-loop-found
invariant-loop-found g l = Measuring g.From.Word.flagged l.file g.To.Word.flagged l.position l.unfit l.length

abbrev pub decreases-loop-found : goal.decreases-loop-found
decreases-loop-found g l = length l.file - l.position.at
