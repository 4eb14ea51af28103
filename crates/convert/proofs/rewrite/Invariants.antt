use Rattle.std.proofs.Common.{length}
use Rattle.convert.proofs.Passes.{Writing}
use Rattle.convert.proofs.rewrite.Given as goal

abbrev pub invariant-loop-found : goal.invariant-loop-found
invariant-loop-found g l = Writing g.From.Word.flagged l.file g.To.Word.flagged l.fn.out l.rest l.done l.out

abbrev pub decreases-loop-found : goal.decreases-loop-found
decreases-loop-found g l = length l.rest
