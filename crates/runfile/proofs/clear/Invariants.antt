use Rattle.std.proofs.Common.{◌≡◌, map, replicate}
use Rattle.semantics.specs.Run.{over}
use Rattle.runfile.proofs.clear.Given as goal

abbrev pub invariant-loop-i : goal.invariant-loop-i
invariant-loop-i g l = map g.W.Word.number l.cells ≡ over (replicate l.i 0) (map g.W.Word.number l.fn.cells)
