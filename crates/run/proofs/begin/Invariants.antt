use Rattle.std.proofs.Common.{◌≡◌, map, take}
use Rattle.semantics.specs.Run.{over}
use Rattle.run.specs.Rows.{at_home, blank}
use Rattle.run.proofs.begin.Given as goal

abbrev pub invariant-loop-i : goal.invariant-loop-i
invariant-loop-i g l = l.records ≡ over (map (at_home g.W.Word.width l.cells) (take l.i (take 64 l.operations))) blank
