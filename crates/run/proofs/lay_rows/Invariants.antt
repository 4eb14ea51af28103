use Rattle.std.proofs.Common.{◌≡◌, map, take}
use Rattle.semantics.specs.Run.{over}
use Rattle.run.specs.Rows.{first_row, blank_rows}
use Rattle.run.proofs.lay_rows.Given as goal

abbrev pub invariant-loop-i : goal.invariant-loop-i
invariant-loop-i g l = l.rows ≡ over (map (first_row g.W.Word.width l.cells) (take l.i (take 64 l.operations))) blank_rows
