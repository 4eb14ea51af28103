use Rattle.std.proofs.Common.{map}
use Rattle.run.specs.Entry.{stands}
use Rattle.run.specs.Underway.{Underway, numbered}
use Rattle.run.proofs.entries.Given as goal

abbrev pub invariant-loop-entry : goal.invariant-loop-entry
invariant-loop-entry g l =
    let W = g.W.Word in
    Underway W.width (numbered W.number l.fn.cells l.operations l.schedule l.fn.answers l.fn.log) l.entry-index
    (stands (map W.number l.cells) (map W.number l.answers) l.log l.finished l.rows l.lost l.idle)
