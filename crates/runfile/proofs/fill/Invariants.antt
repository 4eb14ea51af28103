use Rattle.std.proofs.Common.{◌-◌, length}
use Rattle.semantics.specs.RunFile.{layout_of}
use Rattle.runfile.specs.Stored.{held}
use Rattle.runfile.proofs.Filled.{Filling}
use Rattle.runfile.proofs.fill.Given as goal

abbrev pub invariant-loop-position : goal.invariant-loop-position
invariant-loop-position g l =
    let W = g.W.Word in
    Filling (layout_of W.flagged) l.file (held W.number l.fn.cells l.fn.operations l.fn.schedule) l.position (held W.number l.cells l.operations l.schedule)

abbrev pub decreases-loop-position : goal.decreases-loop-position
decreases-loop-position g l = length l.file - l.position.at
