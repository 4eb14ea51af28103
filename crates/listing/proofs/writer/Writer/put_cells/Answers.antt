use Rattle.std.proofs.Common.{map, get_or, ap}
use Rattle.semantics.specs.Listing.{cell_text}
use Rattle.semantics.specs.Widths.{text_of}
use Rattle.word.proofs.Numbers.{number-at}
use Rattle.listing.proofs.Writing.{same_text, next-text}
use Rattle.listing.proofs.writer.Writer.put_cells.Goals as goal

pub loop-i-preserved : goal.loop-i-preserved
loop-i-preserved g c =
    let W = g.W.Word in
    let i = c.loop-i.i in
    let at = number-at W.number c.args.cells.now i c.index-cells-i.is c.loop-i-test.true in
    next-text _ i (λ j. cell_text W.width (text_of W.flagged) j (get_or (map W.number c.args.cells.now) j 0)) c.loop-i.invariant
    (same_text _ (ap (cell_text W.width (text_of W.flagged) i) at) c.put_cell.ensures)
