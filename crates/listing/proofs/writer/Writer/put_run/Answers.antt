use Rattle.std.proofs.Common.{map, get_or, ap, sym}
use lib.ListN.{length-map}
use Rattle.semantics.specs.Text.{texts_below}
use Rattle.semantics.specs.Listing.{cell_text}
use Rattle.semantics.specs.Widths.{text_of}
use Rattle.listing.proofs.Writing.{same_text}
use Rattle.listing.proofs.Listed.{run-lines}
use Rattle.listing.proofs.writer.Writer.put_run.Goals as goal

pub returns-else-outcome-ne0 : goal.returns-else-outcome-ne0
returns-else-outcome-ne0 g c =
    let W = g.W.Word in
    let run = c.args.run.now in
    let cells = map W.number run.cells.now in
    let all = ap (λ n. texts_below n (λ i. cell_text W.width (text_of W.flagged) i (get_or cells i 0))) (sym (length-map run.cells.now W.number)) in
    run-lines c.args.self.now W.width (text_of W.flagged) run.outcome run.operations.now (map W.number run.answers.now) run.log.now cells c.if-outcome-ne0.false
    c.put_counts.ensures c.put_rows.ensures c.put_log.ensures (same_text _ all c.put_cells.ensures)
