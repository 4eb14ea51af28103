use Rattle.std.proofs.Common.{map, get_or, ap}
use Rattle.semantics.specs.Listing.{row_text}
use Rattle.semantics.specs.Widths.{text_of}
use Rattle.listing.proofs.Writing.{same_text, next-text}
use Rattle.listing.proofs.writer.Writer.put_rows.Goals as goal

pub loop-i-preserved : goal.loop-i-preserved
loop-i-preserved g c =
    let W = g.W.Word in
    let i = c.loop-i.i in
    let operations = c.args.operations.now in
    next-text _ i (λ j. row_text W.width (text_of W.flagged) j (get_or operations j 0) (get_or (map W.number c.args.answers.now) j 0)) c.loop-i.invariant
    (same_text _ (ap (row_text W.width (text_of W.flagged) i (get_or operations i 0)) c.word_at.ensures) c.put_row.ensures)
