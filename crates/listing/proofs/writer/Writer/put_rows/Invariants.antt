use Rattle.std.proofs.Common.{◌≡◌, map, get_or}
use Rattle.semantics.specs.Text.{texts_below}
use Rattle.semantics.specs.Listing.{row_text}
use Rattle.semantics.specs.Widths.{text_of}
use Rattle.listing.specs.Writing.{wrote}
use Rattle.listing.proofs.writer.Writer.put_rows.Given as goal

abbrev pub invariant-loop-i : goal.invariant-loop-i
invariant-loop-i g l =
    let W = g.W.Word in
    wrote l.fn.self
    (texts_below l.i (λ i. row_text W.width (text_of W.flagged) i (get_or l.operations i 0) (get_or (map W.number l.answers) i 0)))
    ≡ l.self
