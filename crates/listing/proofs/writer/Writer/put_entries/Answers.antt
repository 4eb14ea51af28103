use Rattle.std.proofs.Common.{◌++◌, get_or, ap, arith}
use lib.ListN.{length-take}
use Rattle.std.proofs.lemmas.List.{get_or-take}
use Rattle.semantics.specs.Text.{text, decimal}
use Rattle.listing.proofs.Writing.{same_text, next-text}
use Rattle.listing.proofs.writer.Writer.put_entries.Goals as goal

pub loop-entry-preserved : goal.loop-entry-preserved
unfolding text
loop-entry-preserved c =
    let i = c.loop-entry.entry-index in
    let log = c.args.log.now in
    next-text _ i (λ i. text " " ++ decimal (get_or log i 0)) c.loop-entry.invariant
    (same_text _ (ap (λ n. text " " ++ decimal n) (get_or-take c.min.result log i 0 (omega (arith, length-take c.min.result log)))) c.put_labelled.ensures)
