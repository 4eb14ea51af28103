use Rattle.std.proofs.Common.{◌≡◌, ◌++◌, get_or}
use Rattle.semantics.specs.Text.{text, decimal, texts_below}
use Rattle.listing.specs.Writing.{wrote}
use Rattle.listing.proofs.writer.Writer.put_entries.Given as goal

abbrev pub invariant-loop-entry : goal.invariant-loop-entry
invariant-loop-entry l = wrote l.fn.self (texts_below l.entry-index (λ i. text " " ++ decimal (get_or l.log i 0))) ≡ l.self
