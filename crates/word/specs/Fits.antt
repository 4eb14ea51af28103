-- Must be believed of the promises of the packers of word::Word, of run::take and of run::take_entry alone: what `run` and `report`
-- promise rests on semantics/specs.
-- Which totals a word of a width can hold, and what it holds of any other.
-- Assumes nothing.
use Rattle.std.specs.Prelude.{◌≡◌, ◌+◌, ◌%◌, true}
use Rattle.semantics.specs.declared.Total.{Total}
use Rattle.semantics.specs.declared.values.Cell.{Cell}
use Rattle.semantics.specs.declared.values.Cell.TheVariants.{Empty, Tombstone, Live}
use Rattle.semantics.specs.declared.values.Answer.{Answer}
use Rattle.semantics.specs.Cells.{total_of}
use Rattle.semantics.specs.Words.{Width, carried, nothing}

-- cells and answers whose totals are the width's
abbrev pub FitsCell : Width → Cell Total → Type 0
FitsCell W Empty = Unit {0}
FitsCell W Tombstone = W.is_total nothing ≡ true
FitsCell W (Live k t) = W.is_total t ≡ true

abbrev pub FitsAnswer : Width → Answer Total → Type 0
FitsAnswer W a = W.is_total (carried (total_of a)) ≡ true

-- of an amount above the ceiling a word has the lowest bits, as many as the ceiling has
abbrev pub truncated : Width → Total → Total
truncated W t = record { amount = t.amount % (W.ceiling + 1); saturated = t.saturated }

abbrev pub truncated_cell : Width → Cell Total → Cell Total
truncated_cell W Empty = Empty
truncated_cell W Tombstone = Tombstone
truncated_cell W (Live k t) = Live k (truncated W t)
