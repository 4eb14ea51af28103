-- The mask is 2 ^ 48 - 1.
use Rattle.std.proofs.Common.{sym, ◌∙◌}
use lib.Bits.{and_mask}
use Rattle.word.proofs.Fields.{total-decides}
use Rattle.word.proofs.wide.U64Word.is_cell.Goals as goal

pub returns-then-is_live_or_tombstone : goal.returns-then-is_live_or_tombstone
returns-then-is_live_or_tombstone c =
    c.is_flagged_total.ensures
    ∙ total-decides c.ranges.self.fits (and_mask c.args.self 48) (sym c.is_live_or_tombstone.ensures ∙ c.if-is_live_or_tombstone.true)
