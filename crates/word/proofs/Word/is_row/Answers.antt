-- Its fields are those of the word.
use Rattle.std.proofs.Common.{sym, ◌∙◌}
use Rattle.word.proofs.Fields.{row-judged}
use Rattle.word.proofs.Word.is_row.Goals as goal

pub returns-then-is_total : goal.returns-then-is_total
returns-then-is_total g c =
    c.fields_allowed.ensures
    ∙ row-judged g.Self.Word.flagged c.args.row g.met.Self.Word.of_flag c.row_amount-amount.ensures (sym c.if-is_total.true ∙ c.is_total.ensures)
    c.above_kind.ensures c.row_kind.ensures c.row_key.ensures c.eq.ensures
