use Rattle.std.proofs.Common.{sym, ◌∙◌}
use Rattle.word.proofs.Truncated.{within-by}
use Rattle.run.proofs.Loop.{skim_at_once, skim-goes-on}
use Rattle.run.proofs.take.Goals as goal

pub returns-then-skims-clause-holds : goal.returns-then-skims-clause-holds
returns-then-skims-clause-holds g c rows lost idle own =
    let W = g.W.Word in
    skim_at_once g.met.W.Word.packing (within-by W.flagged g.met.W.Word.of_flag) own c.key_at.ensures (sym c.if-skims.ensures.told) c.if-skims.ensures.turned

pub returns-then-skims-clause-answers : goal.returns-then-skims-clause-answers
returns-then-skims-clause-answers g c =
    skim-goes-on g.W.Word.width c.args.bounds c.args.row.now _ c.key_at.ensures (sym c.if-skims.ensures.told)

pub returns-clause-holds : goal.returns-clause-holds
returns-clause-holds g c rows lost idle own = c.act.ensures.holds rows lost idle (c.if-skims.ensures.turned ∙ own)
