use Rattle.std.proofs.Common.{sym}
use Rattle.word.proofs.Truncated.{within-by}
use Rattle.run.proofs.Loop.{entry_at_once, leaves-idle, leaves-step}
use Rattle.run.proofs.take_entry.Goals as goal

pub returns-then-has-clause-holds : goal.returns-then-has-clause-holds
returns-then-has-clause-holds g c rows lost idle own =
    let W = g.W.Word in
    entry_at_once g.met.W.Word.packing (within-by W.flagged g.met.W.Word.of_flag) (leaves-idle W.width c.args.bounds c.args.entry _ own (sym c.if-has.ensures) (λ j. c.args.row.now))

pub returns-clause-holds : goal.returns-clause-holds
returns-clause-holds g c rows lost idle own =
    let W = g.W.Word in
    entry_at_once g.met.W.Word.packing (within-by W.flagged g.met.W.Word.of_flag)
    (leaves-step W.width c.args.bounds c.args.entry _ (sym c.if-has.ensures) (c.take.ensures.holds rows lost idle own).0)
