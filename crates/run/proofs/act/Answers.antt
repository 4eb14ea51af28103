use Rattle.std.proofs.Common.{ℕ, map, set, ap, ◌∙◌}
use Rattle.semantics.proofs.Lists.{map-set}
use Rattle.word.proofs.Truncated.{within-by}
use Rattle.run.proofs.Loop.{at_once, adds-none, adds-nothing, adds-lost, adds-answer}
use Rattle.run.proofs.act.Goals as goal

pub returns-in_default-clause-holds : goal.returns-in_default-clause-holds
returns-in_default-clause-holds g c rows lost idle own =
    let W = g.W.Word in
    at_once g.met.W.Word.packing (within-by W.flagged g.met.W.Word.of_flag) own c.cell_at.ensures c.step.ensures.turned c.in_default.ensures.taken (adds-none W.width c.args.entry c.args.row.now _)

pub returns-in-Passes-clause-holds : goal.returns-in-Passes-clause-holds
returns-in-Passes-clause-holds g c rows lost idle own =
    let W = g.W.Word in
    at_once g.met.W.Word.packing (within-by W.flagged g.met.W.Word.of_flag) own c.cell_at.ensures c.step.ensures.turned c.in-Some.ensures.taken (adds-nothing W.width c.args.entry c.args.row.now _ _ c.in-Passes.is)

pub returns-in-Loses-clause-holds : goal.returns-in-Loses-clause-holds
returns-in-Loses-clause-holds g c rows lost idle own =
    let W = g.W.Word in
    at_once g.met.W.Word.packing (within-by W.flagged g.met.W.Word.of_flag) own c.cell_at.ensures c.step.ensures.turned c.in-Some.ensures.taken (adds-lost W.width c.args.entry c.args.row.now _ _ c.in-Loses.is)

pub returns-in-Finishes-clause-holds : goal.returns-in-Finishes-clause-holds
returns-in-Finishes-clause-holds g c rows lost idle own =
    let W = g.W.Word in
    let answers = map W.number c.args.answers.now in
    at_once g.met.W.Word.packing (within-by W.flagged g.met.W.Word.of_flag) own c.cell_at.ensures c.step.ensures.turned c.in-Some.ensures.taken
    (adds-answer W.width c.args.entry c.args.row.now _ _ c.in-Finishes.is c.store.ensures
    (ap (map W.number) c.put.ensures ∙ map-set W.number c.args.answers.now c.args.entry c.answer.result ∙ ap (set answers c.args.entry) c.answer.ensures.every)
    (c.put-in-Finishes.ensures ∙ ap (λ (n : ℕ). set c.args.log.now n c.args.entry) c.size.ensures))
