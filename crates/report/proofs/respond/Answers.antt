-- What the reader left of the file decides which text is handed over.
-- Assumes nothing.
use Rattle.report.proofs.Responded.{run-answered, refusal-answered}
use Rattle.report.proofs.respond.Goals as goal

pub returns-then-loaded-eq0 : goal.returns-then-loaded-eq0
returns-then-loaded-eq0 g c =
    let W = g.W.Word in
    run-answered W.number W.flagged g.met.W.Word.of_flag _ _ _ _ _ c.requires.whole c.requires.fresh c.load_words-loaded.ensures.loaded c.if-loaded-eq0.true c.run_words-outcome.ensures.result c.list.ensures

pub returns : goal.returns
returns g c =
    let W = g.W.Word in
    refusal-answered W.number W.flagged g.met.W.Word.of_flag _ _ _ _ _ c.requires.whole c.requires.fresh c.load_words-loaded.ensures.loaded c.if-loaded-eq0.false c.refuse.ensures
