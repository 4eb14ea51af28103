-- Assumes nothing.
use Rattle.std.proofs.Common.{subst}
use Rattle.std.proofs.lemmas.Result.{on_ok_weaker}
use Rattle.std.specs.Io.KnownBytes.{Appends}
use Rattle.roomrun.proofs.Answered.{written, answered}
use Rattle.roomrun.proofs.answer.Goals as goal

pub returns-clause-whole : goal.returns-clause-whole
returns-clause-whole g c =
    on_ok_weaker c.read_file-n.result.1
    (λ is. on_ok_weaker c.write_text.result (λ appends. answered (g.R.Read.remaining c.args.input.now) _ _ _ (written _ _ c.respond-length.ensures.whole) is appends) c.write_text.ensures)
    c.read_file-n.ensures.whole

pub returns-clause-came : goal.returns-clause-came
returns-clause-came g c =
    on_ok_weaker c.write_text.result
    (λ appends. (_, c.read_file-n.ensures.none_lost, subst (Appends _ _) (written _ _ c.respond-length.ensures.whole) appends))
    c.write_text.ensures
