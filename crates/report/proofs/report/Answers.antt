-- The first mark says the width, and every clause follows of the response.
-- Assumes nothing.
use Rattle.std.proofs.Common.{sym, ◌∙◌}
use Rattle.report.proofs.Responded.{kept}
use Rattle.report.proofs.report.Goals as goal

pub returns-then-is_wide : goal.returns-then-is_wide
returns-then-is_wide c =
    let (result, (suffices, counted)) = kept c.args.file.now c.args.out.now (sym c.is_wide.ensures ∙ c.if-is_wide.true) c.respond.ensures in
    record { result = result; suffices = suffices; counted = counted }

pub returns : goal.returns
returns c =
    let (result, (suffices, counted)) = kept c.args.file.now c.args.out.now (sym c.is_wide.ensures ∙ c.if-is_wide.false) c.respond-2.ensures in
    record { result = result; suffices = suffices; counted = counted }
