use Rattle.runfile.proofs.Stands.{whole-here, here-whole, stands}
use Rattle.runfile.proofs.record.record_at.Goals as goal

pub returns-then-not-is_whole : goal.returns-then-not-is_whole
returns-then-not-is_whole g c =
    λ whole. c.if-not-is_whole.ensures (here-whole g.W.Word.flagged c.args.file.now c.args.at c.in-Ok.ensures.1 c.mark_of-mark.ensures whole)

pub returns : goal.returns
returns g c =
    let f = g.W.Word.flagged in
    let from = c.in-Ok.ensures.1 in
    let is = c.mark_of-mark.ensures in
    (whole-here f c.args.file.now c.args.at from is c.if-not-is_whole.ensures, stands f c.args.file.now c.args.at from is c.fields.result c.fields.ensures)
