use Rattle.std.proofs.Common.{◌∙◌, sym, ap, refl, length}
use lib.ListN.{length-map}
use Rattle.semantics.specs.RunFile.{layout_of, reader_refusal}
use Rattle.runfile.proofs.Refused.{reading-accepted, reading-refused}
use Rattle.runfile.proofs.Scanned.{positive}
use Rattle.runfile.proofs.load_words.Goals as goal

pub returns-in-Ok-clause-loaded : goal.returns-in-Ok-clause-loaded
returns-in-Ok-clause-loaded g c =
    let a = c.args in
    let L = layout_of g.W.Word.flagged in
    let is = c.in-Ok.ensures ∙ ap (λ n. reader_refusal L a.file.now n (length a.operations.now) (length a.schedule.now)) (sym (length-map a.cells.now g.W.Word.number)) in
    reading-accepted L a.file.now _ a.operations.now a.schedule.now is refl ∙ c.fill.ensures.filled

pub returns-in-Err-clause-loaded : goal.returns-in-Err-clause-loaded
returns-in-Err-clause-loaded g c =
    let a = c.args in
    let L = layout_of g.W.Word.flagged in
    let is = c.in-Err.ensures ∙ ap (λ n. reader_refusal L a.file.now n (length a.operations.now) (length a.schedule.now)) (sym (length-map a.cells.now g.W.Word.number)) in
    rw c.from.ensures (reading-refused L a.file.now _ a.operations.now a.schedule.now is (positive _))
