use Rattle.std.proofs.Common.{length, ap, ◌∙◌, arith}
use Rattle.std.proofs.lemmas.Result.{err_from_is_err_and}
use Rattle.semantics.specs.Run.{over}
use Rattle.semantics.proofs.Faithful.{accepted-parts}
use Rattle.convert.proofs.Passes.{is-converted}
use Rattle.convert.proofs.Answers.{positive, answers-refusal, answers-whole}
use Rattle.convert.proofs.convert.Goals as goal

pub returns-in_err-length : goal.returns-in_err-length
returns-in_err-length g c =
    let p = err_from_is_err_and c.from_residual.result c.from_residual.ensures.1 in
    let e = c.in_err-length.ensures in
    rw (p.1, p.2) (answers-refusal g.From.Word.flagged c.args.file.now c.args.out.now e (positive c.in_err-length.field-0.0))

pub rewrite-requires-clause-sound : goal.rewrite-requires-clause-sound
rewrite-requires-clause-sound g c = (accepted-parts g.From.Word.flagged c.args.file.now c.in_ok-length.ensures.0).file-accepted

pub rewrite-requires-clause-room : goal.rewrite-requires-clause-room
rewrite-requires-clause-room g c =
    omega (arith, c.in_ok-length.ensures, ap length (is-converted g.From.Word.flagged c.args.file.now g.To.Word.flagged c.requires))

pub returns : goal.returns
returns g c =
    let from = g.From.Word.flagged in
    let file = c.args.file.now in
    let m = c.in_ok-length.ensures in
    answers-whole from file c.args.out.now m.0 m.1 (omega arith)
    (c.rewrite.ensures ∙ ap (λ l. over l c.args.out.now) (is-converted from file g.To.Word.flagged c.requires))
