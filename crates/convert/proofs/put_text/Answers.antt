use Rattle.std.proofs.Common.{refl}
use Rattle.convert.proofs.Answers.{positive, text-result, text-refusal}
use Rattle.convert.proofs.put_text.Goals as goal

pub returns-in-Ok : goal.returns-in-Ok
returns-in-Ok g c = text-result g.From.Word.flagged c.args.file.now c.args.out.now c.requires.room c.in-Ok.ensures refl

pub returns-in-Err : goal.returns-in-Err
returns-in-Err g c =
    text-refusal g.From.Word.flagged c.args.file.now c.args.out.now c.requires.room c.in-Err.ensures (positive c.in-Err.reason) c.put_reason.ensures
