use Rattle.std.proofs.Common.{◌∙◌, sym, refl, arith}
use Rattle.std.proofs.lemmas.Result.{err_from_is_err_and}
use Rattle.std.specs.Prelude.{Ok, Err}
use Rattle.runfile.specs.Records.{ReadsAt}
use Rattle.runfile.proofs.At.{mark-is-cut, the-fault, the-record, passable, goes-past}
use Rattle.runfile.proofs.Scanned.{as-read}
use Rattle.runfile.proofs.record.read_record.Goals as goal

pub returns-in_err-rest : goal.returns-in_err-rest
returns-in_err-rest g c =
    let p = err_from_is_err_and c.from_residual.result c.from_residual.ensures.1 in
    let cut = c.in_err-rest.ensures in
    let h : ReadsAt g.W.Word.flagged c.args.file.now c.args.position (Err _) =
    rw cut.1 (mark-is-cut g.W.Word.flagged c.args.file.now c.args.position cut.0, refl) in
    rw (p.1, p.2) record { read = h; judged = as-read g.W.Word.flagged c.args.file.now c.args.position (Err _) h }

pub returns-in_err-record : goal.returns-in_err-record
returns-in_err-record g c =
    let whole = c.in_ok-rest.ensures in
    let read = c.in_err-record.ensures in
    let p = err_from_is_err_and c.from_residual-in_err-record.result c.from_residual-in_err-record.ensures.1 in
    let h : ReadsAt g.W.Word.flagged c.args.file.now c.args.position (Err _) =
    (the-fault g.W.Word.flagged c.args.file.now c.args.position whole.1 c.mark_of.ensures whole.0 read.0, read.1) in
    rw (p.1, p.2) record { read = h; judged = as-read g.W.Word.flagged c.args.file.now c.args.position (Err _) h }

pub past-requires : goal.past-requires
past-requires g c =
    let whole = c.in_ok-rest.ensures in
    let read = c.in_ok-record.ensures in
    let ok = sym (the-fault g.W.Word.flagged c.args.file.now c.args.position whole.1 c.mark_of.ensures whole.0 read.0) in
    let is = the-record g.W.Word.flagged c.args.file.now c.args.position whole.1 c.mark_of.ensures c.in_ok-record.record read.1 in
    passable g.W.Word.flagged c.args.file.now c.args.position ok c.in_ok-record.record is (omega arith)

pub returns : goal.returns
returns g c =
    let whole = c.in_ok-rest.ensures in
    let read = c.in_ok-record.ensures in
    let ok = sym (the-fault g.W.Word.flagged c.args.file.now c.args.position whole.1 c.mark_of.ensures whole.0 read.0) in
    let is = the-record g.W.Word.flagged c.args.file.now c.args.position whole.1 c.mark_of.ensures c.in_ok-record.record read.1 in
    let h : ReadsAt g.W.Word.flagged c.args.file.now c.args.position (Ok (c.in_ok-record.record, c.past.result)) =
    (ok, is, c.past.ensures ∙ goes-past g.W.Word.flagged c.args.file.now c.args.position ok c.in_ok-record.record is) in
    record { read = h; judged = as-read g.W.Word.flagged c.args.file.now c.args.position (Ok _) h }
