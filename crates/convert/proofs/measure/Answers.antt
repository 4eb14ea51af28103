use Rattle.std.proofs.Common.{◌+◌, ap, arith}
use Rattle.std.proofs.lemmas.Result.{err_from_is_err_and}
use Rattle.semantics.specs.RunFile.{layout_of}
use Rattle.semantics.proofs.Records.{scan-less}
use Rattle.semantics.proofs.Marks.{scannable}
use Rattle.convert.proofs.Passes.{long-decides, measuring-starts, faulty-decides, size-bounds, measuring-again, measuring-ends}
use Rattle.convert.proofs.measure.Goals as goal

pub returns-then-file-gt-MOST_BYTES : goal.returns-then-file-gt-MOST_BYTES
returns-then-file-gt-MOST_BYTES g c = long-decides g.From.Word.flagged c.args.file.now g.To.Word.flagged c.if-file-gt-MOST_BYTES.true

pub loop-found-init : goal.loop-found-init
loop-found-init g c = measuring-starts g.From.Word.flagged c.args.file.now g.To.Word.flagged c.start-position.ensures

pub returns-in_err-found : goal.returns-in_err-found
returns-in_err-found g c =
    let p = err_from_is_err_and c.from_residual.result c.from_residual.ensures.1 in
    rw (p.1, p.2)
    (faulty-decides g.From.Word.flagged c.args.file.now g.To.Word.flagged c.if-file-gt-MOST_BYTES.false c.loop-found.invariant _ c.in_err-found.ensures.read)

pub overflow_add-length : goal.overflow_add-length
overflow_add-length g c =
    let small = size-bounds g.From.Word.flagged c.args.file.now g.To.Word.flagged c.loop-found.invariant c.in_ok-found.found c.in_ok-found.ensures.read c.if-file-gt-MOST_BYTES.false in
    record { fits = omega (arith, small, c.size-length.ensures) }

pub returns-then-file-next : goal.returns-then-file-next
returns-then-file-next g c =
    let l = c.loop-found in
    measuring-ends g.From.Word.flagged c.args.file.now g.To.Word.flagged l.invariant c.in_ok-found.found c.in_ok-found.ensures.read
    c.first_unfit-unfit.ensures (ap (λ n. l.length + n) c.size-length.ensures)
    c.requires c.if-file-gt-MOST_BYTES.false c.if-file-next.true c.limited.result c.limited.ensures

pub loop-found-smaller : goal.loop-found-smaller
loop-found-smaller g c =
    let read = c.in_ok-found.ensures.read in
    scan-less (scannable (layout_of g.From.Word.flagged) c.args.file.now) read.0 read.2

pub loop-found-preserved : goal.loop-found-preserved
loop-found-preserved g c =
    let l = c.loop-found in
    measuring-again g.From.Word.flagged c.args.file.now g.To.Word.flagged l.invariant c.in_ok-found.found c.in_ok-found.ensures.read
    c.first_unfit-unfit.ensures (ap (λ n. l.length + n) c.size-length.ensures) c.if-file-next.false
