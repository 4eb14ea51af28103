use Rattle.std.proofs.lemmas.Result.{err_from_is_err_and}
use Rattle.semantics.specs.RunFile.{layout_of, run_file, start}
use Rattle.semantics.proofs.Records.{judgement, scan-starts, scan-less, judge-ends, judge-goes-on}
use Rattle.semantics.proofs.Marks.{scannable}
use Rattle.runfile.proofs.Scanned.{scan-refused}
use Rattle.runfile.proofs.scan.Goals as goal

pub loop-next-init : goal.loop-next-init
loop-next-init g c =
    let F = run_file (layout_of g.W.Word.flagged) in
    scan-starts F c.args.file.now (judgement F c.args.file.now) start c.start-position.ensures

pub returns-in_err-next : goal.returns-in_err-next
returns-in_err-next g c =
    let p = err_from_is_err_and c.from_residual.result c.from_residual.ensures.1 in
    rw (p.1, p.2) (scan-refused (layout_of g.W.Word.flagged) c.args.file.now _ c.loop-next.invariant c.in_err-next.ensures.read)

pub returns-then-file-next : goal.returns-then-file-next
returns-then-file-next g c =
    let read = c.in_ok-next.ensures.read in
    judge-ends (scannable (layout_of g.W.Word.flagged) c.args.file.now) read.0 read.2 c.loop-next.invariant c.if-file-next.true

pub loop-next-smaller : goal.loop-next-smaller
loop-next-smaller g c =
    let read = c.in_ok-next.ensures.read in
    scan-less (scannable (layout_of g.W.Word.flagged) c.args.file.now) read.0 read.2

pub loop-next-preserved : goal.loop-next-preserved
loop-next-preserved g c =
    let read = c.in_ok-next.ensures.read in
    judge-goes-on (scannable (layout_of g.W.Word.flagged) c.args.file.now) read.0 read.2 c.loop-next.invariant c.if-file-next.false
