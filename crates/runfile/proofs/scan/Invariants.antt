use Rattle.std.proofs.Common.{◌-◌, length}
use Rattle.semantics.specs.Records.{records}
use Rattle.semantics.specs.RunFile.{layout_of, run_file, start}
use Rattle.semantics.proofs.Records.{Left, judgement}
use Rattle.runfile.proofs.scan.Given as goal

abbrev pub invariant-loop-next : goal.invariant-loop-next
invariant-loop-next g l =
    let F = run_file (layout_of g.W.Word.flagged) in
    Left F l.file (judgement F l.file) (judgement F l.file (records F l.file start)) l.position

abbrev pub decreases-loop-next : goal.decreases-loop-next
decreases-loop-next g l = length l.file - l.position.at
