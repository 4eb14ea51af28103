use Rattle.std.proofs.Common.{◌≡◌, ℕ, ◌+◌, min, length, get_or, replicate, refl, sym, ap, ◌∙◌, arith}
use mathlib.Core.Path.{ap₂}
use lib.ListN.{length-map}
use Rattle.semantics.specs.declared.rules.Bounds.{Bounds}
use Rattle.semantics.specs.Run.{over}
use Rattle.run.specs.declared.Taken.{Taken}
use Rattle.run.specs.Rows.{blank_rows, first_rows}
use Rattle.run.specs.Entry.{finished_by, lost_by, idle_by}
use Rattle.run.specs.Underway.{Due, numbered}
use Rattle.run.proofs.Loop as loop
use Rattle.run.proofs.entries.Goals as goal
use Rattle.run.proofs.entries.Goals.{in-Idle, in-GoesOn, in-Lost, in-Finished}

pub overflow_cast-cells : goal.overflow_cast-cells
overflow_cast-cells g c =
    let W = g.W.Word in
    let b = numbered W.number c.args.cells.now c.args.operations.now c.args.schedule.now c.args.answers.now c.args.log.now in
    record { fits = omega (arith, (loop.sized g.met.W.Word.packing b c.requires).1, length-map c.args.cells.now W.number) }

pub lay_rows-requires : goal.lay_rows-requires
unfolding blank_rows
lay_rows-requires g c = refl

pub loop-entry-init : goal.loop-entry-init
loop-entry-init g c =
    let W = g.W.Word in
    let b = numbered W.number c.args.cells.now c.args.operations.now c.args.schedule.now c.args.answers.now c.args.log.now in
    let all : min (length b.operations) (length b.answers) ≡ length b.operations = omega (arith, (loop.ok g.met.W.Word.packing b c.requires).answers) in
    loop.at-start g.met.W.Word.packing b c.requires refl (c.clear.ensures ∙ ap (λ (n : ℕ). over (replicate n 0) b.answers) all)
    (c.lay_rows.ensures ∙ ap (λ (n : ℕ). first_rows W.width n b.operations) (sym (length-map c.args.cells.now W.number)))

pub bounds-rows-i : goal.bounds-rows-i
bounds-rows-i g c =
    let W = g.W.Word in
    let b = numbered W.number c.args.cells.now c.args.operations.now c.args.schedule.now c.args.answers.now c.args.log.now in
    loop.small g.met.W.Word.packing b c.requires c.loop-entry.invariant c.loop-entry-test.true refl

pub loop-entry-preserved : goal.loop-entry-preserved
loop-entry-preserved g c =
    let W = g.W.Word in
    let b = numbered W.number c.args.cells.now c.args.operations.now c.args.schedule.now c.args.answers.now c.args.log.now in
    let i = get_or c.args.schedule.now c.loop-entry.entry-index 0 in
    let limits : Bounds = record { ceiling = c.ceiling.result; cells = length c.args.cells.now } in
    let due : Due W.width b limits c.loop-entry.entry-index i =
    record {
      left = c.loop-entry-test.true;
      names = refl;
      limits = ap₂ (λ (x y : ℕ). record { ceiling = x; cells = y }) c.ceiling.ensures (sym (length-map c.args.cells.now W.number));
    } in
    let kept = (c.take_entry-taken.ensures.holds c.loop-entry.rows c.loop-entry.lost c.loop-entry.idle refl).1 b c.loop-entry.entry-index due c.loop-entry.invariant in
    let finished = λ (t : Taken). finished_by c.loop-entry.finished i t in
    let lost = λ (t : Taken). c.loop-entry.lost + lost_by t in
    let idle = λ (t : Taken). c.loop-entry.idle + idle_by t in
    elim c.match-taken.branch [
      | in-GoesOn w ↦ loop.recounted kept (w.finished-is ∙ ap finished (sym w.in-GoesOn.is)) (w.lost-is ∙ omega arith ∙ ap lost (sym w.in-GoesOn.is)) (w.idle-is ∙ omega arith ∙ ap idle (sym w.in-GoesOn.is))
      | in-Lost w ↦ loop.recounted kept (w.finished-is ∙ ap finished (sym w.in-Lost.is)) (w.lost-is ∙ ap lost (sym w.in-Lost.is)) (w.idle-is ∙ omega arith ∙ ap idle (sym w.in-Lost.is))
      | in-Finished w ↦
          loop.recounted kept (w.finished-is ∙ w.with-finished.ensures ∙ ap finished (sym w.in-Finished.is)) (w.lost-is ∙ omega arith ∙ ap lost (sym w.in-Finished.is))
          (w.idle-is ∙ omega arith ∙ ap idle (sym w.in-Finished.is))
      | in-Idle w ↦ loop.recounted kept (w.finished-is ∙ ap finished (sym w.in-Idle.is)) (w.lost-is ∙ omega arith ∙ ap lost (sym w.in-Idle.is)) (w.idle-is ∙ ap idle (sym w.in-Idle.is))
    ]
