use Rattle.std.proofs.Common.{arith}
use Rattle.semantics.proofs.Convert.{Bytes}
use Rattle.convert.proofs.Anew.{end-room}
use Rattle.convert.proofs.Passes.{writing-starts, has_room, writing-again, entries-fit, writing-entries, writing-done}
use Rattle.convert.proofs.rewrite.Goals as goal

pub loop-found-init : goal.loop-found-init
loop-found-init g c = writing-starts g.From.Word.flagged c.args.file.now g.To.Word.flagged c.args.out.now c.requires.sound

pub slice_bounds-copy-end : goal.slice_bounds-copy-end
slice_bounds-copy-end g c =
    let file = c.args.file.now in
    let b : Bytes file = record { below = λ i. omega (arith, c.type_inv.file i) } in
    let found = c.in-Some.ensures in
    entries-fit g.From.Word.flagged file g.To.Word.flagged c.loop-found.invariant c.requires.room b c.in-Some.found found.0 found.1 c.in-Schedule.is

pub returns-in-Schedule : goal.returns-in-Schedule
returns-in-Schedule g c =
    let file = c.args.file.now in
    let b : Bytes file = record { below = λ i. omega (arith, c.type_inv.file i) } in
    let found = c.in-Some.ensures in
    writing-entries g.From.Word.flagged file g.To.Word.flagged c.loop-found.invariant c.requires.room b c.in-Some.found found.0 found.1 c.in-Schedule.is
    (c.copy.ensures.same (omega arith))

pub put_record-requires : goal.put_record-requires
put_record-requires g c =
    let file = c.args.file.now in
    let b : Bytes file = record { below = λ i. omega (arith, c.type_inv.file i) } in
    let found = c.in-Some.ensures in
    end-room _ _ c.loop-found.out
    (omega (arith, has_room g.From.Word.flagged file g.To.Word.flagged c.loop-found.invariant c.requires.room b c.in-Some.found found.0 found.1 c.in_default-found.not-Schedule))

pub loop-found-preserved : goal.loop-found-preserved
loop-found-preserved g c =
    let file = c.args.file.now in
    let b : Bytes file = record { below = λ i. omega (arith, c.type_inv.file i) } in
    let found = c.in-Some.ensures in
    rw (c.size.ensures, c.size-done.ensures)
    (writing-again g.From.Word.flagged file g.To.Word.flagged c.loop-found.invariant c.requires.room b c.in-Some.found found.0 found.1
    c.in_default-found.not-Schedule c.put_record.ensures)

pub returns : goal.returns
returns g c =
    let file = c.args.file.now in
    let b : Bytes file = record { below = λ i. omega (arith, c.type_inv.file i) } in
    writing-done g.From.Word.flagged file g.To.Word.flagged c.loop-found.invariant c.requires.room b c.in_default.ensures
