use Rattle.std.proofs.Common.{◌≤◌, ◌∙◌, sym, ap, subst, length, arith}
use lib.ListN.{length-map}
use Rattle.semantics.specs.RunFile.{layout_of}
use Rattle.semantics.proofs.Marks.{records-accepted}
use Rattle.runfile.specs.Stored.{held, kept, Storable}
use Rattle.runfile.proofs.Refused.{slices-fit}
use Rattle.runfile.proofs.Filled.{holds-long, holds-counted, filling-starts, filling-sound, filling-less, filling-again, filling-ends, turned, kept-as-said, storable}
use Rattle.runfile.proofs.fill.Goals as goal

pub loop-position-init : goal.loop-position-init
loop-position-init g c =
    let W = g.W.Word in
    filling-starts (layout_of W.flagged) c.args.file.now (held W.number c.args.cells.now c.args.operations.now c.args.schedule.now) c.start-position.ensures

pub sound_record-requires : goal.sound_record-requires
sound_record-requires g c =
    let accepted = records-accepted (layout_of g.W.Word.flagged) c.args.file.now _ _ _ c.requires in
    filling-sound c.loop-position.invariant accepted

pub store-requires : goal.store-requires
store-requires g c =
    let W = g.W.Word in
    let l = c.loop-position in
    let room = slices-fit (layout_of W.flagged) c.args.file.now _ _ _ c.requires in
    let long = holds-long room l.invariant.holds in
    let read = c.sound_record.ensures in
    let cells : 4096 ≤ length l.cells = omega (arith, long.0, room.0, length-map l.cells W.number) in
    let operations : 64 ≤ length l.operations = omega (arith, long.1, room.1) in
    let schedule : 16384 ≤ length l.schedule = omega (arith, long.2, room.2) in
    subst (λ w. Storable w l.position c.sound_record.result.0 (length l.cells) (length l.operations) (length l.schedule)) (sym g.met.W.Word.of_flag)
    (storable W.flagged c.args.file.now l.position read.0 c.sound_record.result.0 read.1 l.invariant.holds.small.cells cells operations schedule)

pub returns-then-file-position-clause-filled : goal.returns-then-file-position-clause-filled
returns-then-file-position-clause-filled g c =
    let W = g.W.Word in
    let l = c.loop-position in
    let accepted = records-accepted (layout_of W.flagged) c.args.file.now _ _ _ c.requires in
    let room = slices-fit (layout_of W.flagged) c.args.file.now _ _ _ c.requires in
    let read = c.sound_record.ensures in
    let s = held W.number l.cells l.operations l.schedule in
    let stores = sym (kept-as-said W.flagged c.args.file.now l.position s c.sound_record.result.0 read.1)
    ∙ ap (λ w. kept w l.position c.sound_record.result.0 s) (sym g.met.W.Word.of_flag) ∙ c.store.ensures in
    rw c.loaded.ensures (filling-ends l.invariant accepted room read.2 stores c.if-file-position.true)

pub returns-then-file-position-clause-counted : goal.returns-then-file-position-clause-counted
returns-then-file-position-clause-counted g c =
    let W = g.W.Word in
    let l = c.loop-position in
    let accepted = records-accepted (layout_of W.flagged) c.args.file.now _ _ _ c.requires in
    let room = slices-fit (layout_of W.flagged) c.args.file.now _ _ _ c.requires in
    let read = c.sound_record.ensures in
    let s = held W.number l.cells l.operations l.schedule in
    let stores = sym (kept-as-said W.flagged c.args.file.now l.position s c.sound_record.result.0 read.1)
    ∙ ap (λ w. kept w l.position c.sound_record.result.0 s) (sym g.met.W.Word.of_flag) ∙ c.store.ensures in
    rw c.loaded.ensures (holds-counted room (turned l.invariant accepted room read.2 stores))

pub loop-position-smaller : goal.loop-position-smaller
loop-position-smaller g c =
    let accepted = records-accepted (layout_of g.W.Word.flagged) c.args.file.now _ _ _ c.requires in
    let room = slices-fit (layout_of g.W.Word.flagged) c.args.file.now _ _ _ c.requires in
    filling-less c.loop-position.invariant accepted room c.sound_record.ensures.2

pub loop-position-preserved : goal.loop-position-preserved
loop-position-preserved g c =
    let W = g.W.Word in
    let l = c.loop-position in
    let accepted = records-accepted (layout_of W.flagged) c.args.file.now _ _ _ c.requires in
    let room = slices-fit (layout_of W.flagged) c.args.file.now _ _ _ c.requires in
    let read = c.sound_record.ensures in
    let s = held W.number l.cells l.operations l.schedule in
    let stores = sym (kept-as-said W.flagged c.args.file.now l.position s c.sound_record.result.0 read.1)
    ∙ ap (λ w. kept w l.position c.sound_record.result.0 s) (sym g.met.W.Word.of_flag) ∙ c.store.ensures in
    filling-again l.invariant accepted room read.2 stores c.if-file-position.false
