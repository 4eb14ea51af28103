use Rattle.std.proofs.Common.{◌-◌, ◌∙◌, length, take, drop, arith}
use lib.Seq.{length-take-le}
use Rattle.semantics.proofs.Parts.{part-agrees, mark-agrees}
use Rattle.semantics.specs.RunFile.{layout_of}
use Rattle.runfile.proofs.Totals.{tail, tail-length}
use Rattle.runfile.proofs.At.{whole-there, inside-file, the-record, passable, goes-past}
use Rattle.runfile.proofs.Stands.{here-whole}
use Rattle.runfile.proofs.record.sound_record.Goals as goal

pub slice_bounds-rest-count : goal.slice_bounds-rest-count
slice_bounds-rest-count g c = let inside = inside-file g.W.Word.flagged c.args.file.now c.args.position c.requires in omega (arith, inside)

pub slice_bounds-rest-start : goal.slice_bounds-rest-start
slice_bounds-rest-start g c = let inside = inside-file g.W.Word.flagged c.args.file.now c.args.position c.requires in omega (arith, inside)

pub slice_bounds-mark_of-end : goal.slice_bounds-mark_of-end
slice_bounds-mark_of-end g c =
    let rest = take (length c.args.file.now - c.args.position.at) (drop c.args.position.at c.args.file.now) in
    let inside = inside-file g.W.Word.flagged c.args.file.now c.args.position c.requires in
    let long = tail-length c.args.position.at c.args.file.now in
    omega (arith, length-take-le 2 rest (omega (arith, inside, long)))

pub fields-found-requires : goal.fields-found-requires
fields-found-requires g c =
    let rest = take (length c.args.file.now - c.args.position.at) (drop c.args.position.at c.args.file.now) in
    let from = tail c.args.position.at c.args.file.now in
    let mark = c.mark_of.ensures ∙ mark-agrees (part-agrees 2 rest 0) (omega arith) (layout_of g.W.Word.flagged) in
    here-whole g.W.Word.flagged c.args.file.now c.args.position.at from mark (whole-there g.W.Word.flagged c.args.file.now c.args.position c.requires)

pub past-requires : goal.past-requires
past-requires g c =
    let rest = take (length c.args.file.now - c.args.position.at) (drop c.args.position.at c.args.file.now) in
    let from = tail c.args.position.at c.args.file.now in
    let mark = c.mark_of.ensures ∙ mark-agrees (part-agrees 2 rest 0) (omega arith) (layout_of g.W.Word.flagged) in
    let is = the-record g.W.Word.flagged c.args.file.now c.args.position from mark c.fields-found.result c.fields-found.ensures in
    passable g.W.Word.flagged c.args.file.now c.args.position c.requires c.fields-found.result is (omega arith)

pub returns : goal.returns
returns g c =
    let rest = take (length c.args.file.now - c.args.position.at) (drop c.args.position.at c.args.file.now) in
    let from = tail c.args.position.at c.args.file.now in
    let mark = c.mark_of.ensures ∙ mark-agrees (part-agrees 2 rest 0) (omega arith) (layout_of g.W.Word.flagged) in
    let is = the-record g.W.Word.flagged c.args.file.now c.args.position from mark c.fields-found.result c.fields-found.ensures in
    (c.requires, is, c.past.ensures ∙ goes-past g.W.Word.flagged c.args.file.now c.args.position c.requires c.fields-found.result is)
