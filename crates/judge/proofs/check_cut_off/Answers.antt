use Rattle.std.proofs.Common.{◌<◌, length, refl, sym, ◌∙◌, arith}
use Rattle.judge.proofs.Found.{key-at, keys-long}
use Rattle.judge.specs.Judged.{keys_of}
use Rattle.judge.proofs.Found.{found, missed}
use Rattle.judge.proofs.Filled.{size_bound, filled_within, all-filled, since-start, since-found, since_none, since-more}
use Rattle.judge.proofs.check_cut_off.Goals as goal
use Rattle.judge.proofs.check_cut_off.Goals.{then-key-eq0, else-key-eq0+else-is_cut_off}

pub returns-then-filled-c : goal.returns-then-filled-c
returns-then-filled-c g c =
    let W = g.W.Word in
    let cells = c.args.cells.now in
    let size = sym (keys-long W.width W.number cells) in
    missed _ _ _ (length cells) (all-filled (keys_of W.width W.number cells) (length cells) _ size c.filled_at_end-filled.ensures c.if-filled-c.true) (omega (arith, size))

pub overflow_sub-start : goal.overflow_sub-start
overflow_sub-start g c =
    let W = g.W.Word in
    let cells = c.args.cells.now in
    filled_within (keys_of W.width W.number cells) (length cells) _ (sym (keys-long W.width W.number cells)) c.filled_at_end-filled.ensures

pub loop-i-init : goal.loop-i-init
loop-i-init g c =
    let W = g.W.Word in
    let cells = c.args.cells.now in
    since-start (keys_of W.width W.number cells) (length cells) _ (sym (keys-long W.width W.number cells)) c.filled_at_end-filled.ensures

pub overflow_add-start : goal.overflow_add-start
overflow_add-start g c = record { fits = omega (arith, size_bound _ c.requires, c.loop-i-test.true) }

pub overflow_add-start-then-key-eq0 : goal.overflow_add-start-then-key-eq0
overflow_add-start-then-key-eq0 g c = record { fits = omega (arith, size_bound _ c.requires, c.loop-i-test.true) }

pub returns-then-is_cut_off : goal.returns-then-is_cut_off
returns-then-is_cut_off g c =
    let W = g.W.Word in
    let cells = c.args.cells.now in
    let is = c.key-key.ensures ∙ key-at W.width W.number cells c.loop-i.i c.index-cells-i.is c.loop-i-test.true in
    let here : c.loop-i.i < length (keys_of W.width W.number cells) = omega (arith, c.loop-i-test.true, keys-long W.width W.number cells) in
    found _ _ _ _ (since-found c.loop-i.invariant c.loop-i-test.true is c.requires c.if-is_cut_off.ensures refl) here

pub loop-i-preserved : goal.loop-i-preserved
loop-i-preserved g c =
    let W = g.W.Word in
    let cells = c.args.cells.now in
    let is = c.key-key.ensures ∙ key-at W.width W.number cells c.loop-i.i c.index-cells-i.is c.loop-i-test.true in
    elim c.if-key-eq0.branch [
      | then-key-eq0 w ↦ since_none c.loop-i.invariant c.loop-i-test.true is w.if-key-eq0.true _ w.start-is
      | else-key-eq0+else-is_cut_off w ↦
          since-more c.loop-i.invariant c.loop-i-test.true is c.requires w.if-is_cut_off.ensures refl w.if-key-eq0.false _ w.start-is
    ]
