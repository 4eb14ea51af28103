use Rattle.std.proofs.Common.{◌<◌, ◌≤◌, length, sym, ◌∙◌, arith}
use Rattle.judge.proofs.Found.{key-at, keys-long}
use Rattle.semantics.proofs.Searches.{search-ends}
use Rattle.judge.specs.Judged.{keys_of}
use Rattle.judge.proofs.Found.{found, missed}
use Rattle.judge.proofs.Seen.{seen_none, seen-found, seen-passed, seen_more}
use Rattle.judge.proofs.check_repeated.Goals as goal
use Rattle.judge.proofs.check_repeated.Goals.{else-is_live_key-via-then-is_live_key+else-add_key, else-is_live_key-via-else-is_live_key}

pub loop-i-init : goal.loop-i-init
loop-i-init g c = seen_none _

pub returns-then-add_key : goal.returns-then-add_key
returns-then-add_key g c =
    let W = g.W.Word in
    let cells = c.args.cells.now in
    let is = c.key-key.ensures ∙ key-at W.width W.number cells c.loop-i.i c.index-cells-i.is c.loop-i-test.true in
    let here : c.loop-i.i < length (keys_of W.width W.number cells) = omega (arith, c.loop-i-test.true, keys-long W.width W.number cells) in
    found _ _ _ _ (seen-found c.loop-i.invariant is (sym c.if-is_live_key.ensures) (sym c.if-add_key.ensures.was)) here

pub loop-i-preserved : goal.loop-i-preserved
loop-i-preserved g c =
    let W = g.W.Word in
    let cells = c.args.cells.now in
    let is = c.key-key.ensures ∙ key-at W.width W.number cells c.loop-i.i c.index-cells-i.is c.loop-i-test.true in
    let here : c.loop-i.i < length (keys_of W.width W.number cells) = omega (arith, c.loop-i-test.true, keys-long W.width W.number cells) in
    elim c.else-is_live_key.branch [
      | else-is_live_key-via-then-is_live_key+else-add_key w ↦
          seen_more c.loop-i.invariant is here (sym w.if-is_live_key.ensures) (sym w.if-add_key.ensures.was) _ (w.seen-is ∙ w.add_key.ensures.now)
      | else-is_live_key-via-else-is_live_key w ↦ seen-passed c.loop-i.invariant is here (sym w.if-is_live_key.ensures) _ w.seen-is
    ]

pub returns : goal.returns
returns g c =
    let W = g.W.Word in
    let cells = c.args.cells.now in
    let past : length (keys_of W.width W.number cells) ≤ c.loop-i.i = omega (arith, c.loop-i-test.false, keys-long W.width W.number cells) in
    missed _ _ _ _ (search-ends c.loop-i.invariant.search past) past
