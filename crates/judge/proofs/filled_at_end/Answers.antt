use Rattle.std.proofs.Common.{◌≡◌, ◌+◌, ◌-◌, ◌<◌, ◌≤◌, length, sym, ◌∙◌, arith}
use borrow.Author.Tests.{eq-eqb, ne_eqb}
use Rattle.judge.proofs.Found.{key-at, keys-long}
use Rattle.semantics.proofs.Searches.{search-finds, search-goes-on, search-ends}
use Rattle.judge.specs.Judged.{keys_of}
use Rattle.judge.proofs.Filled.{from_end_lem}
use Rattle.judge.proofs.filled_at_end.Goals as goal

pub returns-then-key-eq0 : goal.returns-then-key-eq0
returns-then-key-eq0 g c =
    let W = g.W.Word in
    let cells = c.args.cells.now in
    let bound : length cells - (c.loop-d.d + 1) < length cells = omega (arith, c.loop-d-test.true) in
    let is = c.key.ensures ∙ key-at W.width W.number cells (length cells - (c.loop-d.d + 1)) c.index-cells-cells.is bound in
    search-finds c.loop-d.invariant (from_end_lem (keys_of W.width W.number cells) (length cells) c.loop-d.d (sym (keys-long W.width W.number cells)) is ∙ eq-eqb _ 0 c.if-key-eq0.true)

pub loop-d-preserved : goal.loop-d-preserved
loop-d-preserved g c =
    let W = g.W.Word in
    let cells = c.args.cells.now in
    let bound : length cells - (c.loop-d.d + 1) < length cells = omega (arith, c.loop-d-test.true) in
    let is = c.key.ensures ∙ key-at W.width W.number cells (length cells - (c.loop-d.d + 1)) c.index-cells-cells.is bound in
    let here : c.loop-d.d < length (keys_of W.width W.number cells) = omega (arith, c.loop-d-test.true, keys-long W.width W.number cells) in
    search-goes-on c.loop-d.invariant here (from_end_lem (keys_of W.width W.number cells) (length cells) c.loop-d.d (sym (keys-long W.width W.number cells)) is ∙ ne_eqb _ 0 c.if-key-eq0.false)

pub returns : goal.returns
returns g c =
    let W = g.W.Word in
    let cells = c.args.cells.now in
    let past : length (keys_of W.width W.number cells) ≤ c.loop-d.d = omega (arith, c.loop-d-test.false, keys-long W.width W.number cells) in
    let all : length cells ≡ c.loop-d.d = omega (arith, c.loop-d-test.false, c.loop-d.invariant.within, keys-long W.width W.number cells) in
    all ∙ search-ends c.loop-d.invariant past
