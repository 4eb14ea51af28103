use Rattle.std.proofs.Common.{◌<◌, ◌≤◌, not, length, map, sym, ap, ◌∙◌, arith}
use lib.ListN.{length-map}
use Rattle.semantics.proofs.Searches.{search-finds, search-goes-on, search-ends}
use Rattle.word.proofs.Numbers.{number-at}
use Rattle.judge.proofs.Found.{found, missed}
use Rattle.judge.proofs.check_cells.Goals as goal

pub returns-then-not-is_cell : goal.returns-then-not-is_cell
returns-then-not-is_cell g c =
    let W = g.W.Word in
    let at = number-at W.number c.args.cells.now c.loop-i.i c.index-cells-i.is c.loop-i-test.true in
    let here : c.loop-i.i < length (map W.number c.args.cells.now) = omega (arith, c.loop-i-test.true, length-map c.args.cells.now W.number) in
    found _ _ _ _ (search-finds c.loop-i.invariant (ap not (ap W.width.cell_allowed (sym at) ∙ sym c.if-not-is_cell.ensures))) here

pub loop-i-preserved : goal.loop-i-preserved
loop-i-preserved g c =
    let W = g.W.Word in
    let at = number-at W.number c.args.cells.now c.loop-i.i c.index-cells-i.is c.loop-i-test.true in
    let here : c.loop-i.i < length (map W.number c.args.cells.now) = omega (arith, c.loop-i-test.true, length-map c.args.cells.now W.number) in
    search-goes-on c.loop-i.invariant here (ap not (ap W.width.cell_allowed (sym at) ∙ sym c.if-not-is_cell.ensures))

pub returns : goal.returns
returns g c =
    let W = g.W.Word in
    let past : length (map W.number c.args.cells.now) ≤ c.loop-i.i = omega (arith, c.loop-i-test.false, length-map c.args.cells.now W.number) in
    missed _ _ _ _ (search-ends c.loop-i.invariant past) past
