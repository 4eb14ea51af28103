use Rattle.std.proofs.Common.{◌≤◌, length, map, sym, ap, ◌∙◌, arith}
use lib.ListN.{length-map, get_or-eq_default}
use Rattle.word.proofs.Numbers.{number-at}
use Rattle.run.proofs.key_at.Goals as goal

pub returns-else-at-cells : goal.returns-else-at-cells
returns-else-at-cells g c =
    let W = g.W.Word in
    let past : length (map W.number c.args.cells.now) ≤ c.args.at = omega (arith, c.if-at-cells.false, length-map c.args.cells.now W.number) in
    sym (ap W.width.key_of (get_or-eq_default (map W.number c.args.cells.now) 0 past) ∙ g.met.W.Word.packing.empty-key)

pub returns-then-at-cells : goal.returns-then-at-cells
returns-then-at-cells g c =
    let W = g.W.Word in
    c.key.ensures ∙ ap W.width.key_of (number-at W.number c.args.cells.now c.args.at c.index-cells-at.is c.if-at-cells.true)
