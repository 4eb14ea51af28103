use Rattle.std.proofs.Common.{◌≤◌, length, map, sym, ap, ◌∙◌, arith}
use lib.ListN.{length-map, get_or-eq_default}
use Rattle.semantics.specs.Words.{decode}
use Rattle.semantics.proofs.Words.{decode-zero}
use Rattle.run.proofs.cell_at.Goals as goal

pub returns-else-at-cells : goal.returns-else-at-cells
returns-else-at-cells g c =
    let W = g.W.Word in
    let past : length (map W.number c.args.cells.now) ≤ c.args.at = omega (arith, c.if-at-cells.false, length-map c.args.cells.now W.number) in
    sym (ap (decode W.width) (get_or-eq_default (map W.number c.args.cells.now) 0 past) ∙ decode-zero W.width g.met.W.Word.packing.empty-key)
