use Rattle.std.proofs.Common.{sym, ◌∙◌}
use Rattle.std.proofs.lemmas.Result.{err_from_is_err_and}
use Rattle.judge.proofs.Chain as chain
use Rattle.judge.proofs.check.Goals as goal

pub returns-in_err-check_slices : goal.returns-in_err-check_slices
returns-in_err-check_slices g c =
    let p = err_from_is_err_and c.from_residual.result c.from_residual.ensures.1 in
    rw (p.1, p.2) (chain.in-slices g.met.W.Word.packing g.W.Word.number c.args.cells.now _ _ _ _ _ c.in_err-check_slices.ensures)

pub returns-in_err-check_cells : goal.returns-in_err-check_cells
returns-in_err-check_cells g c =
    let p = err_from_is_err_and c.from_residual-in_err-check_cells.result c.from_residual-in_err-check_cells.ensures.1 in
    rw (p.1, p.2) (chain.in-words g.met.W.Word.packing g.W.Word.number c.args.cells.now _ _ _ _ c.in_ok-check_slices.ensures _ c.in_err-check_cells.ensures)

pub returns-in_err-check_rows : goal.returns-in_err-check_rows
returns-in_err-check_rows g c =
    let p = err_from_is_err_and c.from_residual-in_err-check_rows.result c.from_residual-in_err-check_rows.ensures.1 in
    rw (p.1, p.2) (chain.in-rows g.met.W.Word.packing g.W.Word.number c.args.cells.now _ _ _ _ c.in_ok-check_slices.ensures c.in_ok-check_cells.ensures _ c.in_err-check_rows.ensures)

pub returns-in_err-check_entries : goal.returns-in_err-check_entries
returns-in_err-check_entries g c =
    let p = err_from_is_err_and c.from_residual-in_err-check_entries.result c.from_residual-in_err-check_entries.ensures.1 in
    rw (p.1, p.2) (chain.in-names g.met.W.Word.packing g.W.Word.number c.args.cells.now _ _ _ _ c.in_ok-check_slices.ensures c.in_ok-check_cells.ensures c.in_ok-check_rows.ensures _ c.in_err-check_entries.ensures)

pub returns-in_err-check_repeated : goal.returns-in_err-check_repeated
returns-in_err-check_repeated g c =
    let p = err_from_is_err_and c.from_residual-in_err-check_repeated.result c.from_residual-in_err-check_repeated.ensures.1 in
    rw (p.1, p.2) (chain.in-same g.met.W.Word.packing g.W.Word.number c.args.cells.now _ _ _ _ c.in_ok-check_slices.ensures c.in_ok-check_cells.ensures c.in_ok-check_rows.ensures c.in_ok-check_entries.ensures _ c.in_err-check_repeated.ensures)

pub check_cut_off-requires : goal.check_cut_off-requires
check_cut_off-requires g c = chain.sized g.met.W.Word.packing g.W.Word.number c.args.cells.now _ _ _ _ c.in_ok-check_slices.ensures

pub returns : goal.returns
returns g c =
    c.check_cut_off.ensures
    ∙ sym (chain.in-cut g.met.W.Word.packing g.W.Word.number c.args.cells.now _ _ _ _ c.in_ok-check_slices.ensures c.in_ok-check_cells.ensures c.in_ok-check_rows.ensures c.in_ok-check_entries.ensures c.in_ok-check_repeated.ensures)
