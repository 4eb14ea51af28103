use Rattle.std.proofs.Common.{◌≡◌, ℕ, ◌+◌, List, map, take, get_or, sym, ap, ◌∙◌, arith}
use lib.ListN.{length-take}
use lib.Seq.{take_all, get_or-take}
use Rattle.semantics.specs.Run.{over}
use Rattle.semantics.proofs.Over.{over_none, map_next}
use Rattle.run.specs.Rows.{first_row, blank_rows, first_rows}
use Rattle.run.proofs.lay_rows.Goals as goal
use Rattle.run.proofs.lay_rows.Goals.{then-i-lt-MOST_OPERATIONS, else-i-lt-MOST_OPERATIONS}

pub loop-i-init : goal.loop-i-init
unfolding blank_rows
loop-i-init g c = c.requires ∙ sym (over_none blank_rows)

pub loop-i-preserved : goal.loop-i-preserved
unfolding blank_rows
loop-i-preserved g c =
    let ops : List ℕ = c.args.operations.now in
    let at = first_row g.W.Word.width c.args.cells in
    elim c.if-i-lt-MOST_OPERATIONS.branch [
      | then-i-lt-MOST_OPERATIONS w ↦
          let value : w.first_row.result ≡ at (get_or (take 64 ops) c.loop-i.i 0) =
          rw (w.first_row.ensures) (ap at (sym (get_or-take 64 ops c.loop-i.i 0 w.if-i-lt-MOST_OPERATIONS.true))) in
          w.rows-is
          ∙ map_next at (take 64 ops) 0 c.loop-i.i blank_rows c.loop-i.rows (omega (arith, length-take 64 ops, c.loop-i-test.true, w.if-i-lt-MOST_OPERATIONS.true))
          (omega (arith, length-take 64 ops)) c.loop-i.invariant value
      | else-i-lt-MOST_OPERATIONS w ↦
          w.rows-is
          ∙ c.loop-i.invariant
          ∙ ap (λ (l : List ℕ). over (map at l) blank_rows)
          (take_all c.loop-i.i (take 64 ops) (omega (arith, length-take 64 ops, w.if-i-lt-MOST_OPERATIONS.false))
          ∙ sym (take_all (c.loop-i.i + 1) (take 64 ops) (omega (arith, length-take 64 ops, w.if-i-lt-MOST_OPERATIONS.false))))
    ]

pub returns : goal.returns
unfolding first_rows
returns g c =
    let ops : List ℕ = c.args.operations.now in
    c.loop-i.invariant
    ∙ ap (λ (l : List ℕ). over (map (first_row g.W.Word.width c.args.cells) l) blank_rows)
    (take_all c.loop-i.i (take 64 ops) (omega (arith, length-take 64 ops, c.loop-i-test.false)))
