use Rattle.std.proofs.Common.{◌≡◌, ℕ, ◌+◌, List, map, take, get_or, sym, ap, ◌∙◌, arith}
use lib.ListN.{length-take}
use lib.Seq.{take_all, get_or-take}
use Rattle.semantics.specs.Run.{over}
use Rattle.semantics.proofs.Over.{over_none, map_next}
use Rattle.run.specs.Rows.{at_home, blank, first_records}
use Rattle.run.proofs.begin.Goals as goal
use Rattle.run.proofs.begin.Goals.{then-i-lt-MOST_OPERATIONS, else-i-lt-MOST_OPERATIONS}

pub loop-i-init : goal.loop-i-init
unfolding blank
loop-i-init g c = sym (over_none blank)

pub loop-i-preserved : goal.loop-i-preserved
unfolding blank
loop-i-preserved g c =
    let ops : List ℕ = c.args.operations.now in
    let at = at_home g.W.Word.width c.args.cells in
    elim c.if-i-lt-MOST_OPERATIONS.branch [
      | then-i-lt-MOST_OPERATIONS w ↦
          let value : w.row_at_home.result.progress ≡ at (get_or (take 64 ops) c.loop-i.i 0) =
          rw (w.row_at_home.ensures) (ap at (sym (get_or-take 64 ops c.loop-i.i 0 w.if-i-lt-MOST_OPERATIONS.true))) in
          w.records-is
          ∙ map_next at (take 64 ops) 0 c.loop-i.i blank c.loop-i.records (omega (arith, length-take 64 ops, c.loop-i-test.true, w.if-i-lt-MOST_OPERATIONS.true))
          (omega (arith, length-take 64 ops)) c.loop-i.invariant value
      | else-i-lt-MOST_OPERATIONS w ↦
          w.records-is
          ∙ c.loop-i.invariant
          ∙ ap (λ (l : List ℕ). over (map at l) blank)
          (take_all c.loop-i.i (take 64 ops) (omega (arith, length-take 64 ops, w.if-i-lt-MOST_OPERATIONS.false))
          ∙ sym (take_all (c.loop-i.i + 1) (take 64 ops) (omega (arith, length-take 64 ops, w.if-i-lt-MOST_OPERATIONS.false))))
    ]

pub returns : goal.returns
unfolding first_records
returns g c =
    let ops : List ℕ = c.args.operations.now in
    c.loop-i.invariant
    ∙ ap (λ (l : List ℕ). over (map (at_home g.W.Word.width c.args.cells) l) blank)
    (take_all c.loop-i.i (take 64 ops) (omega (arith, length-take 64 ops, c.loop-i-test.false)))
