use Rattle.std.proofs.Common.{◌<◌, ℕ, List, length, map, replicate, set, sym, ap, ◌∙◌, arith}
use mathlib.Core.Path.{ap₂}
use lib.ListN.{length-map}
use Rattle.std.proofs.lemmas.List.{replicate-append-replicate, length-replicate}
use Rattle.semantics.specs.Run.{over}
use Rattle.semantics.proofs.Over.{over_none, over-next}
use Rattle.semantics.proofs.Lists.{map-set}
use Rattle.runfile.proofs.clear.Goals as goal

pub loop-i-init : goal.loop-i-init
loop-i-init g c = sym (over_none _)

pub loop-i-preserved : goal.loop-i-preserved
loop-i-preserved g c =
    let W = g.W.Word in
    let i = c.loop-i.i in
    let old = map W.number c.args.cells.now in
    let long : i < length old = omega (arith, length-map c.args.cells.now W.number) in
    map-set W.number c.loop-i.cells i c.zero.result
    ∙ ap₂ (λ (l : List ℕ) (w : ℕ). set l i w) c.loop-i.invariant c.zero.ensures
    ∙ over-next (replicate i 0) old i 0 (length-replicate i 0) long
    ∙ ap (λ (l : List ℕ). over l old) (replicate-append-replicate i 1 0)
