use Rattle.std.proofs.Common.{◌≡◌, ◌+◌, ◌<◌, ◌≤◌, ◌++◌, ℕ, suc, List, drop, length, take, min, get_or, set, sym, ap, ◌∙◌, arith}
use mathlib.Core.List.{append-nil}
use lib.Seq.{take_all, take-suc, length-take-le, drop-length}
use Rattle.std.proofs.lemmas.List.{take_min}
use Rattle.semantics.specs.Run.{over}
use Rattle.semantics.proofs.Over.{over_none, over-next}
use Rattle.word.proofs.bytes.copy.Goals as goal

-- all of the bytes, over as many
over-all : (from to : List ℕ) (n : ℕ) → length from ≡ length to → length from ≤ n → over (take n from) to ≡ from
unfolding over
over-all from to n long all =
    ap (λ (l : List ℕ). over l to) (take_all n from all)
    ∙ ap (λ (l : List ℕ). from ++ l) (ap (λ (m : ℕ). drop m to) long ∙ drop-length to)
    ∙ append-nil from

pub loop-i-init : goal.loop-i-init
loop-i-init c = sym (over_none c.args.to.now)

pub loop-i-preserved : goal.loop-i-preserved
loop-i-preserved c =
    let i = c.loop-i.i in
    let to : List ℕ = c.args.to.now in
    let from : List ℕ = c.args.from.now in
    let byte = get_or from i 0 in
    let some : i < length from = omega (arith, c.loop-i-test.true) in
    let left : i < length to = omega (arith, c.loop-i-test.true) in
    let one : suc i ≡ i + 1 = omega arith in
    ap (λ (l : List ℕ). set l i byte) c.loop-i.invariant
    ∙ over-next (take i from) to i byte (length-take-le i from (omega arith)) left
    ∙ ap (λ (l : List ℕ). over l to) (sym (take-suc from i 0 some) ∙ ap (λ (n : ℕ). take n from) one)

pub returns-clause-every : goal.returns-clause-every
returns-clause-every c =
    let to : List ℕ = c.args.to.now in
    let from : List ℕ = c.args.from.now in
    let all : c.loop-i.i ≡ min (length to) (length from) = omega (arith, c.loop-i-test.false) in
    c.loop-i.invariant ∙ ap (λ (l : List ℕ). over l to) (ap (λ (n : ℕ). take n from) all ∙ take_min (length to) from)

pub returns-clause-same : goal.returns-clause-same
returns-clause-same c long =
    c.loop-i.invariant ∙ over-all c.args.from.now c.args.to.now c.loop-i.i long (omega (arith, c.loop-i-test.false))

pub returns-then-n-le16-clause-same : goal.returns-then-n-le16-clause-same
returns-then-n-le16-clause-same c long = c.copy_few.ensures ∙ over-all c.args.from.now c.args.to.now c.min-n.result long (omega arith)
