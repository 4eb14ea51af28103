use Rattle.std.proofs.Common.{◌≡◌, ℕ, map, length, sym, ap, ◌∙◌}
use lib.ListN.{length-map}
use Rattle.semantics.specs.declared.Refusal.{Refusal}
use Rattle.semantics.specs.Refusals.{call_of, run_refusal}
use Rattle.semantics.specs.Run.{refused_result}
use Rattle.semantics.proofs.DemandsHold.{demands-of}
use Rattle.semantics.proofs.WordsHold.{refused}
use Rattle.judge.proofs.Chain.{told}
use Rattle.judge.proofs.Found.{some-number}
use Rattle.run.proofs.run_words.Goals as goal

pub entries-requires : goal.entries-requires
unfolding run_refusal
entries-requires g c =
    let W = g.W.Word in
    let a = c.args in
    let is = c.in-Ok.ensures ∙ ap (λ (n : ℕ). run_refusal W.width (call_of (map W.number a.cells.now) a.operations.now a.schedule.now n (length a.log.now))) (sym (length-map a.answers.now W.number)) in
    ap (λ (r : Refusal). r.number) (sym is)

pub returns-in-Ok : goal.returns-in-Ok
returns-in-Ok g c = demands-of g.met.W.Word.packing _ _ _ _ _ _ c.entries.ensures

pub returns-in-Err : goal.returns-in-Err
unfolding run_refusal refused_result
returns-in-Err g c =
    let W = g.W.Word in
    let a = c.args in
    let cells = map W.number a.cells.now in
    let answers = map W.number a.answers.now in
    let is : told c.in-Err.reason ≡ run_refusal W.width (call_of cells a.operations.now a.schedule.now (length answers) (length a.log.now)) =
    c.in-Err.ensures ∙ ap (λ (n : ℕ). run_refusal W.width (call_of cells a.operations.now a.schedule.now n (length a.log.now))) (sym (length-map a.answers.now W.number)) in
    rw c.from.ensures
    (demands-of g.met.W.Word.packing _ _ _ _ _ _
    (refused W.width cells a.operations.now a.schedule.now answers a.log.now (λ e. some-number c.in-Err.reason (ap (λ (r : Refusal). r.number) is ∙ e))
    ∙ ap (λ (r : Refusal). refused_result r cells answers a.log.now) (sym is)))
