use Rattle.std.proofs.Common.{◌≡◌, ◌-◌, ◌++◌, ℕ, List, drop, length, take, sym, ap, ◌∙◌, arith}
use mathlib.Core.Path.{ap₂}
use mathlib.Core.List.{append_assoc}
use lib.Seq.{length-take-le, take-add, drop-append-add}
use Rattle.std.proofs.lemmas.List.{take-append-le, take-take, drop-drop}
use Rattle.semantics.specs.Run.{over}
use Rattle.word.proofs.bytes.copy_few.Goals as goal

pub returns : goal.returns
unfolding over
returns c =
    let n = c.args.n in
    let a = n - 8 in
    let to : List ℕ = c.args.to.now in
    let from : List ℕ = c.args.from.now in
    let first : List ℕ = c.copy_from_slice.new.self in
    let last : List ℕ = c.copy_from_slice-2.new.self in
    let head : first ≡ take 8 from = c.copy_from_slice.ensures.after in
    let long : length first ≡ 8 = ap length head ∙ length-take-le 8 from (omega arith) in
    let eight : n - a ≡ 8 = omega arith in
    let tail : last ≡ take 8 (drop a from) = c.copy_from_slice-2.ensures.after ∙ ap (λ (m : ℕ). take m (drop a from)) eight in
    let front : take a (first ++ drop 8 to) ≡ take a from =
    take-append-le a first (drop 8 to) (omega arith) ∙ ap (take a) head ∙ take-take a 8 from (omega arith) in
    let past : drop 8 (drop a (first ++ drop 8 to)) ≡ drop n to =
    drop-drop 8 a (first ++ drop 8 to)
    ∙ ap (λ (m : ℕ). drop m (first ++ drop 8 to)) (omega (arith, long))
    ∙ drop-append-add first (drop 8 to) a
    ∙ drop-drop a 8 to
    ∙ ap (λ (m : ℕ). drop m to) (omega arith) in
    let whole : take a from ++ take 8 (drop a from) ≡ take n from = sym (take-add a 8 from) ∙ ap (λ (m : ℕ). take m from) (omega arith) in
    let end : n ≡ length (take n from) = sym (length-take-le n from (omega arith)) in
    ap (λ (m : ℕ). take a (first ++ drop 8 to) ++ (last ++ drop m (drop a (first ++ drop 8 to)))) eight
    ∙ ap₂ (λ (l r : List ℕ). l ++ (last ++ r)) front past
    ∙ ap (λ (l : List ℕ). take a from ++ (l ++ drop n to)) tail
    ∙ sym (append_assoc (take a from) (take 8 (drop a from)) (drop n to))
    ∙ ap₂ (λ (l : List ℕ) (m : ℕ). l ++ drop m to) whole end
