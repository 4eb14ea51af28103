use Rattle.std.proofs.Common.{true, sym, ap, ◌∙◌, arith}
use Rattle.semantics.specs.declared.Written.{Written}
use Rattle.semantics.proofs.Convert.{Bytes}
use Rattle.semantics.proofs.Faithful.{never-22}
use Rattle.convert.proofs.Answers.{answer-22}
use Rattle.convert.proofs.narrow.Goals as goal

pub returns-clause-never : goal.returns-clause-never
returns-clause-never c =
    let b : Bytes c.args.file.now = record { below = λ i. omega (arith, c.type_inv.file i) } in
    λ is. never-22 c.args.file.now b (answer-22 true c.args.file.now c.args.out.now c.convert.ensures (ap (λ (w : Written). w.number) (sym c.told.ensures) ∙ is))
