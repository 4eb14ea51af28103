-- A scan that a record ends; and what the scan makes of the record at a position, by what reading it answers.
-- Assumes nothing.
use mathlib.Core.Path.{◌≡◌, sym, ap, ◌∙◌}
use Prim.Native.Nat.{ℕ}
use mathlib.Core.Bool.{Bool, cond}
use mathlib.Core.List.{List}
use native.Mathlib.Omega.{arith}
use borrow.Author.Tests.{eq-eqb, ne_eqb}
use Rattle.std.specs.Prelude.{Result, Ok, Err}
use Rattle.semantics.specs.declared.Position.{Position}
use Rattle.semantics.specs.declared.Refusal.{Refusal}
use Rattle.semantics.specs.Records.{fault_at}
use Rattle.semantics.specs.RunFile.{Layout, layout_of, next_of, run_file, judged}
use Rattle.semantics.proofs.Records.{Left, judgement, judge-faulty}
use Rattle.semantics.proofs.Marks.{scannable}
use Rattle.runfile.specs.declared.record.Fault.{Fault}
use Rattle.runfile.specs.declared.record.Fault.TheVariants.{TooMany, TooShort, Mark, Cut, Body, TooLong}
use Rattle.runfile.specs.declared.record.Record.{Record}
use Rattle.runfile.specs.Faults.{number_of, place_of}
use Rattle.runfile.specs.Records.{ReadsAt, as_judged}

pub positive : (f : Fault) → number_of f ≡ 0 → ⊥
positive (TooMany at) e = omega (arith, e)
positive TooShort e = omega (arith, e)
positive (Mark at) e = omega (arith, e)
positive (Cut at) e = omega (arith, e)
positive (Body at) e = omega (arith, e)
positive TooLong e = omega (arith, e)

pub scan-refused : (L : Layout) (file : List ℕ) {p : Position} {refused : Refusal} (f : Fault) → Left (run_file L) file (judgement (run_file L) file) refused p
    → (number_of f ≡ fault_at (run_file L) file p) × (place_of f ≡ p.at) → record { number = number_of f; place = place_of f } ≡ refused
scan-refused L file f left h =
    (λ i. record { number = number_of f; place = h.1 i }) ∙ judge-faulty (scannable L file) left h.0 (positive f)

pub as-read : (flagged : Bool) (file : List ℕ) (p : Position) (r : Result (Record × Position) Fault)
    → ReadsAt flagged file p r → as_judged p r ≡ judged (layout_of flagged) file p
unfolding judged
as-read flagged file p (Ok (r, q)) h =
    λ i. record { number = sym h.0 i; next = (h.2 ∙ ap (λ b. cond b (next_of (layout_of flagged) file p) p) (sym (eq-eqb _ 0 h.0))) i }
as-read flagged file p (Err f) h =
    λ i. record {
      number = h.0 i;
      next = ap (λ b. cond b (next_of (layout_of flagged) file p) p) (sym (ne_eqb _ 0 (λ e. positive f (h.0 ∙ e)))) i;
    }
