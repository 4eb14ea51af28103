-- What storing a cell and some entries leaves.
-- Assumes nothing.
use mathlib.Core.Path.{◌≡◌, sym, ap, ap₂, subst, ◌∙◌}
use Prim.Native.Nat.{ℕ, ◌+◌, ◌-◌, ◌≤◌}
use mathlib.Core.List.{List, ◌++◌}
use native.Mathlib.Omega.{arith}
use lib.ListN.{length, set, take, drop}
use Rattle.std.proofs.Common.{slice_set, map}
use Rattle.semantics.specs.declared.Position.{Position}
use Rattle.semantics.specs.declared.Total.{Total}
use Rattle.semantics.specs.Words.{Width}
use Rattle.semantics.specs.Run.{over}
use Rattle.semantics.proofs.Lists.{map-set}
use Rattle.runfile.specs.declared.record.Record.{Record}
use Rattle.runfile.specs.declared.record.Record.TheVariants.{Cell, Schedule}
use Rattle.runfile.specs.Stored.{held, kept, Storable}

module _ {A : Type 0} (number : A → ℕ) (W : Width) (p : Position) (cells : List A) (operations schedule : List ℕ) {r : Record}
    (room : Storable W p r (length cells) (length operations) (length schedule)) where
  pub stores-cell : {n key : ℕ} {t : Total} {x : A} → r ≡ Cell n key t → (t.amount ≤ W.ceiling → number x ≡ W.cell_word key t)
      → kept W p r (held number cells operations schedule) ≡ held number (slice_set cells n x) operations schedule
  stores-cell {n} {key} {t} {x} e packed =
      let fits = subst (λ q. Storable W p q (length cells) (length operations) (length schedule)) e room in
      let cells' = map-set number cells n x ∙ ap (set (map number cells) n) (packed fits.1) in
      ap (λ q. kept W p q (held number cells operations schedule)) e ∙ (λ i. record { cells = sym cells' i; operations = operations; schedule = schedule })

  pub stores-entries : (s : _) {copied : List ℕ} → r ≡ Schedule s → copied ≡ s.now → kept W p r (held number cells operations schedule)
      ≡ held number cells operations (take p.entries schedule ++ (copied ++ drop (p.entries + length s.now - p.entries) (drop p.entries schedule)))
  unfolding over
  stores-entries s {copied} e is =
      let rest = drop p.entries schedule in
      let count : length s.now ≡ p.entries + length s.now - p.entries = omega arith in
      let whole : over s.now rest ≡ copied ++ drop (p.entries + length s.now - p.entries) rest = ap₂ (λ l n. l ++ drop n rest) (sym is) count in
      ap (λ q. kept W p q (held number cells operations schedule)) e
      ∙ (λ i. record { cells = map number cells; operations = operations; schedule = take p.entries schedule ++ whole i })
