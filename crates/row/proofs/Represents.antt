-- The step on records is the step of the rules.
-- Assumes nothing.
use Rattle.std.proofs.Common.{◌≡◌, ℕ, suc, ◌+◌, ◌%◌, ◌<◌, Bool, true, false, cond, not, ◌&&◌, eqb, ltb, Some, refl, sym, ap, ◌∙◌, arith}
use native.Mathlib.Nat.{mod-lt, mod_self, mod-eq_of_lt, suc-mod}
use native.Mathlib.Decide.{ℕ_discrete}
use borrow.Author.Tests.{eq-eqb, ne_eqb, lt-ltb, eqb-false, ltb-true}
use Rattle.semantics.specs.declared.Total.{Total}
use Rattle.semantics.specs.declared.rules.Bounds.{Bounds}
use Rattle.semantics.specs.declared.values.Cell.{Cell}
use Rattle.semantics.specs.declared.values.Operation.{Operation}
use Rattle.semantics.specs.declared.values.Turn.{Turn}
use Rattle.semantics.specs.declared.values.Turn.TheVariants.{Passes, Holds, Loses, Finishes}
use Rattle.semantics.specs.declared.values.Pending.{Pending}
use Rattle.semantics.specs.declared.values.Pending.TheVariants.{Reading, Holding}
use Rattle.semantics.specs.Cells.{Setting}
use Rattle.semantics.specs.Step.{pending, after, step, passed, place_of, swapped, same_cell, held_cell, read, bounded}
use Rattle.semantics.specs.Words.{home_in, cell_from, is_live_key}
use Rattle.semantics.specs.Step.{sight}
use Rattle.semantics.specs.declared.values.Sight.TheVariants.{Other}
use Rattle.semantics.specs.declared.values.Cell.TheVariants.{Tombstone, Live}
use Rattle.semantics.specs.Rules.{setting_in}
use Rattle.row.specs.declared.Row.{Row}
use Rattle.row.specs.declared.Record.{Record}
use Rattle.row.specs.declared.Stage.{Stage}
use Rattle.row.specs.declared.Stage.TheVariants.{Reading as AtReading, Holding as AtHolding, Finished as AtFinished}
use Rattle.row.specs.Row.{following, place, row_of, record_of, turned, turned_by, is_within, step_taken, step_if, after_step, skims, skimmed, is_holding, pending_of}

-- the following cell of the one at p passed is the one at p + 1
following-mod : (c n : ℕ) → 0 < c → following c (n % c) ≡ suc n % c
following-mod c n h =
    elim (ℕ_discrete (n % c + 1) c) [
      | yes q ↦ rw (eq-eqb (n % c + 1) c q) (sym (suc-mod n c ∙ ap (λ (z : ℕ). z % c) (omega (arith, q)) ∙ mod_self c))
      | no q ↦ rw (ne_eqb (n % c + 1) c q) (sym (suc-mod n c ∙ mod-eq_of_lt (omega (arith, mod-lt n h)) ∙ omega arith))
    ]

next_place : (c k p : ℕ) → 0 < c → following c (place c k p) ≡ place c k (suc p)
next_place c k p h = following-mod c (home_in c k + p) h ∙ ap (λ (z : ℕ). z % c) (omega arith)

-- whether it holds a word
abbrev pub holds : {T : Type 0} → Pending T → Bool
holds (Reading p) = false
holds (Holding p h) = true

-- in the bounds b, of an operation o that has not finished
module _ (b : Bounds) (o : Operation Total) (size : 0 < b.cells) where
  abbrev S : Setting
  S = setting_in b

  abbrev row : Pending Total → Row
  row s = row_of b.cells o (pending s)

  abbrev kept-record : Pending Total → Record
  kept-record s = record_of b.cells o.key (pending s)

  pub row-at : (s : Pending Total) → (row s).progress.at ≡ place_of S o.key (passed S s)
  unfolding place_of passed
  row-at (Reading p) = refl
  row-at (Holding p h) = refl

  pub row-holds : (s : Pending Total) → is_holding (row s).progress.stage ≡ holds s
  row-holds (Reading p) = refl
  row-holds (Holding p h) = refl

  turned-is : (s : Pending Total) (t : Turn Total) → turned b.cells (kept-record s) t ≡ record_of b.cells o.key (after (passed S s) t)
  unfolding after passed
  turned-is (Reading p) Passes = let e = next_place b.cells o.key p size in let f : p + 1 ≡ suc p = omega arith in cc
  turned-is (Reading p) (Holds g) = refl
  turned-is (Reading p) Loses = refl
  turned-is (Reading p) (Finishes a) = refl
  turned-is (Holding p h) Passes = let e = next_place b.cells o.key p size in let f : p + 1 ≡ suc p = omega arith in cc
  turned-is (Holding p h) (Holds g) = refl
  turned-is (Holding p h) Loses = refl
  turned-is (Holding p h) (Finishes a) = refl

  row-within : (s : Pending Total) → passed S s < b.cells → is_within b.cells (kept-record s) ≡ true
  unfolding passed
  row-within (Reading p) less =
      let at : place b.cells o.key p < b.cells = mod-lt (home_in b.cells o.key + p) size in
      rw (lt-ltb (place b.cells o.key p) b.cells at, lt-ltb p b.cells less) refl
  row-within (Holding p h) less =
      let at : place b.cells o.key p < b.cells = mod-lt (home_in b.cells o.key + p) size in
      rw (lt-ltb (place b.cells o.key p) b.cells at, lt-ltb p b.cells less) refl

  -- one step
  module _ (s : Pending Total) (less : passed S s < b.cells) (x : Cell Total) where
    pub taken-is : step_taken b (row s) x ≡ Some (step S o s x)
    taken-is = ap (λ (z : Bool). step_if z b (row s) x (pending_of (kept-record s))) (row-within s less) ∙ go s
      where
        go : (s : Pending Total) → step_if true b (row s) x (pending_of (kept-record s)) ≡ Some (step S o s x)
        go (Reading p) = refl
        go (Holding p h) = refl

    pub after-is : after_step b (row s) x ≡ row_of b.cells o (after (passed S s) (step S o s x).turn)
    after-is =
        ap (λ (r : Record). record { operation = o; progress = r })
        (ap (turned_by b.cells (kept-record s)) taken-is ∙ turned-is s (step S o s x).turn)

    -- so a step of the code is that of the rules: what is left of the cell, and how the row goes on
    pub step_is : (step_taken b (row s) x ≡ Some (step S o s x)) × (after_step b (row s) x ≡ row_of b.cells o (after (passed S s) (step S o s x).turn))
    step_is = (taken-is, after-is)

-- a step that does not finish leaves the cell
pub kept-cell : (S : Setting) (o : Operation S.Total) (s : Pending S.Total) (x : Cell S.Total)
    → ((a : _) → (step S o s x).turn ≡ Finishes a → ⊥) → (step S o s x).cell ≡ x
unfolding step swapped
kept-cell S o (Reading p) x h = refl
kept-cell S o (Holding p w) x h = go (same_cell S x (held_cell S o.key w)) h
  where
    go : (z : Bool) → ((a : _) → (swapped S o w x z).turn ≡ Finishes a → ⊥) → (swapped S o w x z).cell ≡ x
    go true q = absurd (q _ refl)
    go false q = refl

-- and a read leaves it whatever its turn
pub read-cell : (S : Setting) (o : Operation S.Total) (s : Pending S.Total) (x : Cell S.Total)
    → holds s ≡ false → (step S o s x).cell ≡ x
unfolding step
read-cell S o (Reading p) x h = refl
read-cell S o (Holding p w) x h = cc

-- a step that the key tells to be a pass is one, whatever the total beside the key
module _ (b : Bounds) (o : Operation Total) (key : ℕ) (t : Total) where
  sees-other : eqb key 0 ≡ false → eqb key o.key ≡ false → sight o.key (cell_from key t) ≡ Other
  unfolding sight cell_from
  sees-other empty own = rw empty (go (is_live_key key))
    where
      turned-round : eqb o.key key ≡ false
      turned-round = ne_eqb o.key key (λ q. eqb-false key o.key own (sym q))

      go : (z : Bool) → sight o.key (cond z (Live key t) Tombstone) ≡ Other
      go true = rw turned-round
      go false = refl

  -- what the tests say, one by one
  tells : (r e₁ e₂ e₃ : Bool) → (not e₁ && (not e₂ && (e₃ && r))) ≡ true → (e₁ ≡ false) × (e₂ ≡ false) × (e₃ ≡ true) × (r ≡ true)
  tells true false false true h = (refl, refl, refl, refl)
  tells false false false true h = cc
  tells r true e₂ e₃ h = cc
  tells r false true e₃ h = cc
  tells r false false false h = cc

  pub skims-is : (at p : ℕ) (st : Stage) → let r : Row = record { operation = o; progress = record { at = at; passed = p; stage = st } } in
      skims b.cells r key ≡ true
      → (step_taken b r (cell_from key t) ≡ Some (record { cell = cell_from key t; turn = Passes }))
      × (after_step b r (cell_from key t) ≡ skimmed b.cells r)
  unfolding step read bounded
  skims-is at p (AtHolding h) e = cc
  skims-is at p AtFinished e = cc
  skims-is at p AtReading e =
      let (empty, own, low, few) = tells (ltb (suc p) b.cells) (eqb key 0) (eqb key o.key) (ltb at b.cells) e in
      let other = sees-other empty own in
      let more : suc p < b.cells = ltb-true (suc p) b.cells few in
      let last : eqb (suc p) b.cells ≡ false = ne_eqb (suc p) b.cells (omega arith) in
      let within : ltb p b.cells ≡ true = lt-ltb p b.cells (omega arith) in
      (rw (low, within, other, last), rw (low, within, other, last))
