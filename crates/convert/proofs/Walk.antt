-- Along the records of a file that the reader takes: those that are left from an offset on, and the one that stands there.
-- Assumes nothing.
use mathlib.Core.Path.{◌≡◌, refl, sym, ap, subst, ◌∙◌}
use Prim.Native.Nat.{ℕ, ◌+◌, ◌-◌, ◌≤◌}
use mathlib.Core.Bool.{Bool}
use mathlib.Core.List.{List, [], ◌∷◌}
use native.Mathlib.Omega.{arith}
use lib.ListN.{length, drop, length-drop}
use Rattle.semantics.specs.declared.Mark.{Mark}
use Rattle.semantics.specs.declared.Mark.TheVariants.{Table as is_table, Cell as is_cell, Operation as is_operation, Schedule as is_schedule, Unknown}
use Rattle.semantics.specs.declared.Position.{Position}
use Rattle.semantics.specs.Records.{fault_at, records}
use Rattle.semantics.specs.RunFile.{Layout, layout_of, mark_at, past, next_of, run_file, start, file_refusal}
use Rattle.semantics.proofs.Marks.{sound}
use Rattle.semantics.proofs.Converted.{Chain, ends, goes}
use Rattle.semantics.proofs.Faithful.{file-chain}
use Rattle.runfile.specs.declared.record.Record.{Record}
use Rattle.runfile.specs.declared.record.Record.TheVariants.{Table, Cell, Operation, Schedule}
use Rattle.runfile.specs.Records.{Is, Whole}
use Rattle.runfile.proofs.At.{whole-there, goes-past}
use Rattle.runfile.proofs.Stands.{here-whole, stands}
use Rattle.convert.specs.Rewritten.{size_in}

-- a record that is not cut short has three bytes
three-bytes : (flagged : Bool) (rest : List ℕ) (m : Mark) → Whole flagged rest m → 3 ≤ length rest
three-bytes flagged rest is_table h = omega arith
three-bytes flagged rest is_cell h = omega arith
three-bytes flagged rest is_operation h = omega arith
three-bytes flagged rest is_schedule h = omega arith
three-bytes flagged rest Unknown h = elim h [ ]

-- those that are left, of which none is turned away
pub data Remains (L : Layout) (file : List ℕ) (at : ℕ) : List Position → Type 0 where
  none : at ≡ length file → Remains L file at []
  some : {p : Position} {ps : List Position} → at ≡ p.at → Chain L file p ps → Remains L file at ps

module _ (flagged : Bool) (file : List ℕ) where
  abbrev L : Layout
  L = layout_of flagged

  abbrev pub all : List Position
  all = records (run_file L) file start

  pub at-first : (file_refusal L file).number ≡ 0 → Remains L file 0 all
  at-first ok = some refl (file-chain L file ok)

  -- past a record as long as the code says
  pub steps : (p : Position) → fault_at (run_file L) file p ≡ 0 → (r : Record) → Is flagged file p.at (mark_at L file p.at) r
      → p.at + size_in flagged r ≡ (next_of L file p).at
  steps p ok (Table k) is = omega (arith, ap (λ (q : Position). q.at) (goes-past flagged file p ok (Table k) is))
  steps p ok (Cell n key t) is = omega (arith, ap (λ (q : Position). q.at) (goes-past flagged file p ok (Cell n key t) is))
  steps p ok (Operation kind key t) is = omega (arith, ap (λ (q : Position). q.at) (goes-past flagged file p ok (Operation kind key t) is))
  steps p ok (Schedule s) is = omega (arith, ap (λ (q : Position). q.at) (goes-past flagged file p ok (Schedule s) is))

  -- the record that code finds is the next of them
  pub record Here (at : ℕ) (ps : List Position) (r : Record) : Type 0 where
    pub p : Position
    pub rest : List Position
    pub is : ps ≡ p ∷ rest
    pub place : at ≡ p.at
    pub ok : fault_at (run_file L) file p ≡ 0
    pub chain : Chain L file p ps
    pub holds : Is flagged file p.at (mark_at L file p.at) r
    pub beyond : Remains L file (next_of L file p).at rest

  pub next-inside : (p : Position) → fault_at (run_file L) file p ≡ 0 → (next_of L file p).at ≤ length file
  unfolding next_of past
  next-inside p ok = omega (arith, (sound L file p refl ok).whole)

  -- what code sees of the bytes from an offset on is what stands there
  module _ (at : ℕ) {rest : List ℕ} (from_there : rest ≡ drop at file) where
    rest-long : length rest ≡ length file - at
    rest-long = ap length from_there ∙ length-drop at file

    in-place : (r : Record) → Is flagged rest 0 (mark_at L rest 0) r → Is flagged file at (mark_at L file at) r
    in-place r h = stands flagged file at from_there refl r h

    sound-whole : (p : Position) → at ≡ p.at → fault_at (run_file L) file p ≡ 0 → Whole flagged rest (mark_at L rest 0)
    sound-whole p e ok =
        here-whole flagged file at from_there refl (subst (λ n. Whole flagged (drop n file) (mark_at L file n)) (sym e) (whole-there flagged file p ok))

    pub here : {ps : List Position} → Remains L file at ps → (r : Record) → Whole flagged rest (mark_at L rest 0) → Is flagged rest 0 (mark_at L rest 0) r → Here at ps r
    here (none e) r whole is = absurd (omega (arith, three-bytes flagged rest (mark_at L rest 0) whole, rest-long))
    here (some {p = p} e (ends ok h)) r whole is =
        record {
          p = p;
          rest = [];
          is = refl;
          place = e;
          ok = ok;
          chain = ends ok h;
          holds = subst (λ n. Is flagged file n (mark_at L file n) r) e (in-place r is);
          beyond = none (omega (arith, next-inside p ok));
        }
    here (some {p = p} e (goes {ps = after} ok h c)) r whole is =
        record {
          p = p;
          rest = after;
          is = refl;
          place = e;
          ok = ok;
          chain = goes ok h c;
          holds = subst (λ n. Is flagged file n (mark_at L file n) r) e (in-place r is);
          beyond = some refl c;
        }

    -- where it finds none, none is left
    pub none-left : {ps : List Position} → Remains L file at ps → (Whole flagged rest (mark_at L rest 0) → ⊥) → ps ≡ []
    none-left (none e) cut = refl
    none-left (some {p = p} e (ends ok h)) cut = absurd (cut (sound-whole p e ok))
    none-left (some {p = p} e (goes ok h c)) cut = absurd (cut (sound-whole p e ok))

  module _ {at : ℕ} {ps : List Position} {r : Record} (h : Here at ps r) where
    pub moves : at + size_in flagged r ≡ (next_of L file h.p).at
    moves = omega (arith, h.place, steps h.p h.ok r h.holds)

    pub beyond_at : {n : ℕ} → n ≡ (next_of L file h.p).at → Remains L file n h.rest
    beyond_at e = subst (λ k. Remains L file k h.rest) (sym e) h.beyond
