-- The record that begins at an offset, read from the bytes from there on.
-- Assumes nothing.
use mathlib.Core.Path.{◌≡◌, sym, subst}
use Prim.Native.Nat.{ℕ}
use mathlib.Core.Bool.{Bool}
use mathlib.Core.List.{List}
use lib.ListN.{drop}
use Rattle.semantics.specs.declared.Mark.{Mark}
use Rattle.semantics.specs.declared.Position.{Position}
use Rattle.semantics.specs.Records.{fault_at}
use Rattle.semantics.specs.RunFile.{layout_of, mark_at, run_file}
use Rattle.runfile.specs.declared.record.Record.{Record}
use Rattle.runfile.specs.Records.{Is, Whole}
use Rattle.runfile.proofs.At.{the-mark, the-record, whole-there}

module _ (flagged : Bool) (file : List ℕ) (at : ℕ) where
  abbrev pub At : Type 0
  At = Whole flagged (drop at file) (mark_at (layout_of flagged) file at)

  abbrev p : Position
  p = record { at = at; part = 0; size = 0; lowest = 0; operations = 0; entries = 0 }

  module _ {part : List ℕ} (from : part ≡ drop at file) {m : Mark} (is : m ≡ mark_at (layout_of flagged) part 0) where
    pub whole-here : Whole flagged part m → At
    whole-here w = subst (Whole flagged (drop at file)) (the-mark flagged file p from is) (subst (λ l. Whole flagged l m) from w)

    pub here-whole : At → Whole flagged part m
    here-whole w = subst (λ l. Whole flagged l m) (sym from) (subst (Whole flagged (drop at file)) (sym (the-mark flagged file p from is)) w)

    pub stands : (r : Record) → Is flagged part 0 m r → Is flagged file at (mark_at (layout_of flagged) file at) r
    stands r h = the-record flagged file p from is r h

-- one that no condition turns away is not cut short
pub sound-whole : (flagged : Bool) (file : List ℕ) (p : Position) → fault_at (run_file (layout_of flagged)) file p ≡ 0
    → Whole flagged (drop p.at file) (mark_at (layout_of flagged) file p.at)
sound-whole flagged file p ok = whole-there flagged file p ok
