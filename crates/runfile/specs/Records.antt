-- Must be believed of the promises of record alone, and Rest, after, Passable and Tells are aids: what `load` and `report` promise rests on
-- semantics/specs.
-- The record that stands at an offset of a file, in the types of the code; and what reading one answers.
-- Assumes nothing.
use Rattle.std.specs.Prelude.{◌≡◌, ℕ, ◌+◌, ◌^◌, ◌≤◌, ◌<◌, Bool, true, false, List, length, drop, Result, Ok, Err, Option, None, Some}
use denote.Ref.{Bor}
use Rattle.semantics.specs.declared.Mark.{Mark}
use Rattle.semantics.specs.declared.Mark.TheVariants.{Table as is_table, Cell as is_cell, Operation as is_operation, Schedule as is_schedule, Unknown}
use Rattle.semantics.specs.declared.Position.{Position}
use Rattle.semantics.specs.declared.Judged.{Judged}
use Rattle.semantics.specs.Records.{fault_at}
use Rattle.semantics.specs.Refusals.{first_met}
use Rattle.semantics.specs.RunFile.{Layout, layout_of, byte_at, pair_at, entries_at, mark_at, next_of, run_file, conditions_of}
use Rattle.semantics.specs.Widths.{width_of}
use Rattle.runfile.specs.declared.record.Fault.{Fault}
use Rattle.runfile.specs.declared.record.Fault.TheVariants.{Cut}
use Rattle.runfile.specs.declared.record.Record.{Record}
use Rattle.runfile.specs.declared.record.Record.TheVariants.{Table, Cell, Operation, Schedule}
use Rattle.runfile.specs.Faults.{number_of, place_of}

-- what a record at an offset holds, and its mark; its total is one that a word of the width has room for
abbrev pub Is : Bool → List ℕ → ℕ → Mark → Record → Type 0
Is flagged file at m (Table k) = (m ≡ is_table) × (k ≡ byte_at file (at + 2))
Is flagged file at m (Cell n key t) =
    (m ≡ is_cell) × (n ≡ pair_at file (at + 2)) × (key ≡ pair_at file (at + 4)) × (t ≡ (layout_of flagged).total_at file (at + 6))
    × (t.amount ≤ (width_of flagged).ceiling)
Is flagged file at m (Operation kind key t) =
    (m ≡ is_operation) × (kind ≡ byte_at file (at + 2)) × (key ≡ pair_at file (at + 3)) × (t ≡ (layout_of flagged).total_at file (at + 5))
    × (t.amount ≤ (width_of flagged).ceiling)
Is flagged file at m (Schedule entries) = (m ≡ is_schedule) × (entries.now ≡ entries_at file at)

-- a record of some mark that is not cut short
abbrev pub Whole : Bool → List ℕ → Mark → Type 0
Whole flagged rest is_table = 3 ≤ length rest
Whole flagged rest is_cell = (layout_of flagged).total_size + 6 ≤ length rest
Whole flagged rest is_operation = (layout_of flagged).total_size + 5 ≤ length rest
Whole flagged rest is_schedule = byte_at rest 2 + 3 ≤ length rest
Whole flagged rest Unknown = ⊥

-- the bytes from an offset on, if a mark is not cut short there
abbrev pub Rest : List ℕ → ℕ → Result (Bor (List ℕ)) Fault → Type 0
Rest file at (Ok rest) = (at + 2 ≤ length file) × (rest.now ≡ drop at file)
Rest file at (Err f) = (length file < at + 2) × (f ≡ Cut at)

-- what is carried to a record, where the bytes from it on are all there is
abbrev pub at_front : Position → Position
at_front p =
    record {
      at = 0;
      part = p.part;
      size = p.size;
      lowest = p.lowest;
      operations = p.operations;
      entries = p.entries;
    }

-- the number of the first condition that turns a record with a whole mark away, in table order, 0 for none
unfoldable pub fault_of : Layout → List ℕ → Position → Mark → ℕ
fault_of L rest p mark = (first_met (conditions_of L rest (at_front p) mark)).number

-- what reading the body of a record of some mark answers: the record, or the number of why it is turned away
abbrev pub Reads : Bool → List ℕ → Position → Mark → Result Record Fault → Type 0
Reads flagged rest p m (Ok r) = (0 ≡ fault_of (layout_of flagged) rest p m) × Is flagged rest 0 m r
Reads flagged rest p m (Err f) = (number_of f ≡ fault_of (layout_of flagged) rest p m) × (place_of f ≡ p.at)

-- the position past a record that is not turned away
abbrev pub after : Bool → Position → Record → Position
after flagged p (Table k) =
    record { at = p.at + 3; part = 1; size = 2 ^ k; lowest = p.lowest; operations = p.operations; entries = p.entries }
after flagged p (Cell n key t) =
    record {
      at = p.at + ((layout_of flagged).total_size + 6);
      part = 2;
      size = p.size;
      lowest = n + 1;
      operations = p.operations;
      entries = p.entries;
    }
after flagged p (Operation kind key t) =
    record {
      at = p.at + ((layout_of flagged).total_size + 5);
      part = 3;
      size = p.size;
      lowest = p.lowest;
      operations = p.operations + 1;
      entries = p.entries;
    }
after flagged p (Schedule entries) =
    record {
      at = p.at + (length entries.now + 3);
      part = 4;
      size = p.size;
      lowest = p.lowest;
      operations = p.operations;
      entries = p.entries + length entries.now;
    }

-- where the numbers of that position have room
abbrev pub Passable : Bool → Position → Record → Type 0
Passable flagged p (Table k) = (p.at + 3 < 2 ^ 64) × (k < 13)
Passable flagged p (Cell n key t) = p.at + ((layout_of flagged).total_size + 6) < 2 ^ 64
Passable flagged p (Operation kind key t) = (p.at + ((layout_of flagged).total_size + 5) < 2 ^ 64) × (p.operations < 64)
Passable flagged p (Schedule entries) = (p.at + (length entries.now + 3) < 2 ^ 64) × (p.entries + length entries.now ≤ 16384)

-- what reading the record at a position answers: it and the position past it, or the number of why it is turned away
abbrev pub ReadsAt : Bool → List ℕ → Position → Result (Record × Position) Fault → Type 0
ReadsAt flagged file p (Ok (r, q)) =
    (fault_at (run_file (layout_of flagged)) file p ≡ 0) × Is flagged file p.at (mark_at (layout_of flagged) file p.at) r
    × (q ≡ next_of (layout_of flagged) file p)
ReadsAt flagged file p (Err f) = (number_of f ≡ fault_at (run_file (layout_of flagged)) file p) × (place_of f ≡ p.at)

-- what a scan makes of the record, by that answer: a record that is turned away is not passed
abbrev pub as_judged : Position → Result (Record × Position) Fault → Judged
as_judged p (Ok (r, q)) = record { number = 0; next = q }
as_judged p (Err f) = record { number = number_of f; next = p }

-- what stands at an offset of a file: a record that is not cut short, whether or not its fields are right, or none
abbrev pub Stands : Bool → List ℕ → ℕ → Option Record → Type 0
Stands flagged file at (Some r) =
    Whole flagged (drop at file) (mark_at (layout_of flagged) file at) × Is flagged file at (mark_at (layout_of flagged) file at) r
Stands flagged file at None = Whole flagged (drop at file) (mark_at (layout_of flagged) file at) → ⊥

-- what a test says
abbrev pub Tells : Type 0 → Bool → Type 0
Tells P true = P
Tells P false = P → ⊥
