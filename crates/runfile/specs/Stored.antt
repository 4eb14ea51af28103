-- An aid, not to be believed: it stands in contracts of private functions alone.
-- What the reader stores for one record, in slices that earlier records have filled in part.
-- Assumes nothing.
use Rattle.std.specs.Prelude.{ℕ, ◌+◌, ◌^◌, ◌≤◌, ◌<◌, List, ◌++◌, length, map, set, take, drop, replicate}
use Rattle.semantics.specs.declared.Position.{Position}
use Rattle.semantics.specs.Run.{over}
use Rattle.semantics.specs.RunFile.{Contents}
use Rattle.semantics.specs.Words.{Width}
use Rattle.runfile.specs.declared.record.Record.{Record}
use Rattle.runfile.specs.declared.record.Record.TheVariants.{Table, Cell, Operation, Schedule}

-- what slices hold, the cells by their numbers
abbrev pub held : {A : Type 0} → (A → ℕ) → List A → List ℕ → List ℕ → Contents
held number cells operations schedule = record { cells = map number cells; operations = operations; schedule = schedule }

module _ (W : Width) (p : Position) where
  abbrev pub kept : Record → Contents → Contents
  kept (Table k) s = record { cells = over (replicate (2 ^ k) 0) s.cells; operations = s.operations; schedule = s.schedule }
  kept (Cell n key t) s = record { cells = set s.cells n (W.cell_word key t); operations = s.operations; schedule = s.schedule }
  kept (Operation kind key t) s =
      record { cells = s.cells; operations = set s.operations p.operations (W.operation_word kind key t); schedule = s.schedule }
  kept (Schedule entries) s =
      record {
        cells = s.cells;
        operations = s.operations;
        schedule = take p.entries s.schedule ++ over entries.now (drop p.entries s.schedule);
      }

  -- where it has room, in slices of some lengths
  abbrev pub Storable : Record → ℕ → ℕ → ℕ → Type 0
  Storable (Table k) c n e = (k < 13) × (2 ^ k ≤ c)
  Storable (Cell i key t) c n e = (i < c) × (t.amount ≤ W.ceiling)
  Storable (Operation kind key t) c n e = (p.operations < n) × (t.amount ≤ W.ceiling)
  Storable (Schedule entries) c n e = p.entries + length entries.now ≤ e
