-- Must be believed of the promises of run::begin and run::begin_rows alone: what `run` and `report` promise rests on semantics/specs.
-- The records and the rows of a run's operations before the first entry.
-- Assumes nothing.
use Rattle.std.specs.Prelude.{ℕ, cond, List, map, replicate, take}
use Rattle.semantics.specs.declared.values.Kind.TheVariants.{Find}
use Rattle.semantics.specs.Refusals.{most_operations}
use Rattle.semantics.specs.Run.{over}
use Rattle.semantics.specs.Words.{Width, scaled_home, decode_operation, is_kind, nothing}
use Rattle.row.specs.declared.Row.{Row}
use Rattle.row.specs.declared.Record.{Record}
use Rattle.row.specs.declared.Stage.TheVariants.{Reading}
use Rattle.row.specs.Row.{finishing}

-- a row that reads at a cell, with none passed
abbrev pub no_row : Row
no_row = record { operation = record { kind = Find; key = 0; amount = nothing }; progress = record { at = 0; passed = 0; stage = Reading } }

-- room for the records of 64 operations, and for the rows
unfoldable pub blank : List Record
blank = replicate most_operations no_row.progress

unfoldable pub blank_rows : List Row
blank_rows = replicate most_operations no_row

-- "It begins reading at the key's home, with 0 cells passed."
abbrev pub begun : ℕ → ℕ → Record
begun c key = record { at = scaled_home c key; passed = 0; stage = Reading }

-- the record of any word, also one whose number is no kind's
abbrev pub at_home : Width → ℕ → ℕ → Record
at_home W c operation = begun c (W.operation_key operation)

-- of as many operations as there is room for
unfoldable pub first_records : Width → ℕ → List ℕ → List Record
first_records W c operations = over (map (at_home W c) (take most_operations operations)) blank

-- the row of a word. One whose number is no kind's, which only a call that is turned away has, takes no step.
abbrev pub first_row : Width → ℕ → ℕ → Row
first_row W c w =
    let o = decode_operation W w in
    record { operation = o; progress = cond (is_kind (W.kind_bits w)) (begun c o.key) finishing }

-- of as many operations as there is room for
unfoldable pub first_rows : Width → ℕ → List ℕ → List Row
first_rows W c operations = over (map (first_row W c) (take most_operations operations)) blank_rows
