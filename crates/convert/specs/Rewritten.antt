-- An aid, not to be believed: it stands in contracts of private functions alone.
-- A record in the types of the code: its total, how many bytes it has at a width, and which. Those of an SC record are the same at both, and not
-- written anew.
-- Assumes nothing.
use Rattle.std.specs.Prelude.{ℕ, ◌+◌, Bool, cond, List, [], ◌∷◌, ◌++◌, length, Option as Maybe, Some, None}
use Rattle.std.proofs.Math.Option.{Option, none, some}
use Rattle.semantics.specs.declared.Total.{Total}
use Rattle.semantics.specs.RunFile.{layout_of, pair_bytes}
use Rattle.semantics.specs.Text.{text}
use Rattle.semantics.specs.Convert.{file_records, file_of, is_unfit_in}
use Rattle.runfile.specs.declared.record.Record.{Record}
use Rattle.runfile.specs.declared.record.Record.TheVariants.{Table, Cell, Operation, Schedule}

abbrev pub total_of : Record → Option Total
total_of (Table k) = none
total_of (Cell n key t) = some t
total_of (Operation kind key t) = some t
total_of (Schedule s) = none

-- its place, if that total is unfit
abbrev pub unfit_place : Bool → Record → ℕ → Maybe ℕ
unfit_place flagged r at = cond (is_unfit_in flagged (total_of r)) (Some at) None

abbrev pub size_in : Bool → Record → ℕ
size_in flagged (Table k) = 3
size_in flagged (Cell n key t) = (layout_of flagged).total_size + 6
size_in flagged (Operation kind key t) = (layout_of flagged).total_size + 5
size_in flagged (Schedule s) = length s.now + 3

abbrev pub rewritten : Bool → Record → List ℕ
rewritten flagged (Table k) = (layout_of flagged).table_letters ++ (k ∷ [])
rewritten flagged (Cell n key t) = text "CL" ++ (pair_bytes n ++ (pair_bytes key ++ (layout_of flagged).total_bytes t))
rewritten flagged (Operation kind key t) = text "OP" ++ (kind ∷ (pair_bytes key ++ (layout_of flagged).total_bytes t))
rewritten flagged (Schedule s) = []

-- the records of a file of one width, as another has them
unfoldable pub result_of : Bool → Bool → List ℕ → List ℕ
result_of from to file = file_of (layout_of to) (file_records (layout_of from) file)
