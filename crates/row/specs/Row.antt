-- Must be believed of the promises of row, of run::take and of run::take_entry alone: what `run` and `report` promise rests on semantics/specs.
-- On the records of the code: how a record turns, and what one step leaves. The rules are those of semantics/specs/Step.antt.
-- Assumes nothing.
use Rattle.std.specs.Prelude.{ℕ, suc, not, ◌+◌, ◌%◌, Bool, true, false, cond, ◌&&◌, eqb, ltb, Option, Some, None}
use Rattle.semantics.specs.declared.Total.{Total}
use Rattle.semantics.specs.declared.rules.Bounds.{Bounds}
use Rattle.semantics.specs.declared.values.Cell.{Cell}
use Rattle.semantics.specs.declared.values.Held.{Held}
use Rattle.semantics.specs.declared.values.Turn.{Turn}
use Rattle.semantics.specs.declared.values.Turn.TheVariants.{Passes, Holds, Loses, Finishes}
use Rattle.semantics.specs.declared.values.Pending.{Pending}
use Rattle.semantics.specs.declared.values.Pending.TheVariants as pending
use Rattle.semantics.specs.declared.values.Stepped.{Stepped}
use Rattle.semantics.specs.declared.values.Operation.{Operation}
use Rattle.semantics.specs.Step.{step, State, pending as unfinished, finished}
use Rattle.semantics.specs.Words.{home_in}
use Rattle.semantics.specs.Rules.{setting_in}
use Rattle.row.specs.declared.Row.{Row}
use Rattle.row.specs.declared.Record.{Record}
use Rattle.row.specs.declared.Stage.{Stage}
use Rattle.row.specs.declared.Stage.TheVariants.{Reading, Holding, Finished}

-- "The cell after c − 1 is cell 0."
abbrev pub following : ℕ → ℕ → ℕ
following c i = cond (eqb (i + 1) c) 0 (i + 1)

-- "A row's record turns in one of four ways: it passes to the following cell, holds a word it has seen, loses its swap, or finishes."
abbrev pub passing : ℕ → Record → Record
passing c r = record { at = following c r.at; passed = r.passed + 1; stage = Reading }

abbrev pub holding_word : Record → Held Total → Record
holding_word r h = record { at = r.at; passed = r.passed; stage = Holding h }

abbrev pub losing : Record → Record
losing r = record { at = r.at; passed = r.passed; stage = Reading }

abbrev pub finishing : Record
finishing = record { at = 0; passed = 0; stage = Finished }

abbrev pub turned : ℕ → Record → Turn Total → Record
turned c r Passes = passing c r
turned c r (Holds h) = holding_word r h
turned c r Loses = losing r
turned c r (Finishes a) = finishing

-- where it stands in the rules
abbrev pub standing : ℕ → Stage → Option (Pending Total)
standing p Reading = Some (pending.Reading p)
standing p (Holding h) = Some (pending.Holding p h)
standing p Finished = None

abbrev pub pending_of : Record → Option (Pending Total)
pending_of r = standing r.passed r.stage

abbrev pub is_within : ℕ → Record → Bool
is_within c r = ltb r.at c && ltb r.passed c

-- the pass of a record within the table, whatever its stage; any other stays
abbrev pub passed_on : ℕ → Record → Record
passed_on c r = cond (is_within c r) (passing c r) r

-- a step is that of the rules, of a record within the table that has not finished
abbrev pub step_if : Bool → Bounds → Row → Cell Total → Option (Pending Total) → Option (Stepped Total)
step_if false b r x s = None
step_if true b r x None = None
step_if true b r x (Some s) = Some (step (setting_in b) r.operation s x)

abbrev pub step_taken : Bounds → Row → Cell Total → Option (Stepped Total)
step_taken b r x = step_if (is_within b.cells r.progress) b r x (pending_of r.progress)

-- and the record turns as the step says
abbrev pub turned_by : ℕ → Record → Option (Stepped Total) → Record
turned_by c r None = r
turned_by c r (Some s) = turned c r s.turn

abbrev pub after_step : Bounds → Row → Cell Total → Row
after_step b r x = record { operation = r.operation; progress = turned_by b.cells r.progress (step_taken b r x) }

-- the record of a row of the rules, in c cells: it stands p cells after its key's home, or has finished
abbrev pub place : ℕ → ℕ → ℕ → ℕ
place c k p = (home_in c k + p) % c

abbrev pub record_of : ℕ → ℕ → State Total → Record
record_of c k (unfinished (pending.Reading p)) = record { at = place c k p; passed = p; stage = Reading }
record_of c k (unfinished (pending.Holding p h)) = record { at = place c k p; passed = p; stage = Holding h }
record_of c k (finished a) = finishing

abbrev pub row_of : ℕ → Operation Total → State Total → Row
row_of c o s = record { operation = o; progress = record_of c o.key s }

-- whether a row holds a word for the swap
abbrev pub is_holding : Stage → Bool
is_holding Reading = false
is_holding (Holding h) = true
is_holding Finished = false

-- whether a step at a cell of this key is told to be a pass by the key alone
abbrev pub is_reading : Stage → Bool
is_reading Reading = true
is_reading (Holding h) = false
is_reading Finished = false

abbrev pub skims : ℕ → Row → ℕ → Bool
skims c r key =
    is_reading r.progress.stage
    && (not (eqb key 0) && (not (eqb key r.operation.key) && (ltb r.progress.at c && ltb (suc r.progress.passed) c)))

abbrev pub skimmed : ℕ → Row → Row
skimmed c r = record { operation = r.operation; progress = passing c r.progress }
