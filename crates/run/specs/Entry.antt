-- Must be believed of the promises of run::take, run::take_entry and run::clear alone: what `run` and `report` promise rests on semantics/specs.
-- What one entry of a schedule leaves, on the words of a table of any width and the rows of the code. The step is that of row/specs/Row.antt.
-- Assumes nothing.
use Rattle.std.specs.Prelude.{ℕ, ◌+◌, min, Bool, true, false, cond, List, length, get_or, set, replicate, Option, Some, None}
use Rattle.std.specs.Int.Count.{ones}
use Rattle.semantics.specs.declared.Total.{Total}
use Rattle.semantics.specs.declared.rules.Bounds.{Bounds}
use Rattle.semantics.specs.declared.values.Cell.{Cell}
use Rattle.semantics.specs.declared.values.Answer.{Answer}
use Rattle.semantics.specs.declared.values.Turn.{Turn}
use Rattle.semantics.specs.declared.values.Turn.TheVariants.{Passes, Holds, Loses, Finishes}
use Rattle.semantics.specs.declared.values.Stepped.{Stepped}
use Rattle.semantics.specs.Cells.{code_of, total_of}
use Rattle.semantics.specs.Sets.{is_in, including}
use Rattle.semantics.specs.Words.{Width, carried, decode, encode}
use Rattle.semantics.specs.Run.{over}
use Rattle.word.specs.Fits.{truncated, truncated_cell}
use Rattle.row.specs.declared.Row.{Row}
use Rattle.row.specs.Row.{is_holding, step_taken, after_step}
use Rattle.run.specs.declared.Taken.{Taken}
use Rattle.run.specs.declared.Taken.TheVariants.{Idle, GoesOn, Lost, Finished}
use Rattle.run.specs.Rows.{no_row}

-- the first n words set to 0, as many as there are of those: "all answers written as 0"
abbrev pub cleared : List ℕ → ℕ → List ℕ
cleared words n = over (replicate (min n (length words)) 0) words

-- where a run stands between two entries: the slices, every row, the set of finished rows, the lost swaps and the idle entries
pub record Standing : Type 0 where
  pub cells : List ℕ
  pub rows : List Row
  pub answers : List ℕ
  pub log : List ℕ
  pub finished : ℕ
  pub lost : ℕ
  pub idle : ℕ

-- the cell at a place, an empty one past the last
abbrev pub cell_at : Width → List ℕ → ℕ → Cell Total
cell_at W cells at = decode W (get_or cells at 0)

-- the word of an answer, with the lowest bits of its total
abbrev pub answer_word : Width → Answer Total → ℕ
answer_word W a = W.packed_answer (code_of a) (truncated W (carried (total_of a)))

-- only the swap of a row that holds a word stores: the cell x at its place
abbrev pub stored : Width → Bool → ℕ → Cell Total → List ℕ → List ℕ
stored W holding at x cells = cond holding (set cells at (encode W (truncated_cell W x))) cells

-- what the turn of row i adds, at a cell of which the step leaves x: its answer, its log byte and what it stores, where it finishes; or a lost swap
unfoldable pub told : Width → Bool → ℕ → ℕ → Cell Total → Turn Total → Standing → Standing
told W holding at i x Passes s = s
told W holding at i x (Holds h) s = s
told W holding at i x Loses s =
    record { cells = s.cells; rows = s.rows; answers = s.answers; log = s.log; finished = s.finished; lost = s.lost + 1; idle = s.idle }
told W holding at i x (Finishes a) s =
    record {
      cells = stored W holding at x s.cells;
      rows = s.rows;
      answers = set s.answers i (answer_word W a);
      log = set s.log (ones s.finished) i;
      finished = including s.finished i;
      lost = s.lost;
      idle = s.idle;
    }

abbrev pub told_if : Width → Bool → ℕ → ℕ → Option (Stepped Total) → Standing → Standing
told_if W holding at i None s = s
told_if W holding at i (Some y) s = told W holding at i y.cell y.turn s

-- "One step changes the lent record of one row and at most one cell": row i, and the cell at which it stands
unfoldable pub after_step_of : Width → Bounds → ℕ → Standing → Standing
after_step_of W b i s =
    let r = get_or s.rows i no_row in
    let x = cell_at W s.cells r.progress.at in
    told_if W (is_holding r.progress.stage) r.progress.at i (step_taken b r x)
    (record {
      cells = s.cells;
      rows = set s.rows i (after_step b r x);
      answers = s.answers;
      log = s.log;
      finished = s.finished;
      lost = s.lost;
      idle = s.idle;
    })

-- "An entry that names a finished row is idle": it changes nothing
abbrev pub after_idle : Standing → Standing
after_idle s =
    record { cells = s.cells; rows = s.rows; answers = s.answers; log = s.log; finished = s.finished; lost = s.lost; idle = s.idle + 1 }

unfoldable pub after_entry : Width → Bounds → ℕ → Standing → Standing
after_entry W b i s = cond (is_in s.finished i) (after_idle s) (after_step_of W b i s)

-- what the code says of it: the set of finished rows then, and what it adds to the lost swaps and to the idle entries
abbrev pub finished_by : ℕ → ℕ → Taken → ℕ
finished_by finished i Idle = finished
finished_by finished i GoesOn = finished
finished_by finished i Lost = finished
finished_by finished i Finished = including finished i

abbrev pub lost_by : Taken → ℕ
lost_by Idle = 0
lost_by GoesOn = 0
lost_by Lost = 1
lost_by Finished = 0

abbrev pub idle_by : Taken → ℕ
idle_by Idle = 1
idle_by GoesOn = 0
idle_by Lost = 0
idle_by Finished = 0

-- what an entry is answered with: its row had finished, took no step, or took one, by its turn
abbrev pub taken_by : Turn Total → Taken
taken_by Passes = GoesOn
taken_by (Holds h) = GoesOn
taken_by Loses = Lost
taken_by (Finishes a) = Finished

abbrev pub taken_of : Bool → Option (Stepped Total) → Taken
taken_of true y = Idle
taken_of false None = GoesOn
taken_of false (Some y) = taken_by y.turn

abbrev pub stands : List ℕ → List ℕ → List ℕ → ℕ → List Row → ℕ → ℕ → Standing
stands cells answers log finished rows lost idle =
    record { cells = cells; rows = rows; answers = answers; log = log; finished = finished; lost = lost; idle = idle }
