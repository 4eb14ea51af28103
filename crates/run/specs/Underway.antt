-- Must be believed of the clauses holds of run::take and run::take_entry alone, down to Due, and the rest of proofs/Loop.antt's
-- every-beginning: what `run` and `report` promise rests on semantics/specs.
-- "After every entry the slice holds what a run ending there leaves". A run that has taken some entries of its schedule, at any width: what
-- stands in its slices, and what it keeps beside them to go on with.
-- Assumes nothing.
use Rattle.std.specs.Prelude.{◌≡◌, ℕ, zero, suc, ◌+◌, ◌≤◌, ◌<◌, false, List, map, length, get_or, set, replicate, take}
use Rattle.std.specs.Int.Count.{ones}
use Rattle.semantics.specs.declared.Total.{Total}
use Rattle.semantics.specs.declared.rules.Bounds.{Bounds}
use Rattle.semantics.specs.Step.{Row as RuleRow, Machine, finished_in}
use Rattle.semantics.specs.Sets.{is_in}
use Rattle.semantics.specs.Words.{Width}
use Rattle.semantics.specs.Run.{Result, over, made_outcome, machine, refusal_of}
use Rattle.semantics.specs.Demands.{after_entries}
use Rattle.row.specs.declared.Row.{Row}
use Rattle.row.specs.Row.{row_of}
use Rattle.run.specs.declared.Taken.{Taken}
use Rattle.run.specs.Rows.{blank_rows, no_row, first_rows}
use Rattle.run.specs.Entry.{Standing, after_step_of, after_entry, stands, lost_by, idle_by}

-- a call of the run, by the numbers of its words
pub record Call : Type 0 where
  pub cells : List ℕ
  pub operations : List ℕ
  pub schedule : List ℕ
  pub answers : List ℕ
  pub log : List ℕ

-- one of words, whatever their type
abbrev pub numbered : {A : Type 0} → (A → ℕ) → List A → List ℕ → List ℕ → List A → List ℕ → Call
numbered number cells operations schedule answers log =
    record { cells = map number cells; operations = operations; schedule = schedule; answers = map number answers; log = log }

-- what stands in the slices, and the counts, as a result
abbrev pub result_of : Standing → Result
result_of s = record { outcome = made_outcome (ones s.finished) s.lost s.idle; cells = s.cells; answers = s.answers; log = s.log }

-- a row of the rules, as the code keeps it in c cells
abbrev pub row_in : ℕ → RuleRow Total → Row
row_in c r = row_of c r.operation r.state

-- in words of one width
module _ (W : Width) (b : Call) where
  -- "what a run ending there leaves": the result of a call with the first k entries alone
  abbrev pub ending_after : ℕ → Result
  ending_after = after_entries W b.cells b.operations b.schedule b.answers b.log

  abbrev pub IsAccepted : Type 0
  IsAccepted = (refusal_of W b.cells b.operations b.schedule b.answers b.log).number ≡ 0

  -- what the rules have come to by then
  abbrev pub machine_after : ℕ → Machine Total
  machine_after k = machine W b.cells b.operations (take k b.schedule)

  -- a call that is not turned away has taken k entries, of which some were idle
  pub record Underway (k : ℕ) (s : Standing) : Type 0 where
    pub accepted : IsAccepted
    -- "the slice holds what a run ending there leaves": every element of cells, answers and log, past those that are written too
    pub holds : ending_after k ≡ result_of s
    -- it goes on with each row, and the set of those that have finished
    pub rows_are : s.rows ≡ over (map (row_in (length b.cells)) (machine_after k).rows) blank_rows
    pub finished-are : (i : ℕ) → is_in s.finished i ≡ finished_in (machine_after k).rows i
    -- no entry is counted twice
    pub few : s.lost + s.idle ≤ k

  -- entry k names row i, finished or not; and the bounds of the steps
  pub record Due (bounds : Bounds) (k i : ℕ) : Type 0 where
    pub left : k < length b.schedule
    pub names : i ≡ get_or b.schedule k 0
    pub limits : bounds ≡ record { ceiling = W.ceiling; cells = length b.cells }

  -- so a run goes: once all checks are past every row's 0 goes to the lent slice, then each answer at the step that finishes its row. Where it
  -- stands after k entries.
  abbrev pub first_standing : Standing
  first_standing = stands b.cells (over (replicate (length b.operations) 0) b.answers) b.log 0 (first_rows W (length b.cells) b.operations) 0 0

  unfoldable pub standing_after : ℕ → Standing
  standing_after zero = first_standing
  standing_after (suc k) = after_entry W (record { ceiling = W.ceiling; cells = length b.cells }) (get_or b.schedule k 0) (standing_after k)

-- An entry that names row i, on slices and a row, whatever the other rows and the counts: it leaves what `after_entry` says; so what k entries
-- of a call left is then what k + 1 leave.
abbrev pub Keeps : Width → Bounds → ℕ → (List Row → ℕ → ℕ → Standing) → (List Row → ℕ → ℕ → Standing) → Row → Row → Taken → Type 0
Keeps W bounds i before after row row' t =
    (rows : List Row) (lost idle : ℕ) → row ≡ get_or rows i no_row
    → let was = before rows lost idle in
    let is = after (set rows i row') (lost + lost_by t) (idle + idle_by t) in
    (after_entry W bounds i was ≡ is) × ((b : Call) (k : ℕ) → Due W b bounds k i → Underway W b k was → Underway W b (k + 1) is)

-- The step that an entry takes of row i, whatever the set of finished rows has: it leaves what `after_step_of` says; so where row i has not
-- finished, what k entries of a call left is then what k + 1 leave.
abbrev pub KeepsStep : Width → Bounds → ℕ → (List Row → ℕ → ℕ → Standing) → (List Row → ℕ → ℕ → Standing) → Row → Row → Taken → Type 0
KeepsStep W bounds i before after row row' t =
    (rows : List Row) (lost idle : ℕ) → row ≡ get_or rows i no_row
    → let was = before rows lost idle in
    let is = after (set rows i row') (lost + lost_by t) (idle + idle_by t) in
    (after_step_of W bounds i was ≡ is)
    × ((b : Call) (k : ℕ) → Due W b bounds k i → is_in was.finished i ≡ false → Underway W b k was → Underway W b (k + 1) is)
