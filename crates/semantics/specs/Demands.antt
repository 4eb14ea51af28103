-- Must be believed, and read first: it is all that `run` and `run_wide` promise.
-- The theorem on one page: demands 1 to 3, of a call of the run and of what it leaves, at the end and after any number of its entries, at any
-- width.
-- `run::run` promises `Demands` of its own slices, for every call, at the narrow width, and `run::run_wide` at the wide one; proofs/DemandsHold.antt
-- proves it. That no call faults or runs for ever is what the prover checks of every function.
-- Assumes nothing.
use Rattle.std.specs.Prelude.{◌≡◌, ℕ, ◌+◌, ◌≤◌, ◌<◌, List, map, T, length, get_or, take}
use Rattle.std.proofs.Math.Option.{some}
use Rattle.semantics.specs.Basics.{occurs}
use Rattle.semantics.specs.declared.Total.{Total}
use Rattle.semantics.specs.Cells.{Setting, Cell, empty, Operation, keyed, lookup, used_cells}
use Rattle.semantics.specs.Map.{Replay, replay}
use Rattle.semantics.specs.TotalsRule.{only_finds_and_adds, CellsSuffice, expected}
use Rattle.semantics.specs.Words.{Width, decode, decode_operation, answer_word, setting_of}
use Rattle.semantics.specs.Run.{Result, machine, accepted_result, refusal_of, refused_result, run_result}

-- a result's log: the first bytes of its slice, one for each operation that has finished
abbrev pub log_of : Result → List ℕ
log_of r = take r.outcome.done r.log

-- what the words of a width stand for: cells, and operations
abbrev pub cells_of : Width → List ℕ → List (Cell Total)
cells_of W cells = map (decode W) cells

abbrev pub operations_of : Width → List ℕ → List (Operation Total)
operations_of W operations = map (decode_operation W) operations

module _ (W : Width) (cells operations : List ℕ) where
  -- the table's size, homes and sums
  abbrev pub table : Setting
  table = setting_of W (length cells)

  -- "a one-at-a-time map doing the finished operations in log order"
  unfoldable pub replay_of : List ℕ → Replay Total
  replay_of log = replay table (cells_of W cells) (operations_of W operations) log

  -- Demand 2, of the result r that some entries have come to.
  pub record Linearizable (r : Result) : Type 0 where
    -- "Each finished answer, and the live pairs, are those of a one-at-a-time map doing the finished operations in log order."
    pub answers : map (λ i. get_or r.answers i 0) (log_of r) ≡ map (λ a. answer_word W (some a)) (replay_of (log_of r)).answers
    pub pairs : (k : ℕ) → lookup k (cells_of W r.cells) ≡ (replay_of (log_of r)).now.pairs k
    -- and the map's number of used cells is that of the cells not empty
    pub used : used_cells (cells_of W r.cells) ≡ (replay_of (log_of r)).now.used
    -- the log names operations, none of them twice; one that it does not name is unfinished, with answer 0
    pub named : (i : ℕ) → 0 < occurs i (log_of r) → i < length operations
    pub once : (i : ℕ) → occurs i (log_of r) ≤ 1
    pub unfinished : (i : ℕ) → i < length operations → occurs i (log_of r) ≡ 0 → get_or r.answers i 0 ≡ 0
    -- "No room has two live cells."
    pub distinct : (k i j : ℕ) (t u : Total) → keyed k (get_or (cells_of W r.cells) i empty) ≡ some t
        → keyed k (get_or (cells_of W r.cells) j empty) ≡ some u → i ≡ j

  -- Demand 3, of the result r of a whole schedule. "Nobody who picks the schedule can change a total." "It is a single claim about the whole
  -- schedule and not one for each step." With only finds and adds, every operation finished ("so that done equals the number of rows") and
  -- cells that suffice, each room has in "the final cells .. as the run leaves them" its starting total and all amounts added to it, summed
  -- as whole numbers before the sum is held; or it is not there.
  unfoldable pub TotalsKept : Result → Type 0
  TotalsKept r =
      T (only_finds_and_adds (operations_of W operations))
      → r.outcome.done ≡ length operations
      → CellsSuffice table (cells_of W cells) (operations_of W operations)
      → (k : ℕ) → lookup k (cells_of W r.cells) ≡ expected table (cells_of W cells) (operations_of W operations) k

-- "An unfinished operation has changed no cell", where `after k` is what k entries of the schedule have come to: if n entries have left the
-- operation unfinished that entry k before them names, that entry left every cell as it was.
unfoldable pub Untouched : List ℕ → (ℕ → Result) → Type 0
Untouched schedule after =
    (n k : ℕ) → k < n → k < length schedule → occurs (get_or schedule k 0) (log_of (after n)) ≡ 0 → (after (k + 1)).cells ≡ (after k).cells

module _ (W : Width) (cells operations schedule answers log : List ℕ) where
  -- what the first k entries come to: the result of a call with those alone. With k the schedule's length, or more, it is that of all. On the
  -- way there the slices hold the same after k entries: `run::take` and `run::take_entry` promise it, in their clauses holds.
  abbrev pub after_entries : ℕ → Result
  after_entries k = run_result W cells operations (take k schedule) answers log

  -- Demands 2 and 3, of a call that is not turned away and its result r.
  pub record AcceptedCall (r : Result) : Type 0 where
    -- "After any number of steps, cells, answers and log are those of the rules in document 01": what begins an accepted call's schedule is
    -- accepted too, and leaves what the rules have come to after that many entries
    pub rules : (k : ℕ) → after_entries k ≡ accepted_result W (machine W cells operations (take k schedule)) answers log
    pub linearizable : (k : ℕ) → Linearizable W cells operations (after_entries k)
    pub untouched : Untouched schedule after_entries
    pub totals : TotalsKept W cells operations r

  -- All that a run promises of a call with these slices and its result r.
  pub record Demands (r : Result) : Type 0 where
    -- "These sentences determine the returned record and each element of each lent slice for every input."
    pub result : run_result W cells operations schedule answers log ≡ r
    -- Demand 1. "A refusal carries the number and place set in document 01, and every lent slice then holds what it held."
    pub refused : (r.outcome.number ≡ 0 → ⊥) → r ≡ refused_result (refusal_of W cells operations schedule answers log) cells answers log
    pub accepted : r.outcome.number ≡ 0 → AcceptedCall r
