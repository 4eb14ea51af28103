-- Must be believed: what `run` and `report` promise rests on it.
-- Document 01, "Where a call is turned away": the run's refusals 1 to 8, a list of conditions in table order. Of the words of a call, of any
-- width; 7 and 8 are about the cells that they stand for.
-- Assumes nothing.
use Rattle.std.specs.Prelude.{ℕ, ◌+◌, ◌-◌, ◌%◌, Bool, false, cond, not, ◌||◌, List, [], ◌∷◌, ◌++◌, map, leb, ltb, length, get_or}
use Rattle.semantics.specs.Basics.{is_some, first_below, some_below}
use Rattle.semantics.specs.declared.Refusal.{Refusal}
use Rattle.semantics.specs.Cells.{Setting, Cell, empty, tombstone, live, keyed, is_empty}
use Rattle.semantics.specs.Step.{place_of}
use Rattle.semantics.specs.Words.{Width, size_allowed, decode, setting_of}

-- a row of the refusal table: its number, whether its condition is met, and the place
pub record Condition : Type 0 where
  pub number : ℕ
  pub met : Bool
  pub place : ℕ

-- "The first condition met, in table order within each entry point, decides. .. An accepted call gives number 0 and place 0."
unfoldable pub first_met : List Condition → Refusal
first_met [] = record { number = 0; place = 0 }
first_met (c ∷ more) = cond c.met (record { number = c.number; place = c.place }) (first_met more)

-- a condition of one of n elements: its place is the first such element
unfoldable pub at_first : ℕ → ℕ → (ℕ → Bool) → Condition
at_first number n test = record { number = number; met = some_below n test; place = first_below n test }

-- what a run is called with: the cells, the operations, the schedule, and how long the slices for answers and log are
pub record Call : Type 0 where
  pub cells : List ℕ
  pub operations : List ℕ
  pub schedule : List ℕ
  pub answers_length : ℕ
  pub log_length : ℕ

-- the call that the lent slices, and the lengths of those for answers and log, make
abbrev pub call_of : List ℕ → List ℕ → List ℕ → ℕ → ℕ → Call
call_of cells operations schedule answers log =
    record { cells = cells; operations = operations; schedule = schedule; answers_length = answers; log_length = log }

-- "there are at most 64" rows; "The schedule is a lent slice of bytes, at most 16,384"
abbrev pub most_operations : ℕ
most_operations = 64

abbrev pub most_entries : ℕ
most_entries = 16384

-- whether cell i is live and its key "also in a lower cell"
module _ {T : Type 0} (cells : List (Cell T)) (i : ℕ) where
  unfoldable pub stands_lower : Cell T → Bool
  stands_lower empty = false
  stands_lower tombstone = false
  stands_lower (live k t) = some_below i (λ j. is_some (keyed k (get_or cells j empty)))

  unfoldable pub is_repeated : Bool
  is_repeated = stands_lower (get_or cells i empty)

-- whether cell i is "a live key's cell with an empty cell before it, counting from its home, home included"
module _ (S : Setting) (cells : List (Cell S.Total)) (i : ℕ) where
  unfoldable pub is_cut_off : Cell S.Total → Bool
  is_cut_off empty = false
  is_cut_off tombstone = false
  is_cut_off (live k t) =
      let distance = (i + S.size - S.home k) % S.size in
      some_below distance (λ d. is_empty (get_or cells (place_of S k d) empty))

  unfoldable pub is_unreachable : Bool
  is_unreachable = is_cut_off (get_or cells i empty)

module _ (call : Call) where
  -- 1: "c not allowed"
  unfoldable pub size_not_allowed : Condition
  size_not_allowed = record { number = 1; met = not (size_allowed (length call.cells)); place = 0 }

  -- 2: "over 64 rows or 16,384 entries"
  unfoldable pub too_many : Condition
  too_many =
      record {
        number = 2;
        met = ltb most_operations (length call.operations) || ltb most_entries (length call.schedule);
        place = 0;
      }

  -- 3: "answers or log shorter than the rows"
  unfoldable pub too_short : Condition
  too_short =
      record {
        number = 3;
        met = ltb call.answers_length (length call.operations) || ltb call.log_length (length call.operations);
        place = 0;
      }

  -- 6: "entry not below the number of rows", at the first such entry
  unfoldable pub bad_entry : Condition
  bad_entry = at_first 6 (length call.schedule) (λ i. leb (length call.operations) (get_or call.schedule i 0))

  -- the conditions in table order, by the table's first column: "run, slices"
  abbrev pub slices_conditions : List Condition
  slices_conditions = size_not_allowed ∷ too_many ∷ too_short ∷ []

-- those that look into the words of a width
module _ (W : Width) (call : Call) where
  -- 4: "key 0 or 65,535 with a total other than 0", at the first such cell
  unfoldable pub bad_cell : Condition
  bad_cell = at_first 4 (length call.cells) (λ i. not (W.cell_allowed (get_or call.cells i 0)))

  -- 5: "a row not as above, or bits above the kind set", at the first such row
  unfoldable pub bad_operation : Condition
  bad_operation = at_first 5 (length call.operations) (λ i. not (W.operation_allowed (get_or call.operations i 0)))

  -- 7: "live key also in a lower cell", at the lowest such cell
  unfoldable pub repeated_key : Condition
  repeated_key = at_first 7 (length call.cells) (is_repeated (map (decode W) call.cells))

  -- 8: "a live key's cell with an empty cell before it, counting from its home, home included", at the lowest such live cell
  unfoldable pub unreachable_key : Condition
  unreachable_key = at_first 8 (length call.cells) (is_unreachable (setting_of W (length call.cells)) (map (decode W) call.cells))

  -- then "run, words" and "run, whole table"
  abbrev pub words_conditions : List Condition
  words_conditions = bad_cell ∷ bad_operation ∷ bad_entry call ∷ []

  abbrev pub table_conditions : List Condition
  table_conditions = repeated_key ∷ unreachable_key ∷ []

  unfoldable pub run_conditions : List Condition
  run_conditions = slices_conditions call ++ words_conditions ++ table_conditions

  unfoldable pub run_refusal : Refusal
  run_refusal = first_met run_conditions
