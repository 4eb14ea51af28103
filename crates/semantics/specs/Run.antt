-- Must be believed: what `run` and `report` promise rests on it.
-- Document 01, "What one step does" and "Where a call is turned away", on words: what a call of the run returns, and what each lent slice
-- holds after it, for every call, at any width.
-- Assumes nothing.
use Rattle.std.specs.Prelude.{ℕ, Bool, true, false, List, ◌++◌, map, eqb, length, drop}
use Rattle.semantics.specs.declared.Refusal.{Refusal}
use Rattle.semantics.specs.declared.Outcome.{Outcome}
use Rattle.semantics.specs.declared.Total.{Total}
use Rattle.semantics.specs.Step.{Machine, Row, run, answered, done_count}
use Rattle.semantics.specs.Words.{Width, decode, encode, decode_operation, answer_word, setting_of}
use Rattle.semantics.specs.Refusals.{call_of, run_refusal}

-- what a run leaves: the returned record, and each lent slice
pub record Result : Type 0 where
  pub outcome : Outcome
  pub cells : List ℕ
  pub answers : List ℕ
  pub log : List ℕ

-- "The first answers, one per row, and the first log bytes, one per finished row, are written; later elements keep their contents."
unfoldable pub over : {A : Type 0} → List A → List A → List A
over written old = written ++ drop (length written) old

-- "The run returns done, lost and idle."
abbrev pub made_outcome : ℕ → ℕ → ℕ → Outcome
made_outcome done lost idle = record { number = 0; place = 0; done = done; lost = lost; idle = idle }

unfoldable pub outcome_of : Machine Total → Outcome
outcome_of m = made_outcome (done_count m.rows) m.lost m.idle

-- "The result is the number and a place; all counts are 0 and nothing lent is altered."
abbrev pub refused_outcome : ℕ → ℕ → Outcome
refused_outcome number place = record { number = number; place = place; done = 0; lost = 0; idle = 0 }

unfoldable pub refused_result : Refusal → List ℕ → List ℕ → List ℕ → Result
refused_result r cells answers log =
    record { outcome = refused_outcome r.number r.place; cells = cells; answers = answers; log = log }

module _ (W : Width) where
  -- the run of packed cells and operations
  unfoldable pub machine : List ℕ → List ℕ → List ℕ → Machine Total
  machine cells operations schedule =
      run (setting_of W (length cells)) (map (decode W) cells) (map (decode_operation W) operations) schedule

  unfoldable pub answer_of : Row Total → ℕ
  answer_of r = answer_word W (answered r.state)

  unfoldable pub accepted_result : Machine Total → List ℕ → List ℕ → Result
  accepted_result m answers log =
      record {
        outcome = outcome_of m;
        cells = map (encode W) m.cells;
        answers = over (map answer_of m.rows) answers;
        log = over m.log log;
      }

  module _ (cells operations schedule answers log : List ℕ) where
    abbrev pub refusal_of : Refusal
    refusal_of = run_refusal W (call_of cells operations schedule (length answers) (length log))

    unfoldable pub result_if : Bool → Result
    result_if true = accepted_result (machine cells operations schedule) answers log
    result_if false = refused_result refusal_of cells answers log

    -- "An accepted call gives number 0 and place 0."
    unfoldable pub run_result : Result
    run_result = result_if (eqb refusal_of.number 0)
