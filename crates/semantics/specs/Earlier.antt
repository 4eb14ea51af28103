-- An aid, not to be believed: what calls give by any test of a table's size, all else being as the other files say. By `size_allowed` it is what
-- those files say, and by the sizes of document 01 what they said before document 02, "A2"; so "Runs accepted before give the same results" is
-- an equation. proofs/Earlier.antt proves both.
-- Assumes nothing.
use Rattle.std.specs.Prelude.{ℕ, ◌+◌, ◌^◌, Bool, cond, not, ◌&&◌, eqb, length, replicate}
use mathlib.Core.List.{List, [], ◌∷◌, ◌++◌, foldl}
use Rattle.semantics.specs.declared.Refusal.{Refusal}
use Rattle.semantics.specs.declared.Mark.{Mark}
use Rattle.semantics.specs.declared.Position.{Position}
use Rattle.semantics.specs.Words.{Width, is_power_from, home_in, is_live_key}
use Rattle.semantics.specs.Refusals.{Condition, first_met, call_of, too_many, too_short, words_conditions, table_conditions, most_operations, most_entries}
use Rattle.semantics.specs.Run.{Result, machine, accepted_result, refused_result}
use Rattle.semantics.specs.Records.{Format, records, record_conditions}
use Rattle.semantics.specs.RunFile.{Layout, layout_of, row, byte_at, mark_at, mark_cut, mark_wrong, body_cut, one_too_many, next_of}
use Rattle.semantics.specs.RunFile.{Contents, start, most_cells, slice_conditions, file_too_long, load, Reading, accepted_reading, refused_reading}
use Rattle.semantics.specs.Listing.{refusal_text}
use Rattle.semantics.specs.Widths.{width_of, text_of}
use Rattle.semantics.specs.Response.{listed}

-- document 01: "Their number c is a power of two from 8 to 4,096."; "TB: one byte k, 3 to 12"
unfoldable pub earlier_size : ℕ → Bool
earlier_size c = is_power_from 3 10 c

module _ (allowed : ℕ → Bool) where
  -- in place of `Narrow.room_home`
  unfoldable pub home_by : ℕ → ℕ → ℕ
  home_by k c = cond (allowed c && is_live_key k) (home_in c k) 65535

  -- in place of `Run.refusal_of`, whose first condition is another, and of `Run.run_result`
  module _ (W : Width) (cells operations schedule answers log : List ℕ) where
    unfoldable pub refusal_by : Refusal
    refusal_by =
        let call = call_of cells operations schedule (length answers) (length log) in
        let size_not_allowed : Condition = record { number = 1; met = not (allowed (length cells)); place = 0 } in
        first_met ((size_not_allowed ∷ too_many call ∷ too_short call ∷ []) ++ words_conditions W call ++ table_conditions W call)

    unfoldable pub result_by : Result
    result_by =
        cond (eqb refusal_by.number 0) (accepted_result W (machine W cells operations schedule) answers log)
        (refused_result refusal_by cells answers log)

  module _ (L : Layout) where
    -- in place of `RunFile.body_wrong`: another test of a TB, the only mark of the first part
    unfoldable pub body_wrong_by : List ℕ → Position → Mark → Condition
    body_wrong_by file p m =
        record {
          number = 11;
          met = cond (eqb (row L m).part 1) (not (allowed (2 ^ byte_at file (p.at + 2)))) ((row L m).is_wrong file p);
          place = p.at;
        }

    -- in place of `RunFile.conditions_at` and `RunFile.run_file`
    unfoldable pub conditions_by : List ℕ → Position → List Condition
    conditions_by file p =
        let m = mark_at L file p.at in
        mark_cut L file p ∷ mark_wrong L file p m ∷ body_cut L file p m ∷ body_wrong_by file p m ∷ one_too_many L file p m ∷ []

    abbrev pub file_by : Format
    file_by = record { Place = Position; offset = λ p. p.at; conditions = conditions_by; next = next_of L }

    -- in place of `RunFile.reader_refusal`, `RunFile.contents` and `RunFile.reading`
    module _ (file : List ℕ) where
      unfoldable pub reader_refusal_by : ℕ → ℕ → ℕ → Refusal
      reader_refusal_by cells operations schedule =
          first_met
          (slice_conditions cells operations schedule ++ (file_too_long file ∷ record_conditions file_by file (records file_by file start)))

      unfoldable pub contents_by : Contents
      contents_by = foldl (load L file) (record { cells = []; operations = []; schedule = [] }) (records file_by file start)

      unfoldable pub reading_by : List ℕ → List ℕ → List ℕ → Reading
      reading_by cells operations schedule =
          let refusal : Refusal = reader_refusal_by (length cells) (length operations) (length schedule) in
          cond (eqb refusal.number 0) (accepted_reading contents_by cells operations schedule) (refused_reading refusal cells operations schedule)

  -- in place of `Response.response_in`
  unfoldable pub response_by : Bool → List ℕ → List ℕ
  response_by wide file =
      let refusal : Refusal = reader_refusal_by (layout_of wide) file most_cells most_operations most_entries in
      let h : Contents = contents_by (layout_of wide) file in
      let slice : List ℕ = replicate most_operations 0 in
      cond (eqb refusal.number 0)
      (listed (width_of wide) (text_of wide) h.operations (result_by (width_of wide) h.cells h.operations h.schedule slice slice))
      (refusal_text refusal.number refusal.place)
