-- Must be believed: what `report` promises rests on it.
-- Document 01, "A run in full": the text of a run, or of a refusal, at any width.
-- Assumes nothing.
use Rattle.std.specs.Prelude.{ℕ, min, cond, List, [], ◌∷◌, ◌++◌, eqb, length, get_or}
use Rattle.semantics.specs.declared.Outcome.{Outcome}
use Rattle.semantics.specs.declared.Total.{Total}
use Rattle.semantics.specs.Cells.{tombstone}
use Rattle.semantics.specs.Words.{Width, encode}
use Rattle.semantics.specs.Text.{text, decimal, texts_below}

-- "The kind is 1 find, 2 insert, 3 update, 4 add, 5 remove." No other number has a word.
abbrev pub kind_words : List (List ℕ)
kind_words = [] ∷ text "find" ∷ text "insert" ∷ text "update" ∷ text "add" ∷ text "remove" ∷ []

unfoldable pub kind_word : ℕ → List ℕ
kind_word n = get_or kind_words n []

-- "Codes: 0 unfinished, 1 found, 2 inserted, 3 present, 4 changed, 5 removed, 6 absent, 7 full." "capped (code 8)" (document 02, "A1"). "held (code
-- 9)" (document 02, "A6"). No other code has a word.
abbrev pub code_words : List (List ℕ)
code_words =
    text "unfinished"
    ∷ text "found"
    ∷ text "inserted"
    ∷ text "present"
    ∷ text "changed"
    ∷ text "removed"
    ∷ text "absent"
    ∷ text "full"
    ∷ text "capped"
    ∷ text "held"
    ∷ []

unfoldable pub code_word : ℕ → List ℕ
code_word n = get_or code_words n []

-- How a total is written, which is what widths differ in beside their layouts. Narrow: "A total or amount of 65,535 is written pinned." Wide
-- (document 02): "a wide pinned total or amount as `atleast N`".
unfoldable pub narrow_text : Total → List ℕ
narrow_text t = cond t.saturated (text "pinned") (decimal t.amount)

unfoldable pub wide_text : Total → List ℕ
wide_text t = cond t.saturated (text "atleast " ++ decimal t.amount) (decimal t.amount)

-- "Lines end in byte 10."
abbrev pub line_end : List ℕ
line_end = text "\n"

-- "A refusal is one line, `refused 8 at 5`."
unfoldable pub refusal_text : ℕ → ℕ → List ℕ
refusal_text number place = text "refused " ++ decimal number ++ text " at " ++ decimal place ++ line_end

-- "Fields: counts"
unfoldable pub counts_text : ℕ → Outcome → List ℕ
counts_text rows o =
    text "rows " ++ decimal rows ++ text " done " ++ decimal o.done ++ text " lost " ++ decimal o.lost ++ text " idle "
    ++ decimal o.idle ++ line_end

-- "the log (the word alone if nobody finished)": its first bytes, one for each finished row
unfoldable pub log_text : ℕ → List ℕ → List ℕ
log_text done log = text "log" ++ texts_below (min done (length log)) (λ i. text " " ++ decimal (get_or log i 0)) ++ line_end

module _ (W : Width) (total_text : Total → List ℕ) where
  -- "then row number, kind, key, amount, answer, its total"
  unfoldable pub operation_text : ℕ → ℕ → List ℕ
  operation_text i operation =
      text "row " ++ decimal i ++ text " " ++ kind_word (W.kind_bits operation) ++ text " " ++ decimal (W.operation_key operation) ++ text " "
      ++ total_text (W.amount_in operation)

  unfoldable pub answer_text : ℕ → List ℕ
  answer_text answer = text " " ++ code_word (W.answer_code answer) ++ text " " ++ total_text (W.answer_total answer)

  unfoldable pub row_text : ℕ → ℕ → ℕ → List ℕ
  row_text i operation answer = operation_text i operation ++ answer_text answer ++ line_end

  -- "then each non-empty cell with key and total, a tombstone as `cell 4 gone`"
  unfoldable pub contents_text : ℕ → List ℕ
  contents_text w = cond (eqb w (encode W tombstone)) (text " gone") (text " " ++ decimal (W.key_of w) ++ text " " ++ total_text (W.total_in w))

  unfoldable pub cell_text : ℕ → ℕ → List ℕ
  cell_text i w = cond (eqb w 0) [] (text "cell " ++ decimal i ++ contents_text w ++ line_end)

  module _ (outcome : Outcome) (operations answers log cells : List ℕ) where
    unfoldable pub run_text : List ℕ
    run_text =
        counts_text (length operations) outcome ++ texts_below (length operations) (λ i. row_text i (get_or operations i 0) (get_or answers i 0))
        ++ log_text outcome.done log ++ texts_below (length cells) (λ i. cell_text i (get_or cells i 0))

    -- the text of what a run returned, with its operations and what it left
    unfoldable pub listing : List ℕ
    listing = cond (eqb outcome.number 0) run_text (refusal_text outcome.number outcome.place)
