-- The parts of an operation's line, written one after another, are the line, at any width.
-- Assumes nothing.
use mathlib.Core.Path.{◌≡◌, ap₂}
use Prim.Native.Nat.{ℕ}
use mathlib.Core.List.{List, ◌++◌, append_assoc}
use Rattle.semantics.specs.declared.Total.{Total}
use Rattle.semantics.specs.Words.{Width}
use Rattle.semantics.specs.Text.{text, decimal}
use Rattle.semantics.specs.Listing.{kind_word, code_word, line_end, operation_text, answer_text, row_text}
use Rattle.listing.specs.declared.writer.Writer.{Writer}
use Rattle.listing.specs.Writing.{wrote}
use Rattle.listing.proofs.Writing.{same_text, next, next-labelled}
use Rattle.semantics.proofs.Widths.{amount-there, answer-there}

module _ (W : Width) (total_text : Total → List ℕ) (w : Writer) where
  pub amount-part : {a v : Writer} (operation : ℕ) {key : ℕ} {amount : Total} → key ≡ W.operation_key operation → amount ≡ W.amount_in operation
      → wrote w (text " " ++ decimal key) ≡ a → wrote a (text " " ++ total_text amount) ≡ v
      → wrote w (text " " ++ decimal (W.operation_key operation) ++ text " " ++ total_text (W.amount_in operation)) ≡ v
  amount-part operation {key} {amount} p q e f =
      same_text w (ap₂ (λ (k : ℕ) (t : Total). text " " ++ decimal k ++ text " " ++ total_text t) p q) (next-labelled w _ (text " ") (total_text amount) e f)

  pub operation-part : {a b v : Writer} (i operation : ℕ) {kind : ℕ} → kind ≡ W.kind_bits operation → wrote w (text "row " ++ decimal i) ≡ a
      → wrote a (text " " ++ kind_word kind) ≡ b
      → wrote b (text " " ++ decimal (W.operation_key operation) ++ text " " ++ total_text (W.amount_in operation)) ≡ v
      → wrote w (operation_text W total_text i operation) ≡ v
  unfolding operation_text
  operation-part i operation {kind} p e f g =
      rw (← p) (same_text w (simp append_assoc) (next w _ _ (next-labelled w _ (text " ") (kind_word kind) e f) g))

  pub answer-part : {a v : Writer} (answer : ℕ) {code : ℕ} {total : Total} → code ≡ W.answer_code answer → total ≡ W.answer_total answer
      → wrote w (text " " ++ code_word code) ≡ a → wrote a (text " " ++ total_text total) ≡ v → wrote w (answer_text W total_text answer) ≡ v
  unfolding answer_text
  answer-part answer {code} {total} p q e f =
      same_text w (ap₂ (λ (n : ℕ) (t : Total). text " " ++ code_word n ++ text " " ++ total_text t) p q) (next-labelled w _ (text " ") (total_text total) e f)

  pub row_line : {a b v : Writer} (i operation answer : ℕ) → wrote w (operation_text W total_text i operation) ≡ a
      → wrote a (answer_text W total_text answer) ≡ b → wrote b line_end ≡ v → wrote w (row_text W total_text i operation answer) ≡ v
  unfolding row_text
  row_line i operation answer e f g = next w _ line_end (next w _ (answer_text W total_text answer) e f) g

pub ruleset rows_told = (amount-part, operation-part, answer-part, row_line, amount-there, answer-there)
