-- The parts of a line, written one after another, are the line.
-- Assumes nothing.
use mathlib.Core.Path.{◌≡◌}
use Prim.Native.Nat.{ℕ}
use mathlib.Core.List.{List, ◌++◌, append_assoc}
use Rattle.semantics.specs.declared.Outcome.{Outcome}
use Rattle.semantics.specs.Text.{text, decimal}
use Rattle.semantics.specs.Listing.{line_end, counts_text}
use Rattle.listing.specs.declared.writer.Writer.{Writer}
use Rattle.listing.specs.Writing.{wrote}
use Rattle.listing.proofs.Writing.{same_text, next, next-labelled}

module _ (w : Writer) where
  pub last-two : {a b v : Writer} (label second : List ℕ) (n m : ℕ) → wrote w (label ++ decimal n) ≡ a → wrote a (second ++ decimal m) ≡ b
      → wrote b line_end ≡ v → wrote w (label ++ decimal n ++ second ++ decimal m ++ line_end) ≡ v
  last-two label second n m e f g = next w _ line_end (next-labelled w _ second (decimal m) e f) g

  pub counts-line : {a b v : Writer} (rows : ℕ) (o : Outcome) → wrote w (text "rows " ++ decimal rows) ≡ a
      → wrote a (text " done " ++ decimal o.done) ≡ b
      → wrote b (text " lost " ++ decimal o.lost ++ text " idle " ++ decimal o.idle ++ line_end) ≡ v → wrote w (counts_text rows o) ≡ v
  unfolding counts_text
  counts-line rows o e f g = same_text w (simp append_assoc) (next w _ _ (next-labelled w _ (text " done ") (decimal o.done) e f) g)

pub ruleset lines_told = (last-two, counts-line)
