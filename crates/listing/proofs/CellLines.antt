-- The parts of a cell's line, written one after another, are the line, at any width.
-- Assumes nothing.
use mathlib.Core.Path.{◌≡◌, ap₂}
use Prim.Native.Nat.{ℕ}
use mathlib.Core.List.{List, ◌++◌}
use lib.Dec.{eqb}
use mathlib.Core.Bool.{true, false}
use Rattle.semantics.specs.declared.Total.{Total}
use Rattle.semantics.specs.declared.values.Cell.TheVariants.{Tombstone}
use Rattle.semantics.specs.Words.{Width, encode}
use Rattle.semantics.specs.Text.{text, decimal}
use Rattle.semantics.specs.Listing.{line_end, contents_text, cell_text}
use Rattle.listing.specs.declared.writer.Writer.{Writer}
use Rattle.listing.specs.Writing.{wrote}
use Rattle.listing.proofs.Writing.{same_text, next, next-labelled, wrote-none}

module _ (W : Width) (total_text : Total → List ℕ) (w : Writer) where
  pub gone-part : {v : Writer} (cell : ℕ) → eqb cell (encode W Tombstone) ≡ true → wrote w (text " gone") ≡ v → wrote w (contents_text W total_text cell) ≡ v
  unfolding contents_text
  gone-part cell is e = rw is e

  pub live-part : {a v : Writer} (cell : ℕ) {key : ℕ} {total : Total} → eqb cell (encode W Tombstone) ≡ false → key ≡ W.key_of cell → total ≡ W.total_in cell
      → wrote w (text " " ++ decimal key) ≡ a → wrote a (text " " ++ total_text total) ≡ v → wrote w (contents_text W total_text cell) ≡ v
  unfolding contents_text
  live-part cell {key} {total} other p q e f =
      rw other
      (same_text w (ap₂ (λ (k : ℕ) (t : Total). text " " ++ decimal k ++ text " " ++ total_text t) p q) (next-labelled w _ (text " ") (total_text total) e f))

  pub empty-cell : (i cell : ℕ) → eqb cell 0 ≡ true → wrote w (cell_text W total_text i cell) ≡ w
  unfolding cell_text
  empty-cell i cell is = rw is (wrote-none w)

  pub cell-line : {a b v : Writer} (i cell : ℕ) → eqb cell 0 ≡ false → wrote w (text "cell " ++ decimal i) ≡ a
      → wrote a (contents_text W total_text cell) ≡ b → wrote b line_end ≡ v → wrote w (cell_text W total_text i cell) ≡ v
  unfolding cell_text
  cell-line i cell other e f g = rw other (next w _ line_end (next w _ (contents_text W total_text cell) e f) g)

pub ruleset cells_told = (gone-part, live-part, empty-cell, cell-line)
