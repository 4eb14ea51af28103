-- An entry leaves every other row and every other cell as they were.
-- Assumes nothing.
use Rattle.std.proofs.Common.{◌≡◌, ℕ, Bool, true, false, cond, Option, List, map, get_or, set, Some, None, refl, ap, ◌∙◌}
use lib.Seq.{get_or-set_other}
use Rattle.semantics.specs.declared.Total.{Total}
use Rattle.semantics.specs.declared.rules.Bounds.{Bounds}
use Rattle.semantics.specs.declared.values.Turn.{Turn}
use Rattle.semantics.specs.declared.values.Turn.TheVariants.{Passes, Holds, Loses, Finishes}
use Rattle.semantics.specs.declared.values.Stepped.{Stepped}
use Rattle.semantics.specs.Sets.{is_in}
use Rattle.semantics.specs.Words.{Width}
use Rattle.semantics.proofs.Lists.{map-set}
use Rattle.row.specs.declared.Row.{Row}
use Rattle.row.specs.Row.{is_holding, step_taken}
use Rattle.run.specs.Rows.{no_row}
use Rattle.run.specs.Entry.{Standing, cell_at, stored, told, told_if, after_idle, after_step_of, after_entry}

-- the numbers of words of which one is set
pub numbers_set : {A : Type 0} (f : A → ℕ) (l : List A) (i : ℕ) (v : A) → map f (set l i v) ≡ set (map f l) i (f v)
numbers_set f l i v = map-set f l i v

-- a turn adds to no row, and to no cell but the one at which its row stands
told-rows : (W : Width) (z : Bool) (at i : ℕ) (y : Option (Stepped Total)) (s : Standing) → (told_if W z at i y s).rows ≡ s.rows
unfolding told
told-rows W z at i None s = refl
told-rows W z at i (Some y) s = go y.turn
  where
    go : (t : Turn Total) → (told W z at i y.cell t s).rows ≡ s.rows
    go Passes = refl
    go (Holds h) = refl
    go Loses = refl
    go (Finishes a) = refl

told-cells : (W : Width) (z : Bool) (at i : ℕ) (y : Option (Stepped Total)) (s : Standing) (j : ℕ) → (j ≡ at → ⊥)
    → get_or (told_if W z at i y s).cells j 0 ≡ get_or s.cells j 0
unfolding told
told-cells W z at i None s j h = refl
told-cells W z at i (Some y) s j h = go y.turn
  where
    go : (t : Turn Total) → get_or (told W z at i y.cell t s).cells j 0 ≡ get_or s.cells j 0
    go Passes = refl
    go (Holds q) = refl
    go Loses = refl
    go (Finishes a) = one-cell z
      where
        one-cell : (z : Bool) → get_or (stored W z at y.cell s.cells) j 0 ≡ get_or s.cells j 0
        one-cell true = get_or-set_other s.cells at j _ 0 h
        one-cell false = refl

module _ (W : Width) (b : Bounds) (i : ℕ) (s : Standing) (j : ℕ) where
  -- "and at most one cell", the one at which the row's record stands
  pub other-cells : (j ≡ (get_or s.rows i no_row).progress.at → ⊥) → get_or (after_entry W b i s).cells j 0 ≡ get_or s.cells j 0
  unfolding after_entry after_step_of
  other-cells h = go (is_in s.finished i)
    where
      go : (z : Bool) → get_or (cond z (after_idle s) (after_step_of W b i s)).cells j 0 ≡ get_or s.cells j 0
      go true = refl
      go false = told-cells W _ _ i _ _ j h

  -- "One step changes the lent record of one row"
  pub other-records : (j ≡ i → ⊥) → get_or (after_entry W b i s).rows j no_row ≡ get_or s.rows j no_row
  unfolding after_entry after_step_of
  other-records h = go (is_in s.finished i)
    where
      go : (z : Bool) → get_or (cond z (after_idle s) (after_step_of W b i s)).rows j no_row ≡ get_or s.rows j no_row
      go true = refl
      go false =
          let r = get_or s.rows i no_row in
          ap (λ (l : List Row). get_or l j no_row) (told-rows W (is_holding r.progress.stage) r.progress.at i (step_taken b r (cell_at W s.cells r.progress.at)) _)
          ∙ get_or-set_other s.rows i j _ no_row h
