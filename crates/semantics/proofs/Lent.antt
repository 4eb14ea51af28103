-- A table lent as two slices: how many cells it has, and what stands at each.
-- Assumes nothing.
use mathlib.Core.Path.{◌≡◌, refl, sym, ap, ap₂, ◌∙◌}
use Prim.Native.Nat.{ℕ, ◌+◌}
use mathlib.Core.Bool.{Bool, true, false, not}
use mathlib.Core.List.{List, [], ◌∷◌, map, append-nil}
use lib.Dec.{leb}
use lib.ListN.{length, get_or, length-append, length-map, get_or-map}
use Rattle.semantics.specs.Words.{Width, is_live_key}
use Rattle.semantics.specs.Narrow.{key_of, tombstone_word, cell_allowed, narrow_width}
use Rattle.semantics.specs.Wide.{wide_key_of, is_wide_total, is_nothing, wide_cell_allowed, wide_width}
use Rattle.semantics.specs.Widths.{width_of, of_width}
use Rattle.semantics.specs.Refusals.{call_of, at_first, bad_cell, bad_operation, bad_entry, words_conditions}
use Rattle.semantics.specs.Lent.{lent, table_keys, cells_allowed, operation_allowed_in, lent_words, lent_table}

module _ {A : Type 0} (f g : ℕ → A) (narrow wide : List ℕ) where
  pub lent-size : length narrow + length wide ≡ length (lent f g narrow wide)
  lent-size = sym (length-append (map f narrow) (map g wide) ∙ ap₂ ◌+◌ (length-map narrow f) (length-map wide g))

pub keys-size : (narrow wide : List ℕ) → length narrow + length wide ≡ length (table_keys narrow wide)
keys-size = lent-size key_of wide_key_of

-- A table that is lent in the slice of its width alone: the two are that one, each word has what the layout of the width says, and the conditions on
-- the words and on the keys are those of the width.
module _ (flagged : Bool) (narrow wide : List ℕ) (alone : of_width (not flagged) narrow wide ≡ []) where
  lent-alone : {A : Type 0} (field : Width → ℕ → A)
      → lent (field narrow_width) (field wide_width) narrow wide ≡ map (field (width_of flagged)) (of_width flagged narrow wide)
  lent-alone {A} field = go flagged alone
    where
      go : (b : Bool) → of_width (not b) narrow wide ≡ []
          → lent (field narrow_width) (field wide_width) narrow wide ≡ map (field (width_of b)) (of_width b narrow wide)
      go false e = ap (lent (field narrow_width) (field wide_width) narrow) e ∙ append-nil (map (field narrow_width) narrow)
      go true e = ap (λ (l : List ℕ). lent (field narrow_width) (field wide_width) l wide) e

  abbrev alone-words : List ℕ
  alone-words = of_width flagged narrow wide

  abbrev allowed : ℕ → Bool
  allowed = (width_of flagged).cell_allowed

  empty-allowed : (b : Bool) → (width_of b).cell_allowed 0 ≡ true
  unfolding cell_allowed wide_cell_allowed is_wide_total is_nothing is_live_key tombstone_word
  empty-allowed false = refl
  empty-allowed true = refl

  operation-in : (b : Bool) (w : ℕ) → operation_allowed_in b w ≡ (width_of b).operation_allowed w
  operation-in false w = refl
  operation-in true w = refl

  cell_in_lem : (i : ℕ) → get_or (cells_allowed narrow wide) i true ≡ allowed (get_or alone-words i 0)
  cell_in_lem i =
      ap (λ (l : List Bool). get_or l i true) (lent-alone (λ (W : Width). W.cell_allowed))
      ∙ ap (get_or (map allowed alone-words) i) (sym (empty-allowed flagged))
      ∙ get_or-map allowed alone-words i 0

  pub words-judged : (operations schedule : List ℕ)
      → lent_words narrow wide flagged operations schedule ≡ words_conditions (width_of flagged) (call_of alone-words operations schedule 0 0)
  unfolding bad_cell bad_operation bad_entry
  words-judged operations schedule =
      let size = ap length (lent-alone (λ (W : Width). W.cell_allowed)) ∙ length-map alone-words allowed in
      λ j. at_first 4 (size j) (λ i. not (cell_in_lem i j))
      ∷ at_first 5 (length operations) (λ i. not (operation-in flagged (get_or operations i 0) j))
      ∷ at_first 6 (length schedule) (λ i. leb (length operations) (get_or schedule i 0))
      ∷ []

  pub keys-judged : lent_table (table_keys narrow wide) ≡ lent_table (map (width_of flagged).key_of alone-words)
  keys-judged = ap lent_table (lent-alone (λ (W : Width). W.key_of))
