-- An aid, not to be believed: a table that is lent as two slices, one of narrow words and one of wide ones, of which one is empty. No function is
-- lent a table so; proofs/Lent.antt shows that the conditions here are those of the one slice that is not empty, and proofs/Keys.antt that the
-- conditions on the keys alone are those of the table.
-- Assumes nothing.
use Rattle.std.specs.Prelude.{ℕ, Bool, true, cond, not, List, [], ◌∷◌, ◌++◌, map, leb, length, get_or}
use Rattle.semantics.specs.Words.{size_allowed}
use Rattle.semantics.specs.Narrow.{key_of, cell_allowed, operation_allowed}
use Rattle.semantics.specs.Wide.{wide_key_of, wide_cell_allowed, wide_operation_allowed}
use Rattle.semantics.specs.Keys.{is_repeated_key, is_unreachable_key}
use Rattle.semantics.specs.Refusals.{Condition, at_first}

-- what the cells have, each word read by its own layout
abbrev pub lent : {A : Type 0} → (ℕ → A) → (ℕ → A) → List ℕ → List ℕ → List A
lent in_narrow in_wide narrow wide = map in_narrow narrow ++ map in_wide wide

abbrev pub table_keys : List ℕ → List ℕ → List ℕ
table_keys narrow wide = lent key_of wide_key_of narrow wide

abbrev pub cells_allowed : List ℕ → List ℕ → List Bool
cells_allowed narrow wide = lent cell_allowed wide_cell_allowed narrow wide

-- operations are 64-bit words at both widths, so it is said whether they are in the wide layout, whose amounts have a flag
abbrev pub operation_allowed_in : Bool → ℕ → Bool
operation_allowed_in flagged w = cond flagged (wide_operation_allowed w) (operation_allowed w)

-- 4, 5 and 6, the conditions on the words
abbrev pub lent_words : List ℕ → List ℕ → Bool → List ℕ → List ℕ → List Condition
lent_words narrow wide flagged operations schedule =
    let allowed = cells_allowed narrow wide in
    at_first 4 (length allowed) (λ i. not (get_or allowed i true))
    ∷ at_first 5 (length operations) (λ i. not (operation_allowed_in flagged (get_or operations i 0)))
    ∷ at_first 6 (length schedule) (λ i. leb (length operations) (get_or schedule i 0))
    ∷ []

-- 7 and 8, the conditions on the whole table, after 1, without which a key has no home
abbrev pub lent_table : List ℕ → List Condition
lent_table keys =
    record { number = 1; met = not (size_allowed (length keys)); place = 0 }
    ∷ at_first 7 (length keys) (is_repeated_key keys)
    ∷ at_first 8 (length keys) (is_unreachable_key keys)
    ∷ []
