-- Must be believed: what `run` promises rests on it.
-- Document 01, "The totals rule, which is demand 3": what it asks of a run, and what each room then has. The rule itself, one claim about a
-- whole schedule, is `TotalsKept` of Demands.antt.
-- Assumes nothing.
use Rattle.std.specs.Prelude.{ℕ, suc, ◌+◌, ◌≤◌, Bool, true, false, cond, ◌&&◌, not, List, [], ◌∷◌, eqb}
use Rattle.std.proofs.Math.Option.{Option, none, some}
use Rattle.semantics.specs.Basics.{is_some, all_of, any_of}
use Rattle.semantics.specs.Cells.{Setting, Cell, Kind, find, insert, update, add, remove, Operation, lookup, used_cells}

unfoldable pub is_add : Kind → Bool
is_add find = false
is_add insert = false
is_add update = false
is_add add = true
is_add remove = false

-- demand 3 is about runs of finds and adds alone
unfoldable pub is_find_or_add : Kind → Bool
is_find_or_add find = true
is_find_or_add insert = false
is_find_or_add update = false
is_find_or_add add = true
is_find_or_add remove = false

unfoldable pub only_finds_and_adds : {T : Type 0} → List (Operation T) → Bool
only_finds_and_adds ops = all_of (λ o. is_find_or_add o.kind) ops

-- "A room .. is present in the starting or final cells if one of them has its key"
unfoldable pub is_present : {T : Type 0} → List (Cell T) → ℕ → Bool
is_present cells k = is_some (lookup k cells)

-- whether an operation adds to room k
unfoldable pub adds_to : {T : Type 0} → ℕ → Operation T → Bool
adds_to k o = is_add o.kind && eqb k o.key

-- "A room is added if a row of kind add names it, with amount 0 too."
unfoldable pub is_added : {T : Type 0} → ℕ → List (Operation T) → Bool
is_added k ops = any_of (adds_to k) ops

-- "The amounts added to it are those of such rows, each row once however many entries name it"
unfoldable pub amounts_added : {T : Type 0} → ℕ → List (Operation T) → List T
amounts_added k [] = []
amounts_added k (o ∷ ops) = cond (adds_to k o) (o.amount ∷ amounts_added k ops) (amounts_added k ops)

-- "an added room counts once, and only if not present in the starting cells": counted at the last row that adds to it
unfoldable pub counts_at : {T : Type 0} → (ℕ → Bool) → Operation T → List (Operation T) → Bool
counts_at present o later = is_add o.kind && (not (present o.key) && not (is_added o.key later))

unfoldable pub rooms_to_make : {T : Type 0} → (ℕ → Bool) → List (Operation T) → ℕ
rooms_to_make present [] = 0
rooms_to_make present (o ∷ ops) = cond (counts_at present o ops) (suc (rooms_to_make present ops)) (rooms_to_make present ops)

module _ (S : Setting) where
  -- "In judging whether the cells suffice, a tombstone is not empty": the cells not empty and the rooms to make are at most c
  unfoldable pub CellsSuffice : List (Cell S.Total) → List (Operation S.Total) → Type 0
  CellsSuffice start ops = used_cells start + rooms_to_make (is_present start) ops ≤ S.size

  -- "they and the starting total are summed as whole numbers before the sum is held": what a room has at the end, if anything
  unfoldable pub expected_from : Option S.Total → List S.Total → Option S.Total
  expected_from (some t) added = some (S.sum t added)
  expected_from none [] = none
  expected_from none (a ∷ more) = some (S.sum a more)

  unfoldable pub expected : List (Cell S.Total) → List (Operation S.Total) → ℕ → Option S.Total
  expected start ops k = expected_from (lookup k start) (amounts_added k ops)
