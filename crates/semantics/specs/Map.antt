-- Must be believed: what `run` promises rests on it.
-- Document 01, "The one-at-a-time map", with document 02, "A1" and "A6": a second statement of what is right. Its arms are its own: none of
-- Step.antt's rules is used here.
-- Demand 2, that any run is one of this map, is `Linearizable` of Demands.antt.
-- Assumes nothing.
use Rattle.std.specs.Prelude.{ℕ, suc, Bool, true, false, cond, eqb}
use mathlib.Core.List.{List, [], ◌∷◌, ◌++◌, foldl}
use Rattle.std.proofs.Math.Option.{Option, none, some}
use Rattle.std.proofs.Math.ListN.{get_elem?}
use Rattle.semantics.specs.Cells.{Setting, Cell, Kind, find, insert, update, add, remove, Operation, lookup, used_cells}
use Rattle.semantics.specs.Cells.{Answer, found, present, changed, removed, inserted, absent, full, capped, retained}

-- "It holds pairs and a number of used cells": each key's total, or none
pub record Map (T : Type 0) : Type 0 where
  pub pairs : ℕ → Option T
  pub used : ℕ

-- the map after an operation, and its answer
pub record Done (T : Type 0) : Type 0 where
  pub after : Map T
  pub answer : Answer T

-- a map after some operations, and their answers in order
pub record Replay (T : Type 0) : Type 0 where
  pub now : Map T
  pub answers : List (Answer T)

-- the pairs with that of key k put in, replaced or taken out
unfoldable pub with_pair : {T : Type 0} → ℕ → Option T → (ℕ → Option T) → ℕ → Option T
with_pair k t pairs j = cond (eqb j k) t (pairs j)

unfoldable pub unchanged : {T : Type 0} → Map T → Answer T → Done T
unchanged m a = record { after = m; answer = a }

unfoldable pub replaced : {T : Type 0} → ℕ → Option T → Map T → Answer T → Done T
replaced k t m a = record { after = record { pairs = with_pair k t m.pairs; used = m.used }; answer = a }

-- "The map answers alike" (A1): what an add answers with the old total t, by whether t was saturated and whether the sum is
unfoldable pub added : {T : Type 0} → T → Bool → Bool → Answer T
added t false true = capped t
added t false false = changed t
added t true now = changed t

-- "The map changes likewise, in both widths." (A6): an update of a key with total t, by whether t is saturated
unfoldable pub updated : {T : Type 0} → ℕ → T → Map T → T → Bool → Done T
updated k amount m t true = unchanged m (retained t)
updated k amount m t false = replaced k (some amount) m (changed t)

-- "at first the live pairs and the cells not empty"
unfoldable pub map_of : {T : Type 0} → List (Cell T) → Map T
map_of cells = record { pairs = λ k. lookup k cells; used = used_cells cells }

module _ (S : Setting) where
  -- "Insert and add of a missing key answer full exactly when used equals c; otherwise they store the pair and used grows by 1."
  unfoldable pub stored : ℕ → S.Total → Map S.Total → Done S.Total
  stored k amount m =
      cond (eqb m.used S.size) (unchanged m full)
      (record { after = record { pairs = with_pair k (some amount) m.pairs; used = suc m.used }; answer = inserted })

  -- the five operations, on a missing key and on one with total t
  unfoldable pub perform : Kind → ℕ → S.Total → Map S.Total → Option S.Total → Done S.Total
  -- "Find, update and remove of a missing key answer absent."
  perform find k amount m none = unchanged m absent
  perform update k amount m none = unchanged m absent
  perform remove k amount m none = unchanged m absent
  perform insert k amount m none = stored k amount m
  perform add k amount m none = stored k amount m
  -- "All other cases are as in the step rules."
  perform find k amount m (some t) = unchanged m (found t)
  perform insert k amount m (some t) = unchanged m (present t)
  -- "Update of a present key replaces its total.", but a pinned one
  perform update k amount m (some t) = updated k amount m t (S.saturated t)
  perform add k amount m (some t) = let sum = S.plus t amount in replaced k (some sum) m (added t (S.saturated t) (S.saturated sum))
  -- "Remove deletes the pair and leaves used."
  perform remove k amount m (some t) = replaced k none m (removed t)

  unfoldable pub performed : Map S.Total → Operation S.Total → Done S.Total
  performed m o = perform o.kind o.key o.amount m (m.pairs o.key)

  -- the map doing the operations that a log names, in its order
  unfoldable pub noted : Replay S.Total → Done S.Total → Replay S.Total
  noted r d = record { now = d.after; answers = r.answers ++ (d.answer ∷ []) }

  unfoldable pub replay_one : Replay S.Total → Option (Operation S.Total) → Replay S.Total
  replay_one r none = r
  replay_one r (some o) = noted r (performed r.now o)

  unfoldable pub replay : List (Cell S.Total) → List (Operation S.Total) → List ℕ → Replay S.Total
  replay cells ops log = foldl (λ r i. replay_one r (get_elem? ops i)) (record { now = map_of cells; answers = [] }) log
