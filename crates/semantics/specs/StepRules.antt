-- An aid, not to be believed: each line is proved, by `refl`, of the definitions of Step.antt.
-- Document 01, "What one step does", line by line: its read rules and new words, as the definitions of Step.antt compute them; and document 02
-- where a request has moved one. Each line holds by `refl`, those of update once it is told whether the total is pinned, so a reader can hold the
-- documents beside this page and need not unfold the definitions.
-- Assumes nothing.
use Rattle.std.specs.Prelude.{◌≡◌, ℕ, suc, true, false, cond, not, ◌&&◌, eqb}
use Rattle.std.proofs.Math.Path.{refl}
use Rattle.semantics.specs.Totals.{caps}
use Rattle.semantics.specs.Cells.{Setting, Cell, empty, tombstone, live, Kind, find, insert, update, add, remove, Operation}
use Rattle.semantics.specs.Cells.{found, present, changed, removed, inserted, absent, full, capped, retained}
use Rattle.semantics.specs.Step.{own, free, other, sight, Held, vacant, mine, passes, loses, holds, finishes, pending, reading, holding, fresh, after}
use Rattle.semantics.specs.Step.{makes, updating, effect, read_own, read, exhausted, bounded, same_cell, held_cell, fate_cell, new_cell, swap_answer, swapped, step}

-- an operation of key k with an amount, at a cell x; t is the total of its key
module _ (S : Setting) (k : ℕ) (amount t : S.Total) (x : Cell S.Total) where
  abbrev row : Kind → Operation S.Total
  row kind = record { kind = kind; key = k; amount = amount }

  -- "It begins reading at the key's home, with 0 cells passed."
  begins : fresh {T = S.Total} ≡ pending (reading 0)
  unfolding fresh
  begins = refl

  -- "1. The row's key: find finishes found with the total; insert finishes present with the total; update, add and remove hold the word." "An update
  -- that reads a pinned total of its room finishes at that read as held (code 9) with that total" (document 02, "A6")
  the-key : ((j : ℕ) → sight k (live j t) ≡ cond (eqb k j) (own t) other)
      × (read S (row find) (own t) ≡ finishes (found t))
      × (read S (row insert) (own t) ≡ finishes (present t))
      × (S.saturated t ≡ false → read S (row update) (own t) ≡ holds (mine t))
      × (S.saturated t ≡ true → read S (row update) (own t) ≡ finishes (retained t))
      × (read S (row add) (own t) ≡ holds (mine t))
      × (read S (row remove) (own t) ≡ holds (mine t))
      × (held_cell S k (mine t) ≡ live k t)
  unfolding sight read read_own updating effect held_cell
  the-key = (λ j. refl, refl, refl, λ e. rw e, λ e. rw e, refl, refl, refl)

  -- "2. Empty: find, update and remove finish absent; insert and add hold the empty word."
  an-empty-cell : (sight {T = S.Total} k empty ≡ free)
      × (read S (row find) free ≡ finishes absent)
      × (read S (row update) free ≡ finishes absent)
      × (read S (row remove) free ≡ finishes absent)
      × (read S (row insert) free ≡ holds vacant)
      × (read S (row add) free ≡ holds vacant)
      × (held_cell S k vacant ≡ empty)
  unfolding sight read makes held_cell
  an-empty-cell = (refl, refl, refl, refl, refl, refl, refl)

  -- "3. Another key or a tombstone: one more cell is passed."
  another : (sight {T = S.Total} k tombstone ≡ other) × ((kind : Kind) → read S (row kind) other ≡ passes)
  unfolding sight read
  another = (refl, λ kind. refl)

  -- "If c are now passed, insert and add finish full and the others finish absent. Otherwise the row goes on reading at the following cell."
  all-passed : (exhausted S insert ≡ full)
      × (exhausted S add ≡ full)
      × (exhausted S find ≡ absent)
      × (exhausted S update ≡ absent)
      × (exhausted S remove ≡ absent)
      × ((kind : Kind) (p : ℕ) → bounded S kind p passes ≡ cond (eqb (suc p) S.size) (finishes (exhausted S kind)) passes)
      × ((p : ℕ) → after {T = S.Total} p passes ≡ pending (reading (suc p)))
  unfolding exhausted makes bounded after
  all-passed = (refl, refl, refl, refl, refl, λ kind p. refl, λ p. refl)

  -- "Swapping, one step after holding: if the cell still equals the held word, the new word is stored and the row finishes. Otherwise the
  -- swap is lost, counted, and the row reads the same cell again at its following step."
  swapping : ((p : ℕ) (h : Held S.Total) → after p (holds h) ≡ pending (holding p h))
      × ((o : Operation S.Total) (h : Held S.Total) → swapped S o h x true ≡ record { cell = new_cell S o h; turn = finishes (swap_answer S o h) })
      × ((o : Operation S.Total) (h : Held S.Total) → swapped S o h x false ≡ record { cell = x; turn = loses })
      × ((p : ℕ) → after {T = S.Total} p loses ≡ pending (reading p))
      × ((o : Operation S.Total) (p : ℕ) (h : Held S.Total) → step S o (holding p h) x ≡ swapped S o h x (same_cell S x (held_cell S o.key h)))
  unfolding step swapped after
  swapping = (λ p h. refl, λ o h. refl, λ o h. refl, λ p. refl, λ o p h. refl)

  -- "New words: on an empty cell, the key and the amount (inserted); update, the key and the amount; add, the key and the sum; remove, the
  -- tombstone. Update and add finish changed with the old total, remove finishes removed with it." "An add that turns a true total into a pinned
  -- one now finishes capped (code 8) with the old total, where it finished changed." (document 02, "A1")
  new-words : (new_cell S (row insert) vacant ≡ live k amount)
      × (new_cell S (row add) vacant ≡ live k amount)
      × ((kind : Kind) → swap_answer S (row kind) vacant ≡ inserted)
      × (S.saturated t ≡ false → new_cell S (row update) (mine t) ≡ live k amount)
      × (new_cell S (row add) (mine t) ≡ live k (S.plus t amount))
      × (new_cell S (row remove) (mine t) ≡ tombstone)
      × (S.saturated t ≡ false → swap_answer S (row update) (mine t) ≡ changed t)
      × (swap_answer S (row add) (mine t) ≡ cond (not (S.saturated t) && S.saturated (S.plus t amount)) (capped t) (changed t))
      × (swap_answer S (row remove) (mine t) ≡ removed t)
  unfolding new_cell swap_answer fate_cell updating effect caps
  new-words = (refl, refl, λ kind. refl, λ e. rw e, refl, refl, λ e. rw (e, swap_answer), refl, refl)
