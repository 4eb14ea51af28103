-- What the clauses of the demands, and of what is promised of a conversion, rule out: for each of them a result that is wrong in one respect, of which the
-- clause is false. Were a clause loosened so that such a result passes, its line here would fail.
-- Assumes nothing.
use mathlib.Core.Path.{◌≡◌, refl, ap, sym}
use Prim.Native.Nat.{ℕ, ◌-◌, ◌<◌, ◌≤◌}
use mathlib.Core.Bool.{Bool, true, false, cond, not, true≢false}
use mathlib.Core.List.{List, [], ◌∷◌, ◌++◌, map}
use mathlib.Core.Option.{Option, none, some}
use native.Mathlib.Omega.{arith}
use lib.Dec.{T, eqb, lit≤}
use lib.ListN.{get_or, length, replicate}
use Rattle.semantics.specs.Basics as Basics
use Rattle.semantics.specs.Totals as Totals
use Rattle.semantics.specs.declared.Total.{Total}
use Rattle.semantics.specs.Words.{setting_of}
use Rattle.semantics.specs.Narrow.{narrow, narrow_width}
use Rattle.semantics.specs.Cells.{lookup}
use Rattle.semantics.specs.Map as Map
use Rattle.semantics.specs.TotalsRule as TotalsRule
use Rattle.semantics.specs.Narrow.{operation_word as operation, packed_answer as answer}
use Rattle.semantics.specs.Wide.{wide_operation_word as wide_operation, wide_packed_answer as wide_answer, wide_width}
use Rattle.semantics.specs.Run.{Result, machine, accepted_result, run_result, made_outcome, refused_outcome}
use Rattle.semantics.specs.Demands.{cells_of, operations_of, replay_of, Linearizable, TotalsKept, Untouched, after_entries, Demands}
use Rattle.semantics.specs.Earlier.{earlier_size, refusal_by, result_by}
use Rattle.semantics.specs.Text.{Handed, text}
use Rattle.semantics.specs.Convert.{FileRecord, conversion, Faithful}
use Rattle.semantics.specs.Cases.{table, at, plain, flagged, wide_at, job, result_of, full_table}
use Rattle.semantics.specs.Cases.{cell_file, row_file, wide_cell_file, wide_row_file, table_record, operation_record, schedule_record, wide_table_record, wide_operation_record}
use Rattle.semantics.proofs.Booleans.{eq→eqb}
use Rattle.semantics.proofs.Narrow.{narrow-packing}
use Rattle.semantics.proofs.DemandsHold.{demands}
use Rattle.semantics.proofs.Pinned.{is_pinned}
use Rattle.semantics.proofs.Cases.{computed}

-- every definition that the map and the totals rule compute with, beside those that a run does
unfoldable replayed : Unit {0}
unfolding
    computed replay_of Basics.occurs Totals.amounts Totals.any_saturated Totals.sum_at
    Map.with_pair Map.unchanged Map.replaced Map.added Map.updated Map.map_of Map.stored Map.perform Map.performed Map.noted Map.replay_one Map.replay
    TotalsRule.amounts_added TotalsRule.expected_from TotalsRule.expected TotalsKept Untouched
replayed = tt

-- two numbers that are not equal
differ : {a b : ℕ} → a ≡ b → T (not (eqb a b)) → ⊥
differ {a} {b} e d = go (eqb a b) (eq→eqb a b e) d
  where
    go : (z : Bool) → T z → T (not z) → ⊥
    go true t u = u
    go false t u = t

amount : Option Total → ℕ
amount none = 0
amount (some t) = t.amount

flag : Option Total → ℕ
flag none = 0
flag (some t) = cond t.saturated 1 0

-- The document's fifth case: two adds to room 1 race, and the second loses its swap once.
abbrev start : List ℕ
start = table 8 (at 4 1 40 ∷ [])

abbrev adds : List ℕ
adds = operation 4 1 5 ∷ operation 4 1 7 ∷ []

abbrev racing : List ℕ
racing = 0 ∷ 1 ∷ 0 ∷ 1 ∷ 1 ∷ 1 ∷ []

abbrev slices : List ℕ
slices = 9 ∷ 9 ∷ []

abbrev left : List ℕ → List ℕ → List ℕ → ℕ → Result
left cells answers log done = record { outcome = made_outcome done 1 0; cells = cells; answers = answers; log = log }

abbrev added : List ℕ
added = table 8 (at 4 1 52 ∷ [])

abbrev both : List ℕ
both = answer 4 40 ∷ answer 4 45 ∷ []

-- what it leaves is right
right : run_result narrow_width start adds racing slices slices ≡ left added both (0 ∷ 1 ∷ []) 2
unfolding computed
right = refl

-- and the demands speak of it on the way, not at the end alone: of its first four entries, the last of which is the lost swap
abbrev midway : Result
midway = after_entries narrow_width start adds racing slices slices 4

midway-rules : midway ≡ accepted_result narrow_width (machine narrow_width start adds (0 ∷ 1 ∷ 0 ∷ 1 ∷ [])) slices slices
unfolding computed
midway-rules = ((demands narrow-packing start adds racing slices slices).accepted refl).rules 4

midway-linearizable : Linearizable narrow_width start adds midway
unfolding computed
midway-linearizable = ((demands narrow-packing start adds racing slices slices).accepted refl).linearizable 4

midway-untouched : midway.cells ≡ (after_entries narrow_width start adds racing slices slices 3).cells
unfolding replayed
midway-untouched = ((demands narrow-packing start adds racing slices slices).accepted refl).untouched 4 3 (lit≤ tt) (lit≤ tt) refl

-- Demand 2, clause by clause.
-- "Each finished answer .. [is] of a one-at-a-time map doing the finished operations in log order": another old total, another code, and the log
-- the other way round
an-old-total : Linearizable narrow_width start adds (left added (answer 4 40 ∷ answer 4 40 ∷ []) (0 ∷ 1 ∷ []) 2) → ⊥
unfolding replayed
an-old-total h = differ (ap (λ l. get_or l 1 0) h.answers) tt

another-code : Linearizable narrow_width start adds (left added (answer 4 40 ∷ answer 1 45 ∷ []) (0 ∷ 1 ∷ []) 2) → ⊥
unfolding replayed
another-code h = differ (ap (λ l. get_or l 1 0) h.answers) tt

-- and of document 02, "A1", where the second add reaches the ceiling: a capped add called changed, and one with the new total
abbrev over : List ℕ
over = operation 4 1 5 ∷ operation 4 1 65490 ∷ []

abbrev pinned : List ℕ
pinned = table 8 (at 4 1 65535 ∷ [])

capped-called-changed : Linearizable narrow_width start over (left pinned (answer 4 40 ∷ answer 4 45 ∷ []) (0 ∷ 1 ∷ []) 2) → ⊥
unfolding replayed
capped-called-changed h = differ (ap (λ l. get_or l 1 0) h.answers) tt

capped-with-the-new-total : Linearizable narrow_width start over (left pinned (answer 4 40 ∷ answer 8 65535 ∷ []) (0 ∷ 1 ∷ []) 2) → ⊥
unfolding replayed
capped-with-the-new-total h = differ (ap (λ l. get_or l 1 0) h.answers) tt

-- and of document 02, "A6", where an update reads a pinned total: the total typed over, called changed or held; held with the new amount; and a true
-- total held
abbrev tidy : List ℕ
tidy = operation 3 1 50 ∷ []

abbrev tidied : List ℕ
tidied = table 8 (at 4 1 50 ∷ [])

typed-over : Linearizable narrow_width pinned tidy (left tidied (answer 9 65535 ∷ []) (0 ∷ []) 1) → ⊥
unfolding replayed amount
typed-over h = differ (ap amount (h.pairs 1)) tt

typed-over-and-changed : Linearizable narrow_width pinned tidy (left tidied (answer 4 65535 ∷ []) (0 ∷ []) 1) → ⊥
unfolding replayed
typed-over-and-changed h = differ (ap (λ l. get_or l 0 0) h.answers) tt

retained-with-the-new-amount : Linearizable narrow_width pinned tidy (left pinned (answer 9 50 ∷ []) (0 ∷ []) 1) → ⊥
unfolding replayed
retained-with-the-new-amount h = differ (ap (λ l. get_or l 0 0) h.answers) tt

a-true-total-retained : Linearizable narrow_width start tidy (left start (answer 9 40 ∷ []) (0 ∷ []) 1) → ⊥
unfolding replayed
a-true-total-retained h = differ (ap (λ l. get_or l 0 0) h.answers) tt

another-order : Linearizable narrow_width start adds (left added both (1 ∷ 0 ∷ []) 2) → ⊥
unfolding replayed
another-order h = differ (ap (λ l. get_or l 0 0) h.answers) tt

-- "and the live pairs": another total, and a room that is there twice over or not at all
another-total : Linearizable narrow_width start adds (left (table 8 (at 4 1 51 ∷ [])) both (0 ∷ 1 ∷ []) 2) → ⊥
unfolding replayed amount
another-total h = differ (ap amount (h.pairs 1)) tt

a-room-gone : Linearizable narrow_width start adds (left (table 8 (at 4 65535 0 ∷ [])) both (0 ∷ 1 ∷ []) 2) → ⊥
unfolding replayed amount
a-room-gone h = differ (ap amount (h.pairs 1)) tt

a-room-made : Linearizable narrow_width start adds (left (table 8 (at 4 1 52 ∷ at 5 9 7 ∷ [])) both (0 ∷ 1 ∷ []) 2) → ⊥
unfolding replayed amount
a-room-made h = differ (ap amount (h.pairs 9)) tt

-- the used cells: a tombstone that no remove has left
a-tombstone-more : Linearizable narrow_width start adds (left (table 8 (at 4 1 52 ∷ at 5 65535 0 ∷ [])) both (0 ∷ 1 ∷ []) 2) → ⊥
unfolding replayed
a-tombstone-more h = differ h.used tt

-- the log: a row that is not there, a row twice, a row that has an answer and is not in it
no-such-row : Linearizable narrow_width start adds (record { outcome = made_outcome 3 1 0; cells = added; answers = both; log = 0 ∷ 1 ∷ 2 ∷ [] }) → ⊥
unfolding replayed
no-such-row h = let b : 2 < 2 = h.named 2 (lit≤ tt) in omega arith

a-row-twice : Linearizable narrow_width start adds (record { outcome = made_outcome 3 1 0; cells = added; answers = both; log = 0 ∷ 1 ∷ 1 ∷ [] }) → ⊥
unfolding replayed
a-row-twice h = let b : 2 ≤ 1 = h.once 1 in omega arith

answered-and-not-logged : Linearizable narrow_width start adds (left (table 8 (at 4 1 45 ∷ [])) both (0 ∷ 9 ∷ []) 1) → ⊥
unfolding replayed
answered-and-not-logged h = differ (h.unfinished 1 (lit≤ tt) refl) tt

-- "No room has two live cells."
two-live-cells : Linearizable narrow_width start adds (left (table 8 (at 4 1 52 ∷ at 5 1 52 ∷ [])) both (0 ∷ 1 ∷ []) 2) → ⊥
unfolding replayed
two-live-cells h = differ (h.distinct 1 4 5 (narrow 52) (narrow 52) refl refl) tt

-- "An unfinished operation has changed no cell." What k entries come to, from a list
abbrev each : List Result → Result → ℕ → Result
each l end k = get_or l k end

abbrev with-total : ℕ → List ℕ → ℕ → Result
with-total t log done = left (table 8 (at 4 1 t ∷ [])) (answer 0 0 ∷ answer 0 0 ∷ []) log done

-- the second add loses its swap at the last entry, and has stored its sum all the same
a-lost-swap-stores : Untouched (0 ∷ 1 ∷ 0 ∷ 1 ∷ [])
    (each (with-total 40 [] 0 ∷ with-total 40 [] 0 ∷ with-total 40 [] 0 ∷ with-total 45 (0 ∷ []) 1 ∷ []) (with-total 47 (0 ∷ []) 1)) → ⊥
unfolding replayed
a-lost-swap-stores h = differ (ap (λ l. get_or l 4 0) (h 4 3 (lit≤ tt) (lit≤ tt) refl)) tt

-- the first add reads and is never finished, and has stored something at its one entry, while the second finishes at the last
a-read-stores : Untouched (0 ∷ 1 ∷ 1 ∷ [])
    (each (with-total 40 [] 0 ∷ with-total 45 [] 0 ∷ with-total 45 [] 0 ∷ []) (with-total 52 (1 ∷ []) 1)) → ⊥
unfolding replayed
a-read-stores h = differ (ap (λ l. get_or l 4 0) (h 3 0 (lit≤ tt) (lit≤ tt) refl)) tt

-- Demand 3: a total that is one too small; a sum that wraps; a room that is not there, and one that nobody added to
a-total-too-small : TotalsKept narrow_width start adds (left (table 8 (at 4 1 51 ∷ [])) both (0 ∷ 1 ∷ []) 2) → ⊥
unfolding replayed amount
a-total-too-small h = differ (ap amount (h tt refl (lit≤ tt) 1)) tt

abbrev to-the-ceiling : List ℕ
to-the-ceiling = operation 4 1 40 ∷ operation 4 1 65500 ∷ []

a-sum-that-wraps : TotalsKept narrow_width (table 8 []) to-the-ceiling (left (table 8 (at 4 1 4 ∷ [])) (answer 2 0 ∷ answer 4 40 ∷ []) (0 ∷ 1 ∷ []) 2) → ⊥
unfolding replayed amount
a-sum-that-wraps h = differ (ap amount (h tt refl (lit≤ tt) 1)) tt

a-room-not-there : TotalsKept narrow_width (table 8 []) to-the-ceiling (left (table 8 []) (answer 2 0 ∷ answer 4 40 ∷ []) (0 ∷ 1 ∷ []) 2) → ⊥
unfolding replayed amount
a-room-not-there h = differ (ap amount (h tt refl (lit≤ tt) 1)) tt

a-room-nobody-added : TotalsKept narrow_width start adds (left (table 8 (at 4 1 52 ∷ at 5 9 7 ∷ [])) both (0 ∷ 1 ∷ []) 2) → ⊥
unfolding replayed amount
a-room-nobody-added h = differ (ap amount (h tt refl (lit≤ tt) 9)) tt

-- the same demand of the wide width: 4 added to a pinned 3, or a pinned 4 to 3, gives a pinned 7, and a flag that is lost or a pinned total that is
-- held at the ceiling is another
abbrev wide-sum : Total → Total → Total → Type 0
wide-sum t a sum =
    TotalsKept wide_width (table 8 (wide_at 4 1 t ∷ [])) (wide_operation 4 1 a ∷ []) (left (table 8 (wide_at 4 1 sum ∷ [])) (wide_answer 4 t ∷ []) (0 ∷ []) 1)

a-lost-flag : wide-sum (flagged 3) (plain 4) (plain 7) → ⊥
unfolding replayed flag
a-lost-flag h = differ (ap flag (h tt refl (lit≤ tt) 1)) tt

a-lost-flag-of-an-amount : wide-sum (plain 3) (flagged 4) (plain 7) → ⊥
unfolding replayed flag
a-lost-flag-of-an-amount h = differ (ap flag (h tt refl (lit≤ tt) 1)) tt

a-pinned-total-at-the-ceiling : wide-sum (flagged 3) (plain 4) (flagged 4294967295) → ⊥
unfolding replayed amount
a-pinned-total-at-the-ceiling h = differ (ap amount (h tt refl (lit≤ tt) 1)) tt

a-flag-made-up : wide-sum (plain 3) (plain 4) (flagged 7) → ⊥
unfolding replayed flag
a-flag-made-up h = differ (ap flag (h tt refl (lit≤ tt) 1)) tt

-- and demand 2: an add of a pinned amount that is not said to have capped
not-capped-by-a-flag : Linearizable wide_width (table 8 (wide_at 4 1 (plain 3) ∷ [])) (wide_operation 4 1 (flagged 4) ∷ [])
    (left (table 8 (wide_at 4 1 (flagged 7) ∷ [])) (wide_answer 4 (plain 3) ∷ []) (0 ∷ []) 1) → ⊥
unfolding replayed
not-capped-by-a-flag h = differ (ap (λ l. get_or l 0 0) h.answers) tt

-- and an update of a pinned total below the ceiling that is typed over
typed-over-below-the-ceiling : Linearizable wide_width (table 8 (wide_at 4 1 (flagged 3) ∷ [])) (wide_operation 3 1 (plain 50) ∷ [])
    (left (table 8 (wide_at 4 1 (plain 50) ∷ [])) (wide_answer 4 (flagged 3) ∷ []) (0 ∷ []) 1) → ⊥
unfolding replayed
typed-over-below-the-ceiling h = differ (ap (λ l. get_or l 0 0) h.answers) tt

-- What is claimed of a pinned room is false of a result that has typed it over, and of a room that is removed
abbrev Pinned : List ℕ → Type 0
Pinned cells = is_pinned (lookup 1 (cells_of narrow_width cells)) ≡ true

no-longer-pinned : Pinned tidied → ⊥
unfolding replayed is_pinned
no-longer-pinned h = true≢false (sym h)

a-room-removed : Pinned (result_of false (job pinned (operation 5 1 0 ∷ []) (0 ∷ 0 ∷ []))).cells → ⊥
unfolding replayed is_pinned
a-room-removed h = true≢false (sym h)

-- and each hypothesis of demand 3 is needed: a run that meets the other two, and of which the sums are false
abbrev Sums : List ℕ → List ℕ → Result → Type 0
Sums cells operations r =
    (k : ℕ) → lookup k (cells_of narrow_width r.cells) ≡ TotalsRule.expected (setting_of narrow_width (length cells)) (cells_of narrow_width cells) (operations_of narrow_width operations) k

-- not only finds and adds: an update
an-update : ((result_of false (job start (operation 3 1 5 ∷ []) (0 ∷ 0 ∷ []))).outcome.done ≡ 1)
    × TotalsRule.CellsSuffice (setting_of narrow_width (length start)) (cells_of narrow_width start) (operations_of narrow_width (operation 3 1 5 ∷ []))
    × (Sums start (operation 3 1 5 ∷ []) (result_of false (job start (operation 3 1 5 ∷ []) (0 ∷ 0 ∷ []))) → ⊥)
unfolding replayed amount
an-update = (refl, lit≤ tt, λ h. differ (ap amount (h 1)) tt)

-- not every operation finished: an add that has read and not swapped
an-unfinished-add : T (TotalsRule.only_finds_and_adds (operations_of narrow_width (operation 4 1 5 ∷ [])))
    × TotalsRule.CellsSuffice (setting_of narrow_width (length start)) (cells_of narrow_width start) (operations_of narrow_width (operation 4 1 5 ∷ []))
    × (Sums start (operation 4 1 5 ∷ []) (result_of false (job start (operation 4 1 5 ∷ []) (0 ∷ []))) → ⊥)
unfolding replayed amount
an-unfinished-add = (tt, lit≤ tt, λ h. differ (ap amount (h 1)) tt)

-- cells that do not suffice: an add to a full table
a-full-table : T (TotalsRule.only_finds_and_adds (operations_of narrow_width (operation 4 9 1 ∷ [])))
    × ((result_of false (job full_table (operation 4 9 1 ∷ []) (replicate 8 0))).outcome.done ≡ 1)
    × (Sums full_table (operation 4 9 1 ∷ []) (result_of false (job full_table (operation 4 9 1 ∷ []) (replicate 8 0))) → ⊥)
unfolding replayed amount
a-full-table = (tt, refl, λ h. differ (ap amount (h 9)) tt)

-- Demand 1, and that the result is the one that the rules determine: a count that is made up; a refusal at another place, with another number,
-- or that has altered a slice
abbrev twice : List ℕ
twice = table 8 (at 4 1 40 ∷ at 5 1 40 ∷ [])

abbrev turned-away : ℕ → ℕ → List ℕ → Result
turned-away number place answers =
    record { outcome = refused_outcome number place; cells = twice; answers = answers; log = slices }

refused-right : run_result narrow_width twice adds racing slices slices ≡ turned-away 7 5 slices
unfolding computed
refused-right = refl

a-count-made-up : Demands narrow_width start adds racing slices slices
    (record { outcome = made_outcome 2 0 0; cells = added; answers = both; log = 0 ∷ 1 ∷ [] }) → ⊥
unfolding replayed
a-count-made-up h = differ (ap (λ r. r.outcome.lost) h.result) tt

-- an update that has read a pinned total and waits for its swap
a-swap-that-decides : Demands narrow_width pinned tidy (0 ∷ []) (9 ∷ []) (9 ∷ [])
    (record { outcome = made_outcome 0 0 0; cells = pinned; answers = answer 0 0 ∷ []; log = 9 ∷ [] }) → ⊥
unfolding replayed
a-swap-that-decides h = differ (ap (λ r. r.outcome.done) h.result) tt

another-place : Demands narrow_width twice adds racing slices slices (turned-away 7 4 slices) → ⊥
unfolding replayed
another-place h = differ (ap (λ r. r.outcome.place) (h.refused (λ e. differ e tt))) tt

another-number : Demands narrow_width twice adds racing slices slices (turned-away 8 5 slices) → ⊥
unfolding replayed
another-number h = differ (ap (λ r. r.outcome.number) (h.refused (λ e. differ e tt))) tt

a-slice-altered : Demands narrow_width twice adds racing slices slices (turned-away 7 5 (0 ∷ 0 ∷ [])) → ⊥
unfolding replayed
a-slice-altered h = differ (ap (λ r. get_or r.answers 0 0) (h.refused (λ e. differ e tt))) tt

-- Document 02, "A2". "Runs accepted before give the same results" is of 8 cells or more: of 4 the call was refused
four-cells-were-refused : result_by earlier_size narrow_width (table 4 []) [] [] [] [] ≡ run_result narrow_width (table 4 []) [] [] [] [] → ⊥
unfolding computed earlier_size refusal_by result_by
four-cells-were-refused e = differ (ap (λ r. r.outcome.number) e) tt

-- Document 02, "A5". Each field of what is promised of a file that is converted is false of some file that is turned away; and each half of 13 is
-- needed
abbrev first-total : (Option Total → ℕ) → List FileRecord → ℕ
first-total f rs = get_or (map (λ (r : FileRecord). f r.total) rs) 1 0

-- the result is not read, and is not converted back: nothing is left of an unknown mark
not-read : Faithful false (text "XX") → ⊥
unfolding computed
not-read h = differ h.accepted tt

not-converted-back : Faithful false (text "XX") → ⊥
unfolding computed
not-converted-back h = differ h.back-accepted tt

-- a flagged 7 comes down as 7, which is another record, and back as another file
a-flagged-7 : Faithful true (wide_cell_file (flagged 7)) → ⊥
unfolding computed flag
a-flagged-7 h = differ (ap (first-total flag) h.same-records) tt

a-flagged-7-back : Faithful true (wide_row_file (flagged 7)) → ⊥
unfolding computed
a-flagged-7-back h = differ (ap (λ l. get_or l 8 0) h.back) tt

-- an unflagged 65,535 comes down as a pinned one, and back with a flag
an-unflagged-65535 : Faithful true (wide_cell_file (plain 65535)) → ⊥
unfolding computed flag
an-unflagged-65535 h = differ (ap (first-total flag) h.same-records) tt

an-unflagged-65535-back : Faithful true (wide_row_file (plain 65535)) → ⊥
unfolding computed
an-unflagged-65535-back h = differ (ap (λ l. get_or l 8 0) h.back) tt

-- of a larger number the upper bytes are gone: other words of cells and rows
another-cell : Faithful true (wide_cell_file (plain 65543)) → ⊥
unfolding computed
another-cell h = differ (ap (λ r. get_or r.cells 4 0) h.same-contents) tt

another-row : Faithful true (wide_row_file (plain 65543)) → ⊥
unfolding computed
another-row h = differ (ap (λ r. get_or r.operations 0 0) h.same-contents) tt

-- And wrong results, of which the promise of the result is false: what is written into a slice for 64 bytes, and what is refused
abbrev written : List ℕ → Handed
written result =
    record { written = record { number = 0; place = 0; length = length result }; out = result ++ replicate (64 - length result) 9 }

abbrev not-converted : ℕ → ℕ → List ℕ → Handed
not-converted number place out = record { written = record { number = number; place = place; length = 0 }; out = out }

abbrev Becomes : Bool → List ℕ → Handed → Type 0
Becomes wide file h = conversion wide file (replicate 64 9) ≡ h

abbrev byte : ℕ → Handed → ℕ
byte i h = get_or h.out i 0

-- a flag left out, and one made up
a-flag-left-out : Becomes false (row_file 65535) (written (wide_row_file (plain 65535))) → ⊥
unfolding computed
a-flag-left-out e = differ (ap (byte 8) e) tt

a-flag-on-65534 : Becomes false (cell_file 65534) (written (wide_cell_file (flagged 65534))) → ⊥
unfolding computed
a-flag-on-65534 e = differ (ap (byte 9) e) tt

-- 65,535 narrowed as a true total, and a flagged 7 as 7
narrowed-as-true : Becomes true (wide_cell_file (plain 65535)) (written (cell_file 65535)) → ⊥
unfolding computed
narrowed-as-true e = differ (ap (λ (h : Handed). h.written.number) e) tt

a-flagged-7-narrowed : Becomes true (wide_row_file (flagged 7)) (written (row_file 7)) → ⊥
unfolding computed
a-flagged-7-narrowed e = differ (ap (λ (h : Handed). h.written.number) e) tt

-- the low byte first
low-byte-first : Becomes true (wide_row_file (plain 258)) (written (row_file 513)) → ⊥
unfolding computed
low-byte-first e = differ (ap (byte 8) e) tt

-- two rows in another order, and two SC records as one
rows-in-another-order : Becomes false (row_file 5 ++ operation_record 4 9 7)
    (written (wide_table_record 3 ++ wide_operation_record 4 9 (plain 7) ++ wide_operation_record 4 1 (plain 5))) → ⊥
unfolding computed
rows-in-another-order e = differ (ap (byte 7) e) tt

records-joined : Becomes false (row_file 5 ++ schedule_record (0 ∷ []) ++ schedule_record (0 ∷ 0 ∷ []))
    (written (wide_row_file (plain 5) ++ schedule_record (0 ∷ 0 ∷ 0 ∷ []))) → ⊥
unfolding computed
records-joined e = differ (ap (byte 15) e) tt

-- a kind that is judged; 13 at a later record than the first; a slice altered, though it is too short
a-kind-judged : Becomes false (table_record 3 ++ operation_record 200 1 5) (not-converted 11 3 (replicate 64 9)) → ⊥
unfolding computed
a-kind-judged e = differ (ap (λ (h : Handed). h.written.number) e) tt

at-a-later-record : Becomes true (wide_cell_file (flagged 7) ++ wide_operation_record 4 1 (plain 65535)) (not-converted 13 14 (replicate 64 9)) → ⊥
unfolding computed
at-a-later-record e = differ (ap (λ (h : Handed). h.written.place) e) tt

written-and-refused : conversion false (row_file 5) (replicate 12 9) ≡ not-converted 3 0 (text "TW" ++ replicate 10 9) → ⊥
unfolding computed
written-and-refused e = differ (ap (byte 0) e) tt
