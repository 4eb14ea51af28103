-- Must be believed: what `run` and `report` promise rests on it.
-- One atomic step on the one cell that it reads, an entry of the schedule, and the run. An add may be capped, and an update of a saturated
-- total (the specification's word: pinned) is retained. What a step sees, holds, does and leaves are the code's own types, of src/values.rt.
-- StepRules.antt has the rules line by line beside these definitions.
-- Assumes nothing.
use Rattle.std.specs.Prelude.{ℕ, suc, ◌+◌, ◌%◌, Bool, true, false, cond, ◌&&◌, eqb, get_or, set}
use mathlib.Core.List.{List, [], ◌∷◌, ◌++◌, map, foldl}
use Rattle.std.proofs.Math.Option.{Option, none, some}
use Rattle.std.proofs.Math.ListN.{get_elem?}
use Rattle.semantics.specs.Basics.{is_some, count_of}
use Rattle.semantics.specs.Totals.{caps}
use Rattle.semantics.specs.Cells.{Setting, Cell, empty, tombstone, live, Kind, find, insert, update, add, remove, Operation}
use Rattle.semantics.specs.Cells.{Answer, found, present, changed, removed, inserted, absent, full, capped, retained}
pub use Rattle.semantics.specs.declared.values.Held.{Held}
pub use Rattle.semantics.specs.declared.values.Held.TheVariants.{Vacant as vacant, Mine as mine}
pub use Rattle.semantics.specs.declared.values.Turn.{Turn}
pub use Rattle.semantics.specs.declared.values.Turn.TheVariants.{Passes as passes, Loses as loses, Holds as holds, Finishes as finishes}
pub use Rattle.semantics.specs.declared.values.Sight.{Sight}
pub use Rattle.semantics.specs.declared.values.Sight.TheVariants.{Own as own, Free as free, Other as other}
pub use Rattle.semantics.specs.declared.values.Fate.{Fate}
pub use Rattle.semantics.specs.declared.values.Fate.TheVariants.{Stays as stays, Ends as ends, Becomes as becomes}
pub use Rattle.semantics.specs.declared.values.Effect.{Effect}
pub use Rattle.semantics.specs.declared.values.Pending.{Pending}
pub use Rattle.semantics.specs.declared.values.Pending.TheVariants.{Reading as reading, Holding as holding}
pub use Rattle.semantics.specs.declared.values.Stepped.{Stepped}

-- Where an operation stands (the specification's words: a row's record): a step is pending, or it has finished with an answer.
pub data State (T : Type 0) : Type 0 where
  pending : Pending T → State T
  finished : Answer T → State T

-- "It begins reading at the key's home, with 0 cells passed."
unfoldable pub fresh : {T : Type 0} → State T
fresh = pending (reading 0)

-- where an operation stands after a turn, with p cells passed before it
unfoldable pub after : {T : Type 0} → ℕ → Turn T → State T
after p passes = pending (reading (suc p))
after p (holds h) = pending (holding p h)
after p loses = pending (reading p)
after p (finishes a) = finished a

-- "Reading, on the word now in the cell": what an operation of key k sees there is its own key, an empty cell, or "Another key or a tombstone".
unfoldable pub sight : {T : Type 0} → ℕ → Cell T → Sight T
sight k empty = free
sight k tombstone = other
sight k (live j t) = cond (eqb k j) (own t) other

-- "insert and add hold the empty word", "insert and add finish full": the kinds that make a missing key
unfoldable pub makes : Kind → Bool
makes find = false
makes insert = true
makes update = false
makes add = true
makes remove = false

-- "An update that reads a pinned total of its room finishes at that read as held (code 9) with that total, and nothing is written.": what an
-- update does where its key has total t, by whether t is saturated
unfoldable pub updating : {T : Type 0} → T → T → Bool → Effect T
updating t amount true = record { fate = stays; answer = retained t }
updating t amount false = record { fate = becomes amount; answer = changed t }

module _ (S : Setting) where
  -- What find, insert, update, add and remove do where their key has total t, and what they answer. "An add that turns a true total into a
  -- pinned one now finishes capped (code 8) with the old total, where it finished changed."
  unfoldable pub effect : Kind → S.Total → S.Total → Effect S.Total
  effect find t amount = record { fate = stays; answer = found t }
  effect insert t amount = record { fate = stays; answer = present t }
  effect update t amount = updating t amount (S.saturated t)
  effect add t amount =
      let sum = S.plus t amount in
      record { fate = becomes sum; answer = cond (caps (S.saturated t) (S.saturated sum)) (capped t) (changed t) }
  effect remove t amount = record { fate = ends; answer = removed t }

  -- "1. The row's key": what leaves the total as it is finishes at the read, anything else holds the word
  unfoldable pub read_own : S.Total → Answer S.Total → Fate S.Total → Turn S.Total
  read_own t a stays = finishes a
  read_own t a ends = holds (mine t)
  read_own t a (becomes u) = holds (mine t)

  -- and "2. Empty", "3. Another key or a tombstone"
  unfoldable pub read : Operation S.Total → Sight S.Total → Turn S.Total
  read o (own t) = let e = effect o.kind t o.amount in read_own t e.answer e.fate
  read o free = cond (makes o.kind) (holds vacant) (finishes absent)
  read o other = passes

  -- "one more cell is passed. If c are now passed, insert and add finish full and the others finish absent."
  unfoldable pub exhausted : Kind → Answer S.Total
  exhausted k = cond (makes k) full absent

  unfoldable pub bounded : Kind → ℕ → Turn S.Total → Turn S.Total
  bounded k p passes = cond (eqb (suc p) S.size) (finishes (exhausted k)) passes
  bounded k p loses = loses
  bounded k p (holds h) = holds h
  bounded k p (finishes a) = finishes a

  -- "Swapping, one step after holding": the held word, as a cell
  unfoldable pub held_cell : ℕ → Held S.Total → Cell S.Total
  held_cell k vacant = empty
  held_cell k (mine t) = live k t

  -- "if the cell still equals the held word": whole words are compared
  unfoldable pub same_cell : Cell S.Total → Cell S.Total → Bool
  same_cell empty empty = true
  same_cell empty tombstone = false
  same_cell empty (live j u) = false
  same_cell tombstone empty = false
  same_cell tombstone tombstone = true
  same_cell tombstone (live j u) = false
  same_cell (live k t) empty = false
  same_cell (live k t) tombstone = false
  same_cell (live k t) (live j u) = eqb k j && S.same t u

  -- "New words: on an empty cell, the key and the amount (inserted); update, the key and the amount; add, the key and the sum; remove, the
  -- tombstone." The last three by the operation's effect.
  unfoldable pub fate_cell : ℕ → S.Total → Fate S.Total → Cell S.Total
  fate_cell k t stays = live k t
  fate_cell k t ends = tombstone
  fate_cell k t (becomes u) = live k u

  unfoldable pub new_cell : Operation S.Total → Held S.Total → Cell S.Total
  new_cell o vacant = live o.key o.amount
  new_cell o (mine t) = fate_cell o.key t (effect o.kind t o.amount).fate

  -- "Update and add finish changed with the old total, remove finishes removed with it." An add may be capped in place of changed; an update that is
  -- retained has finished at its read, and holds no word.
  unfoldable pub swap_answer : Operation S.Total → Held S.Total → Answer S.Total
  swap_answer o vacant = inserted
  swap_answer o (mine t) = (effect o.kind t o.amount).answer

-- what one step leaves in its cell, and how its operation's record turns
module _ (S : Setting) where
  -- "the new word is stored and the row finishes. Otherwise the swap is lost, counted, and the row reads the same cell again"
  unfoldable pub swapped : Operation S.Total → Held S.Total → Cell S.Total → Bool → Stepped S.Total
  swapped o h x true = record { cell = new_cell S o h; turn = finishes (swap_answer S o h) }
  swapped o h x false = record { cell = x; turn = loses }

  -- one step of an operation, on the one cell x that it reads
  unfoldable pub step : Operation S.Total → Pending S.Total → Cell S.Total → Stepped S.Total
  step o (reading p) x = record { cell = x; turn = bounded S o.kind p (read S o (sight o.key x)) }
  step o (holding p h) x = swapped o h x (same_cell S x (held_cell S o.key h))

  -- which cell that is: "It begins reading at the key's home"; "The cell after c − 1 is cell 0."
  unfoldable pub passed : Pending S.Total → ℕ
  passed (reading p) = p
  passed (holding p h) = p

  unfoldable pub place_of : ℕ → ℕ → ℕ
  place_of k p = (S.home k + p) % S.size

-- An operation and where it stands; then the cells, all operations, the log, and the counts of lost swaps and idle entries.
pub record Row (T : Type 0) : Type 0 where
  pub operation : Operation T
  pub state : State T

pub record Machine (T : Type 0) : Type 0 where
  pub cells : List (Cell T)
  pub rows : List (Row T)
  pub log : List ℕ
  pub lost : ℕ
  pub idle : ℕ

-- "the swap is lost, counted"
unfoldable pub count_lost : {T : Type 0} → Turn T → ℕ → ℕ
count_lost passes n = n
count_lost (holds h) n = n
count_lost loses n = suc n
count_lost (finishes a) n = n

-- "A row enters the log at the step that finishes it."
unfoldable pub logged : {T : Type 0} → Turn T → ℕ → List ℕ → List ℕ
logged passes i l = l
logged (holds h) i l = l
logged loses i l = l
logged (finishes a) i l = l ++ (i ∷ [])

-- "An entry naming a finished row changes nothing and is counted idle."
unfoldable pub idled : {T : Type 0} → Machine T → Machine T
idled m = record { cells = m.cells; rows = m.rows; log = m.log; lost = m.lost; idle = suc m.idle }

-- What an entry of the schedule does: it is idle, or the row that it names takes a step.
pub data Act (T : Type 0) : Type 0 where
  idles : Act T
  steps : Operation T → Pending T → Act T

unfoldable pub act_in : {T : Type 0} → Operation T → State T → Act T
act_in o (pending s) = steps o s
act_in o (finished a) = idles

-- of the row that it names (a number that names none is idle too; refusal 6 turns it away)
unfoldable pub act_of : {T : Type 0} → Option (Row T) → Act T
act_of none = idles
act_of (some r) = act_in r.operation r.state

module _ (S : Setting) where
  -- "One step changes the lent record of one row and at most one cell."
  unfoldable pub taken : Machine S.Total → ℕ → Operation S.Total → Pending S.Total → Machine S.Total
  taken m i o s =
      let at = place_of S o.key (passed S s) in
      let r = step S o s (get_or m.cells at empty) in
      record {
        cells = set m.cells at r.cell;
        rows = set m.rows i (record { operation = o; state = after (passed S s) r.turn });
        log = logged r.turn i m.log;
        lost = count_lost r.turn m.lost;
        idle = m.idle;
      }

  -- an entry is its act, applied to the machine
  unfoldable pub applied : Machine S.Total → ℕ → Act S.Total → Machine S.Total
  applied m i idles = idled m
  applied m i (steps o s) = taken m i o s

  unfoldable pub entry : Machine S.Total → ℕ → Machine S.Total
  entry m i = applied m i (act_of (get_elem? m.rows i))

  -- "Before the first entry the cells are the starting cells, as lent to the run, and no row has taken a step."
  unfoldable pub fresh_row : Operation S.Total → Row S.Total
  fresh_row o = record { operation = o; state = fresh }

  unfoldable pub begin : List (Cell S.Total) → List (Operation S.Total) → Machine S.Total
  begin cells ops = record { cells = cells; rows = map fresh_row ops; log = []; lost = 0; idle = 0 }

  -- "Each entry does what the step rules say, on the cells and row records that the one before left; nothing else changes them."
  unfoldable pub run : List (Cell S.Total) → List (Operation S.Total) → List ℕ → Machine S.Total
  run cells ops schedule = foldl entry (begin cells ops) schedule

-- an operation's answer once it has finished, and whether it has
unfoldable pub answered : {T : Type 0} → State T → Option (Answer T)
answered (pending s) = none
answered (finished a) = some a

unfoldable pub answer_in : {T : Type 0} → Option (Row T) → Option (Answer T)
answer_in none = none
answer_in (some r) = answered r.state

unfoldable pub finished_in : {T : Type 0} → List (Row T) → ℕ → Bool
finished_in rows i = is_some (answer_in (get_elem? rows i))

-- "Finished rows are a set of 64 places, and the done count is its size": how many there are. Sets.antt has such sets.
unfoldable pub done_count : {T : Type 0} → List (Row T) → ℕ
done_count rows = count_of (λ r. is_some (answered r.state)) rows
