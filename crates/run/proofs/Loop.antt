-- The loop over the schedule: what stands in the slices after k entries is what a run of those alone leaves (specs/Underway.antt), and one
-- entry more, idle or not, keeps it so.
-- Assumes nothing.
use Rattle.std.proofs.Common.{◌≡◌, ℕ, zero, suc, ◌+◌, ◌%◌, ◌≤◌, ◌<◌, Bool, true, false, cond, ◌||◌, Option, List, [], ◌∷◌, map, length, get_or, take, set, replicate, eqb, Some, None, refl, sym, ap, subst, ◌∙◌, arith}
use mathlib.Core.Path.{ap₂}
use mathlib.Core.Logic.{◌⊎◌, inl, inr}
use mathlib.Core.List.{map-map}
use Rattle.std.proofs.Math.Option.{some, none}
use Rattle.std.proofs.Math.Nat.{add-zero, mod-lt, mod-eq_of_lt}
use lib.ListN.{get_elem?, length-map, length-append, get_or-map}
use lib.Seq.{take-suc, take_all, set-get_or, get_or-set_same}
use borrow.Author.Tests.{eqb-true, eqb-false}
use Rattle.std.specs.Int.Count.{ones}
use Rattle.semantics.specs.declared.Total.{Total}
use Rattle.semantics.specs.declared.rules.Bounds.{Bounds}
use Rattle.semantics.specs.declared.values.Cell.{Cell}
use Rattle.semantics.specs.declared.values.Cell.TheVariants.{Empty, Tombstone, Live}
use Rattle.semantics.specs.declared.values.Operation.{Operation}
use Rattle.semantics.specs.declared.values.Answer.{Answer}
use Rattle.semantics.specs.declared.values.Turn.{Turn}
use Rattle.semantics.specs.declared.values.Turn.TheVariants.{Passes, Holds, Loses, Finishes}
use Rattle.semantics.specs.declared.values.Held.{Held}
use Rattle.semantics.specs.declared.values.Pending.{Pending}
use Rattle.semantics.specs.declared.values.Pending.TheVariants.{Reading, Holding}
use Rattle.semantics.specs.declared.values.Stepped.{Stepped}
use Rattle.semantics.specs.Basics.{is_some, occurs, count_of}
use Rattle.semantics.specs.Cells.{Setting, total_of}
use Rattle.semantics.specs.Step.{State, pending, Row as RuleRow, Machine, idled, after}
use Rattle.semantics.specs.Step.{step, passed, place_of, taken, entry, answered, answer_in, finished_in, done_count, logged, count_lost, fresh, fresh_row, run, begin}
use Rattle.semantics.specs.Sets.{is_in, including}
use Rattle.semantics.specs.Widths.{width_of}
use Rattle.semantics.proofs.Widths.{packing-of}
use Rattle.semantics.specs.Words.{Width, carried, encode, decode, decode_operation, is_kind, answer_word, setting_of, home_in, nothing}
use Rattle.semantics.specs.Refusals.{Call as Checked, call_of}
use Rattle.semantics.specs.Run.{Result, over, made_outcome, machine, answer_of, outcome_of, accepted_result, run_result}
use Rattle.semantics.proofs.Counts.{none-false, count-le, count-below}
use Rattle.semantics.proofs.Entries.{entry-idles, entry-steps, finished-here, finished-other}
use Rattle.semantics.proofs.Lists.{map_each, elem_at, elem-get_d, elem-map, elem-set-same, map-set, map-set-elem}
use Rattle.semantics.proofs.Sizes.{allowed-bounds, home-inside}
use Rattle.semantics.proofs.RunPacks.{AllPack, Stands}
use Rattle.semantics.proofs.Start.{Passed, accepted-call}
use Rattle.semantics.proofs.Booleans.{passed as test-passed}
use Rattle.semantics.proofs.Words.{Packing, Packs, decode-encode, encode-decode-all}
use Rattle.semantics.proofs.WordsHold as hold
use Rattle.semantics.proofs.Over.{over_none, over-get, over-set, over-next, over-length}
use Rattle.bitset.proofs.Sets.{in-none, in-including, size_none, size-including}
use Rattle.hash.proofs.Powers.{home-is as scaled-is}
use Rattle.word.specs.Fits.{FitsCell, FitsAnswer, truncated_cell}
use Rattle.word.proofs.Truncated.{Within, within, cell-same, answer-same}
use Rattle.row.specs.declared.Row.{Row}
use Rattle.row.specs.declared.Stage.TheVariants.{Reading as AtReading}
use Rattle.row.specs.Row.{row_of, finishing, is_holding, step_taken, after_step, skims, skimmed}
use Rattle.row.proofs.Represents.{row-at, row-holds, holds, taken-is, after-is, kept-cell, read-cell, skims-is}
use Rattle.run.specs.declared.Taken.TheVariants.{GoesOn}
use Rattle.run.specs.Rows.{blank_rows, no_row, begun, first_row, first_rows}
use Rattle.run.specs.Entry.{answer_word as packed_of, Standing, stands, stored, told, told_if, cell_at, after_step_of, after_idle, after_entry, taken_of}
use Rattle.run.specs.Underway.{Call, result_of, row_in, IsAccepted, machine_after, Underway, Due, standing_after}

-- which rows have finished, after one is stored anew
finished-set : (rows : List (RuleRow Total)) (i : ℕ) {r : RuleRow Total} (r' : RuleRow Total) (j : ℕ) → get_elem? rows i ≡ some r
    → finished_in (set rows i r') j ≡ cond (eqb i j) (is_some (answered r'.state)) (finished_in rows j)
finished-set rows i r' j at = go (eqb i j) refl
  where
    go : (b : Bool) → eqb i j ≡ b → finished_in (set rows i r') j ≡ cond b (is_some (answered r'.state)) (finished_in rows j)
    go true e = ap (finished_in (set rows i r')) (sym (eqb-true i j e)) ∙ finished-here rows i r' at
    go false e = finished-other rows i r' j (λ q. eqb-false i j e (sym q))

module _ {W : Width} (P : Packing W) (b : Call) (accepted : IsAccepted W b) where
  abbrev call : Checked
  call = call_of b.cells b.operations b.schedule (length b.answers) (length b.log)

  pub ok : Passed W call
  ok = accepted-call W call accepted

  abbrev c : ℕ
  c = length b.cells

  abbrev n : ℕ
  n = length b.operations

  abbrev S : Setting
  S = setting_of W c

  abbrev pub bounds : Bounds
  bounds = record { ceiling = W.ceiling; cells = c }

  abbrev after-entries : ℕ → Machine Total
  after-entries = machine_after W b

  counted : (k : ℕ) → done_count (after-entries k).rows ≡ length (after-entries k).log
  counted k = (hold.lin P call ok (take k b.schedule)).counted

  packs-after : (k : ℕ) → AllPack W c (after-entries k)
  packs-after k = hold.packs P call ok (take k b.schedule)

  pub sized : (0 < c) × (c ≤ 4096)
  sized = allowed-bounds c ok.size

  -- before the first entry
  home-is : (i : ℕ) → i < n
      → let w = get_or b.operations i 0 in
      first_row W c w ≡ row_of c (decode_operation W w) fresh
  unfolding fresh
  home-is i less =
      let w = get_or b.operations i 0 in
      let o = decode_operation W w in
      -- a call that is not turned away has only kinds
      let known : is_kind (W.kind_bits w) ≡ true = test-passed (is_kind (W.kind_bits w)) (P.operation-parts w (ok.operations i less)).0 in
      ap (λ (z : Bool). record { operation = o; progress = cond z (begun c o.key) finishing }) known
      ∙ ap (λ (h : ℕ). record { operation = o; progress = record { at = h; passed = 0; stage = AtReading } })
      (scaled-is c o.key ok.size
      ∙ sym (ap (λ (z : ℕ). z % c) (add-zero (home_in c o.key)) ∙ mod-eq_of_lt (home-inside c ok.size o.key)))

  rows-first : first_rows W c b.operations ≡ over (map (row_in c) (map (fresh_row S) (map (decode_operation W) b.operations))) blank_rows
  unfolding first_rows fresh_row
  rows-first =
      let first = fresh_row S in
      ap (λ l. over l blank_rows)
      (ap (map (first_row W c)) (take_all 64 b.operations ok.few)
      ∙ map_each (first_row W c) (λ w. row_in c (first (decode_operation W w))) b.operations 0 home-is
      ∙ sym (map-map (λ o. row_in c (first o)) (decode_operation W) b.operations)
      ∙ sym (map-map (row_in c) first (map (decode_operation W) b.operations)))

  answers-first : replicate n 0 ≡ map (answer_of W) (map (fresh_row S) (map (decode_operation W) b.operations))
  unfolding fresh_row fresh answer_of answered answer_word
  answers-first = go b.operations
    where
      go : (l : List ℕ) → replicate (length l) 0 ≡ map (answer_of W) (map (fresh_row S) (map (decode_operation W) l))
      go [] = refl
      go (w ∷ l) = ap (◌∷◌ 0) (go l)

  none_first : (i : ℕ) → is_in 0 i ≡ finished_in (after-entries 0).rows i
  unfolding machine run begin occurs count_of
  none_first i = in-none i ∙ sym (none-false (finished_in (after-entries 0).rows i) (sym ((hold.lin P call ok []).once i)))

  -- what stands is what a run ending there leaves, if its parts are those of the machine m that the rules have come to
  underway : (k : ℕ) {m : Machine Total} → after-entries k ≡ m → (st : Standing)
      → st.cells ≡ map (encode W) m.cells → st.rows ≡ over (map (row_in c) m.rows) blank_rows
      → st.answers ≡ over (map (answer_of W) m.rows) b.answers → st.log ≡ over m.log b.log
      → ((i : ℕ) → is_in st.finished i ≡ finished_in m.rows i) → ones st.finished ≡ length m.log → st.lost ≡ m.lost → st.idle ≡ m.idle
      → st.lost + st.idle ≤ k → Underway W b k st
  unfolding accepted_result outcome_of
  underway k is st cells rows answers log done-are size lost idles few =
      let done = counted k ∙ ap (λ (q : Machine Total). length q.log) is ∙ sym size in
      let lost-is = ap (λ (q : Machine Total). q.lost) is ∙ sym lost in
      let idle-is = ap (λ (q : Machine Total). q.idle) is ∙ sym idles in
      let cells_are = ap (λ (q : Machine Total). map (encode W) q.cells) is ∙ sym cells in
      let answers-are = ap (λ (q : Machine Total). over (map (answer_of W) q.rows) b.answers) is ∙ sym answers in
      let log_is = ap (λ (q : Machine Total). over q.log b.log) is ∙ sym log in
      record {
        accepted = accepted;
        holds = hold.rules P _ _ _ _ _ accepted k
            ∙ (λ i. record { outcome = made_outcome (done i) (lost-is i) (idle-is i); cells = cells_are i; answers = answers-are i; log = log_is i });
        rows_are = rows ∙ ap (λ (q : Machine Total). over (map (row_in c) q.rows) blank_rows) (sym is);
        finished-are = λ i. done-are i ∙ ap (λ (q : Machine Total). finished_in q.rows i) (sym is);
        few = few;
      }

  -- before the first entry, every row's 0 is in the slice
  pub at-start : {cells answers : List ℕ} {rows : List Row} → cells ≡ b.cells → answers ≡ over (replicate n 0) b.answers
      → rows ≡ first_rows W c b.operations
      → Underway W b 0 (record { cells = cells; rows = rows; answers = answers; log = b.log; finished = 0; lost = 0; idle = 0 })
  unfolding machine run begin
  at-start same cleared begun =
      underway 0 refl _ (same ∙ sym (encode-decode-all P b.cells ok.cells)) (begun ∙ rows-first)
      (cleared ∙ ap (λ (l : List ℕ). over l b.answers) answers-first) (sym (over_none b.log)) none_first size_none refl refl (omega arith)

  -- the machine after one entry more
  next : (k : ℕ) → k < length b.schedule → after-entries (k + 1) ≡ entry S (after-entries k) (get_or b.schedule k 0)
  next k less =
      let one : k + 1 ≡ suc k = omega arith in
      ap (λ (l : List ℕ). machine W b.cells b.operations l) (ap (λ j. take j b.schedule) one ∙ take-suc b.schedule k 0 less)
      ∙ hold.one_entry P call ok (take k b.schedule) (get_or b.schedule k 0)

  -- where k entries have been taken
  module _ {k : ℕ} {st : Standing} (H : Underway W b k st) where
    abbrev m : Machine Total
    m = after-entries k

    packs : AllPack W c m
    packs = packs-after k

    -- what stands, part by part
    left : accepted_result W m b.answers b.log ≡ result_of st
    left = sym (hold.rules P _ _ _ _ _ accepted k) ∙ H.holds

    cells_are : st.cells ≡ map (encode W) m.cells
    unfolding accepted_result
    cells_are = ap (λ (r : Result). r.cells) (sym left)

    answers-are : st.answers ≡ over (map (answer_of W) m.rows) b.answers
    unfolding accepted_result
    answers-are = ap (λ (r : Result). r.answers) (sym left)

    log_is : st.log ≡ over m.log b.log
    unfolding accepted_result
    log_is = ap (λ (r : Result). r.log) (sym left)

    size_is : ones st.finished ≡ length m.log
    unfolding accepted_result outcome_of
    size_is = ap (λ (r : Result). r.outcome.done) (sym left) ∙ counted k

    lost-is : st.lost ≡ m.lost
    unfolding accepted_result outcome_of
    lost-is = ap (λ (r : Result). r.outcome.lost) (sym left)

    idle-is : st.idle ≡ m.idle
    unfolding accepted_result outcome_of
    idle-is = ap (λ (r : Result). r.outcome.idle) (sym left)

    -- the slices are as long as they were
    pub cells-long : length st.cells ≡ c
    cells-long = ap length cells_are ∙ length-map m.cells (encode W) ∙ packs.long

    rows_long : length m.rows ≡ n
    rows_long = hold.same_length P call ok (take k b.schedule)

    pub log-long : length st.log ≡ length b.log
    unfolding done_count
    log-long =
        let some-rows = count-le (λ (r : RuleRow Total). is_some (answered r.state)) m.rows in
        ap length log_is ∙ over-length m.log b.log (omega (arith, counted k, some-rows, rows_long, ok.log))

    -- after the last entry
    pub at-end : length b.schedule ≤ k → run_result W b.cells b.operations b.schedule b.answers b.log ≡ result_of st
    at-end all = ap (λ (l : List ℕ). run_result W b.cells b.operations l b.answers b.log) (sym (take_all k b.schedule all)) ∙ H.holds

    -- an entry that names row i
    module _ {i : ℕ} (less : k < length b.schedule) (names : i ≡ get_or b.schedule k 0) where
      below : i < n
      below = subst (λ j. j < n) (sym names) (ok.entries k less)

      pub small : i < 64
      small = omega (arith, below, ok.few)

      -- an entry that names a finished row is idle
      pub at-idle : is_in st.finished i ≡ true → Underway W b (k + 1) (after_idle st)
      unfolding idled
      at-idle e =
          let is : after-entries (k + 1) ≡ idled m = next k less ∙ ap (entry S m) (sym names) ∙ entry-idles S m i (sym (H.finished-are i) ∙ e) in
          underway (k + 1) is _ cells_are H.rows_are answers-are log_is H.finished-are size_is lost-is (omega (arith, idle-is)) (omega (arith, H.few))

      -- and one that names an unfinished row is a step of it
      module _ (unfinished : is_in st.finished i ≡ false) where
        -- what is read past the last row
        abbrev z : Row
        z = no_row

        abbrev row : RuleRow Total
        row = get_or m.rows i (record { operation = decode_operation W 0; state = fresh })

        row_at : get_elem? m.rows i ≡ some row
        row_at = elem_at m.rows i _ (omega (arith, below, rows_long))

        steps : (s : Pending Total) × (row.state ≡ pending s) × (entry S m i ≡ taken S m i row.operation s)
        steps = entry-steps S m i row row_at (sym (H.finished-are i) ∙ unfinished)

        abbrev o : Operation Total
        o = row.operation

        abbrev s : Pending Total
        s = steps.0

        abbrev place : ℕ
        place = place_of S o.key (passed S s)

        abbrev x : Cell Total
        x = get_or m.cells place Empty

        abbrev stepped : Stepped Total
        stepped = step S o s x

        abbrev row-then : Turn Total → RuleRow Total
        row-then t = record { operation = o; state = after (passed S s) t }

        next-is : after-entries (k + 1) ≡ taken S m i o s
        next-is = next k less ∙ ap (entry S m) (sym names) ∙ steps.2

        place-inside : place < c
        unfolding place_of
        place-inside = mod-lt (home_in c o.key + passed S s) sized.0

        -- the record that the code reads, and where it stands
        abbrev now : Row
        now = get_or st.rows i z

        now-is : now ≡ row_of c o (pending s)
        now-is =
            let f = row_in c in
            let (long, at) = elem-get_d (map f m.rows) i z (elem-map f m.rows i row_at) in
            ap (λ l. get_or l i z) H.rows_are
            ∙ over-get (map f m.rows) blank_rows i z long
            ∙ at
            ∙ ap (λ (y : State Total). row_of c o y) steps.1

        at-is : now.progress.at ≡ place
        at-is = ap (λ (r : Row). r.progress.at) now-is ∙ row-at bounds o sized.0 s

        pub inside : now.progress.at < length st.cells
        inside = omega (arith, at-is, place-inside, cells-long)

        -- the cell that it reads
        abbrev seen : Cell Total
        seen = decode W (get_or st.cells now.progress.at 0)

        seen-is : seen ≡ x
        unfolding encode
        seen-is =
            ap₂ (λ (l : List ℕ) (p : ℕ). decode W (get_or l p 0)) cells_are at-is
            ∙ ap (decode W) (get_or-map (encode W) m.cells place Empty)
            ∙ decode-encode P x (packs.cells place)

        passes_on : passed S s < c
        unfolding passed
        passes_on = within s (subst (Stands W c row.operation.key) steps.1 (packs.rows i row row_at).1)
          where
            within : (p : Pending Total) → Stands W c row.operation.key (pending p) → passed S p < c
            within (Reading p) h = h
            within (Holding p w) h = h.0

        -- what its step leaves
        taken-here : step_taken bounds now seen ≡ Some stepped
        taken-here = ap₂ (step_taken bounds) now-is seen-is ∙ taken-is bounds o sized.0 s passes_on x

        after-here : after_step bounds now seen ≡ row_of c o (after (passed S s) stepped.turn)
        after-here = ap₂ (after_step bounds) now-is seen-is ∙ after-is bounds o sized.0 s passes_on x

        -- there is room in the log, since row i is not in it
        pub log-room : ones st.finished < length st.log
        unfolding done_count finished_in answer_in
        log-room =
            let open_row : is_some (answered row.state) ≡ false = sym (ap (λ x. is_some (answer_in x)) row_at) ∙ sym (H.finished-are i) ∙ unfinished in
            let some_left = count-below (λ (r : RuleRow Total). is_some (answered r.state)) m.rows i _ (omega (arith, below, rows_long)) open_row in
            omega (arith, size_is, counted k, some_left, rows_long, ok.log, log-long)

        -- what is left can be packed
        packs-then : AllPack W c (taken S m i o s)
        packs-then = subst (AllPack W c) next-is (packs-after (k + 1))

        cell-packs : Packs W stepped.cell
        unfolding taken
        cell-packs = subst (Packs W) (get_or-set_same m.cells place stepped.cell Empty (omega (arith, place-inside, packs.long))) (packs-then.cells place)

        cell-fits : FitsCell W stepped.cell
        cell-fits = go stepped.cell cell-packs
          where
            go : (y : Cell Total) → Packs W y → FitsCell W y
            go Empty p = tt
            go Tombstone p = test-passed (W.is_total nothing) P.nothing-total
            go (Live k t) p = test-passed (W.is_total t) p.is-total

        answer-fits : (a : Answer Total) → stepped.turn ≡ Finishes a → FitsAnswer W a
        unfolding taken after
        answer-fits a is =
            let at = elem-set-same m.rows i (row-then stepped.turn) row_at in
            test-passed (W.is_total (carried (total_of a))) (subst (λ (t : Turn Total). Stands W c o.key (after (passed S s) t)) is (packs-then.rows i (row-then stepped.turn) at).1)

        -- a step that does not finish leaves the cells
        cells-stay : ((a : _) → stepped.turn ≡ Finishes a → ⊥) → st.cells ≡ map (encode W) (set m.cells place stepped.cell)
        cells-stay h =
            cells_are ∙ ap (map (encode W)) (sym (ap (set m.cells place) (kept-cell S o s x h) ∙ set-get_or m.cells place Empty))

        rows-then : set st.rows i (after_step bounds now seen) ≡ over (map (row_in c) (set m.rows i (row-then stepped.turn))) blank_rows
        rows-then =
            let f = row_in c in
            let long : i < length (map f m.rows) = omega (arith, below, rows_long, length-map m.rows f) in
            ap₂ (λ (x : List Row) (y : Row). set x i y) H.rows_are after-here
            ∙ over-set (map f m.rows) blank_rows i (f (row-then stepped.turn)) long
            ∙ ap (λ l. over l blank_rows) (sym (map-set f m.rows i (row-then stepped.turn)))

        -- the machine after it, by the turn t
        abbrev reached : Turn Total → Machine Total
        reached t =
            record {
              cells = set m.cells place stepped.cell;
              rows = set m.rows i (row-then t);
              log = logged t i m.log;
              lost = count_lost t m.lost;
              idle = m.idle;
            }

        -- where the run stands then
        abbrev Then : List ℕ → List ℕ → List ℕ → ℕ → ℕ → Type 0
        Then cells' answers' log' finished' lost' =
            Underway W b (k + 1)
            (record {
              cells = cells';
              rows = set st.rows i (after_step bounds now seen);
              answers = answers';
              log = log';
              finished = finished';
              lost = lost';
              idle = st.idle;
            })

        kept : (t : Turn Total) → stepped.turn ≡ t → (cells' answers' log' : List ℕ) (finished' lost' : ℕ)
            → cells' ≡ map (encode W) (set m.cells place stepped.cell)
            → answers' ≡ over (map (answer_of W) (reached t).rows) b.answers → log' ≡ over (reached t).log b.log
            → ((j : ℕ) → is_in finished' j ≡ finished_in (reached t).rows j) → ones finished' ≡ length (reached t).log → lost' ≡ (reached t).lost
            → lost' + st.idle ≤ k + 1
            → Then cells' answers' log' finished' lost'
        unfolding taken
        kept t is cells' answers' log' finished' lost' q a l f n' e w =
            underway (k + 1) {m = reached t} (next-is ∙ ap reached is) _ q
            (rows-then ∙ ap (λ (u : Turn Total). over (map (row_in c) (reached u).rows) blank_rows) is) a l f n' e idle-is w

        -- a turn that does not finish: no answer, no place in the log
        unanswered : answer_of W row ≡ 0
        unfolding answer_of answered answer_word
        unanswered = ap (λ (x : State Total). answer_word W (answered x)) steps.1

        answers_stay : (t : Turn Total) → answered (after (passed S s) t) ≡ none
            → st.answers ≡ over (map (answer_of W) (reached t).rows) b.answers
        unfolding answer_of answer_word
        answers_stay t e =
            answers-are
            ∙ ap (λ (l : List ℕ). over l b.answers)
            (sym (map-set-elem (answer_of W) m.rows i (row-then t) row_at (ap (answer_word W) e ∙ sym unanswered)))

        set-stays : (t : Turn Total) → answered (after (passed S s) t) ≡ none → (j : ℕ) → is_in st.finished j ≡ finished_in (reached t).rows j
        unfolding is_some
        set-stays t e j = go (eqb i j) refl ∙ sym (finished-set m.rows i (row-then t) j row_at)
          where
            go : (z : Bool) → eqb i j ≡ z → is_in st.finished j ≡ cond z (is_some (answered (after (passed S s) t))) (finished_in m.rows j)
            go true q = ap (is_in st.finished) (sym (eqb-true i j q)) ∙ unfinished ∙ ap is_some (sym e)
            go false q = H.finished-are j

        stays : (t : Turn Total) → stepped.turn ≡ t → ((a : _) → t ≡ Finishes a → ⊥) → answered (after (passed S s) t) ≡ none → (reached t).log ≡ m.log
            → (lost' : ℕ) → lost' ≡ (reached t).lost → lost' + st.idle ≤ k + 1
            → Then st.cells st.answers st.log st.finished lost'
        stays t is not open-state silent lost' lose w =
            kept t is st.cells st.answers st.log st.finished lost' (cells-stay (λ a e. not a (sym is ∙ e))) (answers_stay t open-state)
            (log_is ∙ ap (λ (l : List ℕ). over l b.log) (sym silent))
            (set-stays t open-state) (size_is ∙ ap length (sym silent)) lose w

        -- one that finishes
        set-grows : (a : Answer Total) (j : ℕ) → is_in (including st.finished i) j ≡ finished_in (reached (Finishes a)).rows j
        unfolding after answered is_some
        set-grows a j = in-including st.finished i small j ∙ go (eqb i j) ∙ sym (finished-set m.rows i (row-then (Finishes a)) j row_at)
          where
            go : (z : Bool) → (z || is_in st.finished j) ≡ cond z true (finished_in m.rows j)
            go true = refl
            go false = H.finished-are j

        -- the swap of a word that it held stores the cell, and a read leaves the cells
        holding-here : is_holding now.progress.stage ≡ holds s
        holding-here = ap (λ (r : Row). is_holding r.progress.stage) now-is ∙ row-holds bounds o sized.0 s

        cells-then : Within W → (z : Bool) → holds s ≡ z
            → stored W z now.progress.at stepped.cell st.cells ≡ map (encode W) (set m.cells place stepped.cell)
        cells-then inside-it true e =
            ap₂ (λ (l : List ℕ) (p : ℕ). set l p (encode W (truncated_cell W stepped.cell))) cells_are at-is
            ∙ ap (λ (y : Cell Total). set (map (encode W) m.cells) place (encode W y)) (cell-same W inside-it stepped.cell cell-fits)
            ∙ sym (map-set (encode W) m.cells place stepped.cell)
        cells-then inside-it false e =
            cells_are ∙ ap (map (encode W)) (sym (ap (set m.cells place) (read-cell S o s x e) ∙ set-get_or m.cells place Empty))

        -- so an entry leaves what `after_entry` says, turn by turn
        step-keeps : Within W → Underway W b (k + 1) (after_step_of W bounds i st)
        unfolding after_step_of told answer_of answered after logged count_lost
        step-keeps inside-it = subst (λ (y : Option (Stepped Total)). Underway W b (k + 1) (told_if W (is_holding now.progress.stage) now.progress.at i y stepping)) (sym taken-here) (go stepped.turn refl)
          where
            stepping : Standing
            stepping = stands st.cells st.answers st.log st.finished (set st.rows i (after_step bounds now seen)) st.lost st.idle

            go : (t : Turn Total) → stepped.turn ≡ t → Underway W b (k + 1) (told W (is_holding now.progress.stage) now.progress.at i stepped.cell t stepping)
            go Passes e = stays Passes e (λ a q. cc) refl refl st.lost lost-is (omega (arith, H.few))
            go (Holds h) e = stays (Holds h) e (λ a q. cc) refl refl st.lost lost-is (omega (arith, H.few))
            go Loses e = stays Loses e (λ a q. cc) refl refl (st.lost + 1) (omega (arith, lost-is)) (omega (arith, H.few))
            go (Finishes a) e =
                let rows = map (answer_of W) m.rows in
                let long : i < length rows = omega (arith, below, rows_long, length-map m.rows (answer_of W)) in
                kept (Finishes a) e _ _ _ _ st.lost
                (ap (λ (z : Bool). stored W z now.progress.at stepped.cell st.cells) holding-here
                ∙ cells-then inside-it (holds s) refl)
                (ap₂ (λ (l : List ℕ) (q : ℕ). set l i q) answers-are (answer-same W inside-it a (answer-fits a e))
                ∙ over-set rows b.answers i (answer_word W (some a)) long
                ∙ ap (λ (l : List ℕ). over l b.answers) (sym (map-set (answer_of W) m.rows i (row-then (Finishes a)))))
                (ap (λ (l : List ℕ). set l (ones st.finished) i) log_is ∙ over-next m.log b.log (ones st.finished) i (sym size_is) (omega (arith, log-room, log-long)))
                (set-grows a)
                (size-including st.finished i small unfinished ∙ omega (arith, size_is, length-append m.log (i ∷ [])))
                lost-is
                (omega (arith, H.few))

-- a step of a row that has not finished
pub step-kept : {W : Width} (P : Packing W) (inside : Within W) (b : Call) {k i : ℕ} {limits : Bounds} {st : Standing} → Due W b limits k i
    → is_in st.finished i ≡ false → Underway W b k st → Underway W b (k + 1) (after_step_of W limits i st)
step-kept {W} P inside b {k} {i} {limits} {st} due unfinished H =
    subst (λ (l : Bounds). Underway W b (k + 1) (after_step_of W l i st)) (sym due.limits) (step-keeps P b H.accepted H due.left due.names unfinished inside)

-- an entry, whether its row has finished or not
pub entry-keeps : {W : Width} (P : Packing W) (inside : Within W) (b : Call) {k i : ℕ} {limits : Bounds} {st : Standing} → Due W b limits k i
    → Underway W b k st → Underway W b (k + 1) (after_entry W limits i st)
unfolding after_entry
entry-keeps {W} P inside b {k} {i} {limits} {st} due H =
    subst (λ (l : Bounds). Underway W b (k + 1) (after_entry W l i st)) (sym due.limits) (go (is_in st.finished i) refl)
  where
    go : (z : Bool) → is_in st.finished i ≡ z → Underway W b (k + 1) (cond z (after_idle st) (after_step_of W (bounds P b H.accepted) i st))
    go true e = at-idle P b H.accepted H due.left due.names e
    go false e = step-keeps P b H.accepted H due.left due.names e inside

-- so what leaves what `after_entry` says keeps it
pub entry_at_once : {W : Width} (P : Packing W) (inside : Within W) {limits : Bounds} {i : ℕ} {st q : Standing} → after_entry W limits i st ≡ q
    → (after_entry W limits i st ≡ q) × ((b : Call) (k : ℕ) → Due W b limits k i → Underway W b k st → Underway W b (k + 1) q)
entry_at_once {W} P inside is = (is, λ b k due H. subst (Underway W b (k + 1)) is (entry-keeps P inside b due H))

-- and for every beginning of a schedule the slices, as its entries are taken, hold what a run of that beginning leaves
pub every-beginning : {W : Width} (P : Packing W) (inside : Within W) (b : Call) → IsAccepted W b → (k : ℕ) → k ≤ length b.schedule
    → Underway W b k (standing_after W b k)
unfolding standing_after
every-beginning P inside b accepted zero all = at-start P b accepted refl refl refl
every-beginning {W} P inside b accepted (suc k) all =
    let one : k + 1 ≡ suc k = omega arith in
    subst (λ (n : ℕ). Underway W b n (standing_after W b (suc k))) one
    (entry-keeps P inside b (record { left = all; names = refl; limits = refl }) (every-beginning P inside b accepted k (omega arith)))

-- all this at either width
pub at-start-of : (flagged : Bool) (b : Call) → IsAccepted (width_of flagged) b → {cells answers : List ℕ} {rows : List Row} → cells ≡ b.cells
    → answers ≡ over (replicate (length b.operations) 0) b.answers → rows ≡ first_rows (width_of flagged) (length b.cells) b.operations
    → Underway (width_of flagged) b 0 (stands cells answers b.log 0 rows 0 0)
at-start-of flagged = at-start (packing-of flagged)

pub at-idle-of : (flagged : Bool) (b : Call) → IsAccepted (width_of flagged) b → {k : ℕ} {st : Standing} → Underway (width_of flagged) b k st
    → {i : ℕ} → k < length b.schedule → i ≡ get_or b.schedule k 0 → is_in st.finished i ≡ true → Underway (width_of flagged) b (k + 1) (after_idle st)
at-idle-of flagged = at-idle (packing-of flagged)

pub at-end-of : (flagged : Bool) (b : Call) → IsAccepted (width_of flagged) b → {k : ℕ} {st : Standing} → Underway (width_of flagged) b k st
    → length b.schedule ≤ k → run_result (width_of flagged) b.cells b.operations b.schedule b.answers b.log ≡ result_of st
at-end-of flagged = at-end (packing-of flagged)

pub entry-keeps-of : (flagged : Bool) (b : Call) {k i : ℕ} {limits : Bounds} {st : Standing} → Due (width_of flagged) b limits k i
    → Underway (width_of flagged) b k st → Underway (width_of flagged) b (k + 1) (after_entry (width_of flagged) limits i st)
entry-keeps-of flagged = entry-keeps (packing-of flagged) (within flagged)

pub every-beginning-of : (flagged : Bool) (b : Call) → IsAccepted (width_of flagged) b → (k : ℕ) → k ≤ length b.schedule
    → Underway (width_of flagged) b k (standing_after (width_of flagged) b k)
every-beginning-of flagged = every-beginning (packing-of flagged) (within flagged)

-- the set and the counts as they are kept elsewhere
pub recounted : {W : Width} {b : Call} {k : ℕ} {cells answers log : List ℕ} {rows : List Row} {finished' finished'' lost lost' idle idle' : ℕ}
    → Underway W b k (stands cells answers log finished' rows lost idle) → finished'' ≡ finished' → lost' ≡ lost → idle' ≡ idle
    → Underway W b k (stands cells answers log finished'' rows lost' idle')
recounted {W} {b} {k} {cells} {answers} {log} {rows} H f l d =
    subst (Underway W b k) (λ j. stands cells answers log (sym f j) rows (sym l j) (sym d j)) H

-- what a step leaves: of its own row, at the cell that it reads, and what its turn adds
leaves : (W : Width) (limits : Bounds) (i : ℕ) (st : Standing) {own own' : Row} → own ≡ get_or st.rows i no_row
    → {x : Cell Total} → x ≡ cell_at W st.cells own.progress.at → own' ≡ after_step limits own x
    → {y : Option (Stepped Total)} → y ≡ step_taken limits own x
    → after_step_of W limits i st
    ≡ told_if W (is_holding own.progress.stage) own.progress.at i y (stands st.cells st.answers st.log st.finished (set st.rows i own') st.lost st.idle)
unfolding after_step_of
leaves W limits i st {own} mine reads goes took =
    sym (λ j. by (mine j) ((reads ∙ ap (λ (r : Row). cell_at W st.cells r.progress.at) mine) j))
    ∙ (λ j. told_if W (is_holding own.progress.stage) own.progress.at i (sym took j) (stands st.cells st.answers st.log st.finished (set st.rows i (sym goes j)) st.lost st.idle))
  where
    by : Row → Cell Total → Standing
    by r u = told_if W (is_holding r.progress.stage) r.progress.at i (step_taken limits r u) (stands st.cells st.answers st.log st.finished (set st.rows i (after_step limits r u)) st.lost st.idle)

-- "after every entry the slice holds what a run ending there leaves": so the step of an entry, of its own row, what it stores and what its turn
-- adds keep it
pub at_once : {W : Width} (P : Packing W) (inside : Within W) {limits : Bounds} {i : ℕ} {st : Standing} {own own' : Row} → own ≡ get_or st.rows i no_row
    → {x : Cell Total} → x ≡ cell_at W st.cells own.progress.at → own' ≡ after_step limits own x
    → {y : Option (Stepped Total)} → y ≡ step_taken limits own x → {q : Standing}
    → told_if W (is_holding own.progress.stage) own.progress.at i y (stands st.cells st.answers st.log st.finished (set st.rows i own') st.lost st.idle) ≡ q
    → (after_step_of W limits i st ≡ q)
    × ((b : Call) (k : ℕ) → Due W b limits k i → is_in st.finished i ≡ false → Underway W b k st → Underway W b (k + 1) q)
at_once {W} P inside {limits} {i} {st} mine reads goes took adds =
    let is = leaves W limits i st mine reads goes took ∙ adds in (
      is,
      λ b k due unfinished H. subst (Underway W b (k + 1)) is (step-kept P inside b due unfinished H),
    )

-- at either width
pub at_once-of : (flagged : Bool) {limits : Bounds} {i : ℕ} {st : Standing} {own own' : Row} → own ≡ get_or st.rows i no_row
    → {x : Cell Total} → x ≡ cell_at (width_of flagged) st.cells own.progress.at → own' ≡ after_step limits own x
    → {y : Option (Stepped Total)} → y ≡ step_taken limits own x → {q : Standing}
    → told_if (width_of flagged) (is_holding own.progress.stage) own.progress.at i y
    (stands st.cells st.answers st.log st.finished (set st.rows i own') st.lost st.idle)
    ≡ q
    → (after_step_of (width_of flagged) limits i st ≡ q)
    × ((b : Call) (k : ℕ) → Due (width_of flagged) b limits k i → is_in st.finished i ≡ false → Underway (width_of flagged) b k st
    → Underway (width_of flagged) b (k + 1) q)
at_once-of flagged = at_once (packing-of flagged) (within flagged)

-- what the turn adds of row i, which was own before the step, to what stands then; with the counts as `take` tells them
module _ (W : Width) (i : ℕ) (own : Row) (s : Standing) where
  abbrev Adds : Option (Stepped Total) → List ℕ → List ℕ → List ℕ → ℕ → ℕ → Type 0
  Adds y cells' answers' log' finished' lost' =
      told_if W (is_holding own.progress.stage) own.progress.at i y s ≡ stands cells' answers' log' finished' s.rows lost' (s.idle + 0)

  same : s ≡ stands s.cells s.answers s.log s.finished s.rows (s.lost + 0) (s.idle + 0)
  same = λ j. stands s.cells s.answers s.log s.finished s.rows (sym (add-zero s.lost) j) (sym (add-zero s.idle) j)

  -- no step is taken
  pub adds-none : Adds None s.cells s.answers s.log s.finished (s.lost + 0)
  adds-none = same

  module _ (y : Stepped Total) where
    by-turn : {t : Turn Total} → y.turn ≡ t
        → told_if W (is_holding own.progress.stage) own.progress.at i (Some y) s ≡ told W (is_holding own.progress.stage) own.progress.at i y.cell t s
    by-turn e = ap (λ (t : Turn Total). told W (is_holding own.progress.stage) own.progress.at i y.cell t s) e

    pub adds-nothing : (y.turn ≡ Passes) ⊎ ((h : Held Total) × (y.turn ≡ Holds h)) → Adds (Some y) s.cells s.answers s.log s.finished (s.lost + 0)
    unfolding told
    adds-nothing (inl e) = by-turn e ∙ same
    adds-nothing (inr e) = by-turn e.1 ∙ same

    pub adds-lost : y.turn ≡ Loses → Adds (Some y) s.cells s.answers s.log s.finished (s.lost + 1)
    unfolding told
    adds-lost e = by-turn e ∙ ap (stands s.cells s.answers s.log s.finished s.rows (s.lost + 1)) (sym (add-zero s.idle))

    -- it finishes: what it stores, its answer and its place in the log
    pub adds-answer : {a : Answer Total} → y.turn ≡ Finishes a → {cells' answers' log' : List ℕ}
        → cells' ≡ stored W (is_holding own.progress.stage) own.progress.at y.cell s.cells → answers' ≡ set s.answers i (packed_of W a)
        → log' ≡ set s.log (ones s.finished) i → Adds (Some y) cells' answers' log' (including s.finished i) (s.lost + 0)
    unfolding told
    adds-answer e table answers log =
        by-turn e
        ∙ (λ j. stands (sym table j) (sym answers j) (sym log j) (including s.finished i) s.rows (sym (add-zero s.lost) j) (sym (add-zero s.idle) j))

-- a pass that the key alone tells is such a step
pub skim_at_once : {W : Width} (P : Packing W) (inside : Within W) {limits : Bounds} {i : ℕ} {st : Standing} {own own' : Row} → own ≡ get_or st.rows i no_row
    → {key : ℕ} → key ≡ W.key_of (get_or st.cells own.progress.at 0) → skims limits.cells own key ≡ true → own' ≡ skimmed limits.cells own
    → let q = stands st.cells st.answers st.log st.finished (set st.rows i own') (st.lost + 0) (st.idle + 0) in
    (after_step_of W limits i st ≡ q)
    × ((b : Call) (k : ℕ) → Due W b limits k i → is_in st.finished i ≡ false → Underway W b k st → Underway W b (k + 1) q)
unfolding decode
skim_at_once {W} P inside {limits} {i} {st} {own} {own'} mine is told-by goes =
    let w = get_or st.cells own.progress.at 0 in
    let test = ap (λ (n : ℕ). skims limits.cells own n) (sym is) ∙ told-by in
    let (step_is, after_is) = skims-is limits own.operation (W.key_of w) (W.total_in w) own.progress.at own.progress.passed own.progress.stage test in
    at_once P inside mine refl (goes ∙ sym after_is) (sym step_is) (adds-nothing W i own _ _ (inl refl))

-- and then the row goes on
pub skim-goes-on : (W : Width) (limits : Bounds) (own : Row) (w : ℕ) {key : ℕ} → key ≡ W.key_of w
    → skims limits.cells own key ≡ true → GoesOn ≡ taken_of false (step_taken limits own (decode W w))
unfolding decode
skim-goes-on W limits own w {key} is told-by =
    let test = ap (λ (n : ℕ). skims limits.cells own n) (sym is) ∙ told-by in
    let step_is = (skims-is limits own.operation (W.key_of w) (W.total_in w) own.progress.at own.progress.passed own.progress.stage test).0 in
    ap (taken_of false) (sym step_is)

-- what `take_entry` knows of an entry: its row has finished, and stays
pub leaves-idle : (W : Width) (limits : Bounds) (i : ℕ) (st : Standing) {own own' : Row} → own ≡ get_or st.rows i no_row → is_in st.finished i ≡ true → own' ≡ own
    → after_entry W limits i st ≡ stands st.cells st.answers st.log st.finished (set st.rows i own') (st.lost + 0) (st.idle + 1)
unfolding after_entry
leaves-idle W limits i st {own} {own'} mine e stays =
    let none : st.lost + 0 ≡ st.lost = omega arith in
    let same : set st.rows i own' ≡ st.rows = ap (set st.rows i) (stays ∙ mine) ∙ set-get_or st.rows i no_row in
    rw (e, none, same)

-- or it takes a step
pub leaves-step : (W : Width) (limits : Bounds) (i : ℕ) (st : Standing) {q : Standing} → is_in st.finished i ≡ false → after_step_of W limits i st ≡ q
    → after_entry W limits i st ≡ q
unfolding after_entry
leaves-step W limits i st e is = rw e is
