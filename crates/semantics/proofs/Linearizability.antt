-- Demand 2: any run of accepted cells, after any number of entries, is the one-at-a-time map doing the logged operations in log order.
-- Assumes nothing.
use mathlib.Core.Path.{◌≡◌, refl, ap, ap₂, sym, ◌∙◌, subst, subst₃}
use Prim.Native.Nat.{ℕ, suc, ◌+◌, ◌<◌}
use mathlib.Core.Bool.{Bool, true, false, cond, true≢false}
use mathlib.Core.List.{List, [], ◌∷◌, ◌++◌, map, map-map, map-id, map-append, foldl, foldl-append}
use mathlib.Core.Option.{Option, none, some}
use native.Mathlib.Omega.{arith}
use native.Mathlib.Decide.{ℕ_discrete}
use native.Mathlib.Nat.{not-suc-le-zero}
use borrow.Author.Tests.{eqb-true, eqb-false}
use lib.Dec.{eqb}
use lib.ListN.{length, get_or, set, get_elem?, length-append}
use lib.Seq.{set-get_or}
use Rattle.semantics.specs.Basics.{is_some, occurs, count_of}
use Rattle.semantics.specs.Cells.{Setting, Cell, empty, Operation, Answer, lookup, used_cells, keyed}
use Rattle.semantics.specs.Step.{Turn, Pending, reading, holding, State, pending, finished, Row, Machine, Stepped, fresh, after, logged, idled, answered, answer_in, finished_in, done_count}
use Rattle.semantics.specs.Step.{step, passed, place_of, taken, entry, fresh_row, begin, run}
use Rattle.semantics.specs.Map.{Map, Replay, map_of, performed, noted, replay_one, replay}
use Rattle.semantics.proofs.Laws.{Lawful, Accepted}
use Rattle.semantics.proofs.Counts.{none-false, count_set, count-snoc}
use Rattle.semantics.proofs.Lists.{elem-set-same, elem-set-other, elem-set-all, elem-get_d, elem-map, elem-map-all, map-set-elem, map_on}
use Rattle.semantics.proofs.Table.{Agrees, Probed, own-place, located-lookup, size-pos, start-agrees}
use Rattle.semantics.proofs.Entries.{by-entry, by-run, log-grows, finished-here, finished-other}
use Rattle.semantics.proofs.Steps.{Standing, Advance, goes_on_lem, completes, advance}

-- Demand 2, of a machine m that a run from the starting cells has come to, over any totals
module _ (S : Setting) where
  pub record Linearized (start : List (Cell S.Total)) (ops : List (Operation S.Total)) (m : Machine S.Total) : Type 0 where
    -- the operations are those given
    pub operations : map (λ (r : Row S.Total). r.operation) m.rows ≡ ops
    -- every finished answer is the map's, the operations taken in log order
    pub answers : map (λ i. answer_in (get_elem? m.rows i)) m.log ≡ map some (replay S start ops m.log).answers
    -- the live pairs are the map's
    pub pairs : (k : ℕ) → lookup k m.cells ≡ (replay S start ops m.log).now.pairs k
    -- its used count is the number of cells not empty
    pub used : used_cells m.cells ≡ (replay S start ops m.log).now.used
    -- no key has two live cells
    pub distinct : (k i j : ℕ) (t u : S.Total) → keyed k (get_or m.cells i empty) ≡ some t → keyed k (get_or m.cells j empty) ≡ some u → i ≡ j
    -- every finished operation is in the log exactly once, and no other is
    pub once : (i : ℕ) → occurs i m.log ≡ cond (finished_in m.rows i) 1 0
    pub counted : done_count m.rows ≡ length m.log
    -- an entry that does not finish its operation leaves the cells as they were
    pub untouched : (i : ℕ) → finished_in (entry S m i).rows i ≡ finished_in m.rows i → (entry S m i).cells ≡ m.cells

module _ {T : Type 0} where
  abbrev done : State T → Bool
  done s = is_some (answered s)

  -- no row has finished at the outset
  none-answered : (rows : List (Row T)) (i : ℕ) → ((j : ℕ) (r : Row T) → get_elem? rows j ≡ some r → answered r.state ≡ none)
      → answer_in (get_elem? rows i) ≡ none
  unfolding answer_in
  none-answered rows i h = go (get_elem? rows i) refl
    where
      go : (o : Option (Row T)) → get_elem? rows i ≡ o → answer_in o ≡ none
      go none e = refl
      go (some r) e = h i r e

  -- the count of finished rows, after one that has not finished is stored anew
  count-stored : (rows : List (Row T)) (i : ℕ) {r : Row T} (r' : Row T) → get_elem? rows i ≡ some r → done r.state ≡ false
      → done_count (set rows i r') ≡ done_count rows + cond (done r'.state) 1 0
  unfolding done_count
  count-stored rows i {r} r' e h =
      let (b, q) = elem-get_d rows i r e in
      let not_yet : done (get_or rows i r).state ≡ false = ap (λ (x : Row T). done x.state) q ∙ h in
      omega (arith, rw not_yet at (count_set (λ (x : Row T). done x.state) rows i r' r b))

module _ (S : Setting) (L : Lawful S) (start : List (Cell S.Total)) (ops : List (Operation S.Total)) where
  abbrev operation_of : Row S.Total → Operation S.Total
  operation_of r = r.operation

  unfoldable StandsIn : List (Cell S.Total) → Operation S.Total → State S.Total → Type 0
  StandsIn cells o (pending s) = Standing S L cells o s
  StandsIn cells o (finished a) = Unit {0}

  abbrev RowStands : List (Cell S.Total) → Row S.Total → Type 0
  RowStands cells r = StandsIn cells r.operation r.state

  -- what holds after any number of entries
  record Holds (cells : List (Cell S.Total)) (rows : List (Row S.Total)) (log : List ℕ) : Type 0 where
    agrees : Agrees S cells (replay S start ops log).now
    answers : map (λ i. answer_in (get_elem? rows i)) log ≡ map some (replay S start ops log).answers
    once : (i : ℕ) → occurs i log ≡ cond (finished_in rows i) 1 0
    counted : done_count rows ≡ length log
    operations : map operation_of rows ≡ ops
    standing : (i : ℕ) (r : Row S.Total) → get_elem? rows i ≡ some r → RowStands cells r

  unfoldable HoldsOf : Machine S.Total → Type 0
  HoldsOf m = Holds m.cells m.rows m.log

  -- at the outset
  none_done : (l : List (Operation S.Total)) → done_count (map (fresh_row S) l) ≡ 0
  unfolding done_count count_of fresh_row fresh answered is_some
  none_done [] = refl
  none_done (o ∷ l) = none_done l

  at_home : (o : Operation S.Total) → StandsIn start o fresh
  unfolding StandsIn Standing fresh
  at_home o = record { below = size-pos S L; foreign = λ e h. absurd (not-suc-le-zero h); filled = λ e h. absurd (not-suc-le-zero h) }

  each-fresh : (P : Row S.Total → Type 0) → ((o : Operation S.Total) → P (fresh_row S o))
      → (i : ℕ) (r : Row S.Total) → get_elem? (map (fresh_row S) ops) i ≡ some r → P r
  each-fresh P h = elem-map-all (fresh_row S) P ops (λ i o e. h o)

  holds-first : Accepted S start → HoldsOf (begin S start ops)
  unfolding HoldsOf begin replay occurs count_of fresh_row fresh finished_in answered is_some
  holds-first ok =
      record {
        agrees = start-agrees S L start ok;
        answers = refl;
        once = λ i. rw (none-answered (map (fresh_row S) ops) i (each-fresh (λ r. answered r.state ≡ none) (λ o. refl)));
        counted = none_done ops;
        operations = map-map operation_of (fresh_row S) ops ∙ map-id ops;
        standing = each-fresh (RowStands start) at_home;
      }

  -- a row that has not finished is stored in a state s
  module _ (cells : List (Cell S.Total)) (rows : List (Row S.Total)) (log : List ℕ) (H : Holds cells rows log)
      (i : ℕ) (r : Row S.Total) (at : get_elem? rows i ≡ some r) (open_row : done r.state ≡ false) where
    abbrev now : Map S.Total
    now = (replay S start ops log).now

    abbrev in_state : State S.Total → Row S.Total
    in_state s = record { operation = r.operation; state = s }

    abbrev rows' : State S.Total → List (Row S.Total)
    rows' s = set rows i (in_state s)

    was : finished_in rows i ≡ false
    unfolding finished_in answer_in
    was = rw at open_row

    -- the log does not have it yet, so the answers of those in the log are as they were
    not-logged : occurs i log ≡ 0
    not-logged = H.once i ∙ rw was

    answers-kept : (s : State S.Total) → map (λ j. answer_in (get_elem? (rows' s) j)) log ≡ map some (replay S start ops log).answers
    answers-kept s =
        map_on (λ j. answer_in (get_elem? (rows' s) j)) (λ j. answer_in (get_elem? rows j)) log
        (λ j p. ap answer_in (elem-set-other rows i j (in_state s) (λ q. absurd (other j p q))))
        ∙ H.answers
      where
        other : (j : ℕ) → 0 < occurs j log → j ≡ i → ⊥
        other j p q = let e : occurs j log ≡ 0 = ap (λ (n : ℕ). occurs n log) q ∙ not-logged in omega arith

    -- the rows stand as before, but for this one; the cells may have changed by a store that every probe outlives
    standing-set : (cells' : List (Cell S.Total)) (s : State S.Total) → ((k p : ℕ) → Probed S cells k p → Probed S cells' k p)
        → StandsIn cells' r.operation s
        → (j : ℕ) (x : Row S.Total) → get_elem? (rows' s) j ≡ some x → RowStands cells' x
    unfolding StandsIn Standing
    standing-set cells' s keeps new =
        elem-set-all (RowStands cells') rows i (in_state s) new (λ j x e. keep x.operation x.state (H.standing j x e))
      where
        keep : (o : Operation S.Total) (s : State S.Total) → StandsIn cells o s → StandsIn cells' o s
        keep o (pending (reading p)) h = keeps o.key p h
        keep o (pending (holding p w)) h = (keeps o.key p h.0, h.1)
        keep o (finished a) h = tt

    operations-kept : (s : State S.Total) → map operation_of (rows' s) ≡ ops
    operations-kept s = map-set-elem operation_of rows i (in_state s) at refl ∙ H.operations

    -- it goes on
    holds_on : (s : Pending S.Total) → Standing S L cells r.operation s → Holds cells (rows' (pending s)) log
    unfolding StandsIn answered is_some
    holds_on s st =
        record {
          agrees = H.agrees;
          answers = answers-kept (pending s);
          once = λ j. H.once j ∙ ap (λ (z : Bool). cond z 1 0) (sym (same j));
          counted = count-stored rows i (in_state (pending s)) at open_row ∙ omega (arith, H.counted);
          operations = operations-kept (pending s);
          standing = standing-set cells (pending s) (λ k p q. q) st;
        }
      where
        here : finished_in (rows' (pending s)) i ≡ finished_in rows i
        here = finished-here rows i (in_state (pending s)) at ∙ sym was

        same : (j : ℕ) → finished_in (rows' (pending s)) j ≡ finished_in rows j
        same j = elim (ℕ_discrete j i) [ yes q ↦ rw q here | no q ↦ finished-other rows i (in_state (pending s)) j q ]

    -- it finishes, as the map does its operation
    replay-more : replay S start ops (log ++ (i ∷ [])) ≡ noted S (replay S start ops log) (performed S now r.operation)
    unfolding replay replay_one
    replay-more =
        foldl-append (λ b j. replay_one S b (get_elem? ops j)) (record { now = map_of start; answers = [] }) log (i ∷ [])
        ∙ ap (λ (o : Option (Operation S.Total)). replay_one S (replay S start ops log) o) named
      where
        named : get_elem? ops i ≡ some r.operation
        named = ap (λ (l : List (Operation S.Total)). get_elem? l i) (sym H.operations) ∙ elem-map operation_of rows i at

    answers-more : (a : Answer S.Total) → a ≡ (performed S now r.operation).answer
        → map (λ j. answer_in (get_elem? (rows' (finished a)) j)) (log ++ (i ∷ [])) ≡ map some (replay S start ops (log ++ (i ∷ []))).answers
    unfolding noted answer_in answered
    answers-more a e =
        map-append (λ j. answer_in (get_elem? (rows' (finished a)) j)) log (i ∷ [])
        ∙ ap₂ (λ (l : List (Option (Answer S.Total))) (x : Option (Answer S.Total)). l ++ (x ∷ [])) (answers-kept (finished a))
        (ap answer_in (elem-set-same rows i (in_state (finished a)) at) ∙ ap some e)
        ∙ sym (map-append some (replay S start ops log).answers ((performed S now r.operation).answer ∷ []))
        ∙ ap (λ (b : Replay S.Total). map some b.answers) (sym replay-more)

    holds_more : (cells' : List (Cell S.Total)) (a : Answer S.Total) → a ≡ (performed S now r.operation).answer
        → Agrees S cells' (performed S now r.operation).after
        → ((k p : ℕ) → Probed S cells k p → Probed S cells' k p)
        → Holds cells' (rows' (finished a)) (log ++ (i ∷ []))
    unfolding noted StandsIn answered is_some occurs
    holds_more cells' a e agrees keeps =
        record {
          agrees = subst (λ (b : Replay S.Total). Agrees S cells' b.now) (sym replay-more) agrees;
          answers = answers-more a e;
          once = λ j. count-snoc (eqb j) log i ∙ once' j (eqb j i) refl;
          counted = count-stored rows i (in_state (finished a)) at open_row ∙ rw (length-append log (i ∷ [])) (omega (arith, H.counted));
          operations = operations-kept (finished a);
          standing = standing-set cells' (finished a) keeps tt;
        }
      where
        once' : (j : ℕ) (z : Bool) → eqb j i ≡ z → cond z (suc (occurs j log)) (occurs j log) ≡ cond (finished_in (rows' (finished a)) j) 1 0
        once' j true q = rw (eqb-true j i q, not-logged, finished-here rows i (in_state (finished a)) at)
        once' j false q = H.once j ∙ ap (λ (z : Bool). cond z 1 0) (sym (finished-other rows i (in_state (finished a)) j (eqb-false j i q)))

    -- so a step keeps all of it, whatever it comes to; and it leaves the cells as they were, unless it finishes the row
    module _ (p cell : ℕ) (q : Stepped S.Total) where
      same-cells : q.cell ≡ get_or cells cell empty → set cells cell q.cell ≡ cells
      same-cells e = ap (λ (y : Cell S.Total). set cells cell y) e ∙ set-get_or cells cell empty

      holds-step : Advance S L cells now r.operation p cell q
          → Holds (set cells cell q.cell) (rows' (after p q.turn)) (logged q.turn i log)
      unfolding after logged
      holds-step (goes_on_lem s same turn quiet st) =
          subst₃ (λ (c : List (Cell S.Total)) (x : State S.Total) (l : List ℕ). Holds c (rows' x) l)
          (sym (same-cells same)) (sym turn) (sym (quiet i log)) (holds_on s st)
      holds-step (completes turn agrees keeps) =
          subst (λ (t : Turn S.Total). Holds (set cells cell q.cell) (rows' (after p t)) (logged t i log)) (sym turn)
          (holds_more (set cells cell q.cell) (performed S now r.operation).answer refl agrees keeps)

      step-untouched : Advance S L cells now r.operation p cell q → finished_in (rows' (after p q.turn)) i ≡ finished_in rows i
          → set cells cell q.cell ≡ cells
      unfolding after answered is_some
      step-untouched (goes_on_lem s same turn quiet st) e = same-cells same
      step-untouched (completes turn agrees keeps) e =
          let finishing : done (after p q.turn) ≡ true = ap (λ (t : Turn S.Total). done (after p t)) turn in
          absurd (true≢false (sym finishing ∙ sym (finished-here rows i (in_state (after p q.turn)) at) ∙ e ∙ was))

  -- an entry that is not idle is a step of an unfinished row
  open-state : (r : Row S.Total) (s : Pending S.Total) → r.state ≡ pending s → done r.state ≡ false
  unfolding answered is_some
  open-state r s e = rw e

  module _ (m : Machine S.Total) (H : HoldsOf m) (i : ℕ) (r : Row S.Total) (s : Pending S.Total) where
    abbrev place : ℕ
    place = place_of S r.operation.key (passed S s)

    abbrev stepped : Stepped S.Total
    stepped = step S r.operation s (get_or m.cells place empty)

    advances : get_elem? m.rows i ≡ some r → r.state ≡ pending s
        → Advance S L m.cells (replay S start ops m.log).now r.operation (passed S s) place stepped
    unfolding HoldsOf StandsIn
    advances at e =
        advance S L m.cells (replay S start ops m.log).now H.agrees r.operation s
        (subst (StandsIn m.cells r.operation) e (H.standing i r at))

    holds-taken : get_elem? m.rows i ≡ some r → r.state ≡ pending s → HoldsOf (taken S m i r.operation s)
    unfolding HoldsOf taken
    holds-taken at e = holds-step m.cells m.rows m.log H i r at (open-state r s e) (passed S s) place stepped (advances at e)

    taken-untouched : get_elem? m.rows i ≡ some r → r.state ≡ pending s
        → finished_in (taken S m i r.operation s).rows i ≡ finished_in m.rows i → (taken S m i r.operation s).cells ≡ m.cells
    unfolding HoldsOf taken
    taken-untouched at e = step-untouched m.cells m.rows m.log H i r at (open-state r s e) (passed S s) place stepped (advances at e)

  holds-entry : (m : Machine S.Total) (i : ℕ) → HoldsOf m → HoldsOf (entry S m i)
  unfolding HoldsOf idled
  holds-entry m i H = by-entry S HoldsOf m i H (holds-taken m H i)

  entry-untouched : (m : Machine S.Total) → HoldsOf m
      → (i : ℕ) → finished_in (entry S m i).rows i ≡ finished_in m.rows i → (entry S m i).cells ≡ m.cells
  unfolding idled
  entry-untouched m H i =
      by-entry S (λ (n : Machine S.Total). finished_in n.rows i ≡ finished_in m.rows i → n.cells ≡ m.cells) m i (λ e. refl)
      (taken-untouched m H i)

  pub linearizable : Accepted S start → (schedule : List ℕ) → Linearized S start ops (run S start ops schedule)
  unfolding HoldsOf run
  linearizable ok schedule =
      record {
        operations = H.operations;
        answers = H.answers;
        pairs = λ k. located-lookup S (H.agrees.located k);
        used = H.agrees.used;
        distinct = λ k i j t u. own-place S i j t u (H.agrees.located k);
        once = H.once;
        counted = H.counted;
        untouched = entry-untouched (run S start ops schedule) H;
      }
    where
      H : HoldsOf (run S start ops schedule)
      H = by-run S HoldsOf holds-entry (begin S start ops) (holds-first ok) schedule

  -- an operation that is unfinished at the end: no entry that names it has changed a cell, wherever in the schedule it stands
  module _ (ok : Accepted S start) (entries : List ℕ) (i : ℕ) (later : List ℕ) where
    abbrev before : Machine S.Total
    before = run S start ops entries

    unnamed : (m : Machine S.Total) → HoldsOf m → occurs i m.log ≡ 0 → finished_in m.rows i ≡ false
    unfolding HoldsOf
    unnamed m H e = none-false (finished_in m.rows i) (sym (H.once i) ∙ e)

    pub unfinished-untouched : occurs i (foldl (entry S) (entry S before i) later).log ≡ 0 → (entry S before i).cells ≡ before.cells
    unfolding run
    unfinished-untouched e =
        let H = by-run S HoldsOf holds-entry (begin S start ops) (holds-first ok) entries in
        let last = log-grows S i (entry S before i) later in
        let this = log-grows S i before (i ∷ []) in
        entry-untouched before H i
        (unnamed (entry S before i) (holds-entry before i H) (omega arith) ∙ sym (unnamed before H (omega arith)))
