-- Demands 1 to 3 on words: of every call, with no assumption left, at any width that packs.
-- Assumes nothing.
use mathlib.Core.Path.{◌≡◌, refl, ap, sym, subst, ◌∙◌}
use Prim.Native.Nat.{ℕ, zero, suc, ◌+◌, ◌≤◌, ◌<◌, suc-le-suc}
use mathlib.Core.Bool.{Bool, true, false, cond, true≢false}
use mathlib.Core.List.{List, [], ◌∷◌, ◌++◌, map, map-map, foldl-append}
use mathlib.Core.Option.{Option, none, some}
use native.Mathlib.Decide.{ℕ_discrete}
use native.Mathlib.Numerals.{add-one}
use native.Mathlib.Omega.{arith}
use borrow.Author.Tests.{eq-eqb, ne_eqb}
use lib.ListN.{length, get_or, get_elem?, take, drop, length-take, length-map}
use lib.Seq.{take_at, take-suc, take-take, get_or-take, split_at}
use Rattle.semantics.specs.Basics.{is_some, occurs}
use Rattle.semantics.specs.declared.Refusal.{Refusal}
use Rattle.semantics.specs.declared.Total.{Total}
use Rattle.semantics.specs.Cells.{Setting, Cell, Operation, Answer, lookup}
use Rattle.semantics.specs.Step.{done_count, Row, Machine, answer_in, finished_in}
use Rattle.semantics.specs.Step.{entry, begin, run}
use Rattle.semantics.specs.Map.{replay}
use Rattle.semantics.specs.Words.{Width, decode, encode, decode_operation, answer_word, setting_of}
use Rattle.semantics.specs.Refusals.{Call, call_of}
use Rattle.semantics.specs.Run.{Result, over, machine, answer_of, outcome_of, accepted_result, refusal_of, refused_result, result_if, run_result}
use Rattle.semantics.specs.Demands.{log_of, replay_of, Linearizable, TotalsKept, Untouched, after_entries, AcceptedCall}
use Rattle.semantics.proofs.Lists.{map_on}
use Rattle.semantics.proofs.Counts.{none-false}
use Rattle.semantics.proofs.Over.{over-get}
use Rattle.semantics.proofs.Linearizability.{Linearized, linearizable, unfinished-untouched}
use Rattle.semantics.proofs.TotalsHold.{totals-rule}
use Rattle.semantics.proofs.Sizes.{allowed-lawful, allowed-bounds}
use Rattle.semantics.proofs.Words.{Packing, decode-encode-all}
use Rattle.semantics.proofs.RunPacks.{AllPack, run-packs}
use Rattle.semantics.proofs.Start.{Passed, accepted-call, start-accepted, start-packs, operations-packed, beginning-accepted}

-- a written answer is its row's, as far as there are rows
answers_of : (W : Width) (rows : List (Row Total)) (i : ℕ) → get_or (map (answer_of W) rows) i 0 ≡ answer_word W (answer_in (get_elem? rows i))
unfolding answer_of answer_in answer_word
answers_of W [] i = refl
answers_of W (r ∷ rows) zero = refl
answers_of W (r ∷ rows) (suc i) = answers_of W rows i

answer_at : (W : Width) (rows : List (Row Total)) (answers : List ℕ) (i : ℕ) → i < length rows
    → get_or (over (map (answer_of W) rows) answers) i 0 ≡ answer_word W (answer_in (get_elem? rows i))
answer_at W rows answers i h = over-get (map (answer_of W) rows) answers i 0 (omega (arith, length-map rows (answer_of W))) ∙ answers_of W rows i

unanswered : (W : Width) (rows : List (Row Total)) (i : ℕ) → finished_in rows i ≡ false → answer_word W (answer_in (get_elem? rows i)) ≡ 0
unfolding finished_in answer_word is_some
unanswered W rows i e = go (answer_in (get_elem? rows i)) e
  where
    go : (a : Option (Answer Total)) → is_some a ≡ false → answer_word W a ≡ 0
    go none e = refl
    go (some a) e = absurd (true≢false e)

finished-below : (rows : List (Row Total)) (i : ℕ) → finished_in rows i ≡ true → i < length rows
unfolding finished_in answer_in is_some
finished-below [] i e = absurd (true≢false (sym e))
finished-below (r ∷ rows) zero e = omega arith
finished-below (r ∷ rows) (suc i) e = suc-le-suc (finished-below rows i e)

-- a count of one or none says whether
one-true : (z : Bool) → 0 < cond z 1 0 → z ≡ true
one-true true h = refl
one-true false h = absurd (omega arith)

at_most_one : {n : ℕ} (z : Bool) → n ≡ cond z 1 0 → n ≤ 1
at_most_one true e = omega arith
at_most_one false e = omega arith

-- of a call that the checks let pass, after any schedule
module _ {W : Width} (P : Packing W) (call : Call) (ok : Passed W call) where
  abbrev c : ℕ
  c = length call.cells

  abbrev S : Setting
  S = setting_of W c

  abbrev start : List (Cell Total)
  start = map (decode W) call.cells

  abbrev ops : List (Operation Total)
  ops = map (decode_operation W) call.operations

  abbrev after : List ℕ → Machine Total
  after schedule = machine W call.cells call.operations schedule

  pub lin : (schedule : List ℕ) → Linearized S start ops (after schedule)
  unfolding machine
  lin schedule = linearizable S (allowed-lawful W.ceiling c ok.size) start ops (start-accepted P call ok) schedule

  -- one entry more, after any others
  pub one_entry : (entries : List ℕ) (i : ℕ) → after (entries ++ (i ∷ [])) ≡ entry S (after entries) i
  unfolding machine run
  one_entry entries i = foldl-append (entry S) (begin S start ops) entries (i ∷ [])

  -- an entry whose operation is unfinished after the later ones too
  split-untouched : (entries : List ℕ) (i : ℕ) (later : List ℕ) → occurs i (after (entries ++ (i ∷ later))).log ≡ 0
      → (after (entries ++ (i ∷ []))).cells ≡ (after entries).cells
  unfolding machine run
  split-untouched entries i later e =
      ap (λ (m : Machine Total). m.cells) (one_entry entries i)
      ∙ unfinished-untouched S (allowed-lawful W.ceiling c ok.size) start ops (start-accepted P call ok) entries i later
      (ap (λ (m : Machine Total). occurs i m.log) (sym (foldl-append (entry S) (begin S start ops) entries (i ∷ later))) ∙ e)

  -- the same by numbers: entry k, after n entries
  untouched-after : (schedule : List ℕ) (n k : ℕ) → k < n → k < length schedule → occurs (get_or schedule k 0) (after (take n schedule)).log ≡ 0
      → (after (take (k + 1) schedule)).cells ≡ (after (take k schedule)).cells
  untouched-after schedule n k h b e =
      let i = get_or schedule k 0 in
      let l = take n schedule in
      let parts : l ≡ take k schedule ++ (i ∷ drop (suc k) l) =
      split_at l k 0 (omega (arith, length-take n schedule)) ∙ rw (take-take k n schedule (omega arith), get_or-take n schedule k 0 h) in
      let one_more : take (k + 1) schedule ≡ take k schedule ++ (i ∷ []) = rw add-one (take-suc schedule k 0 b) in
      ap (λ (s : List ℕ). (after s).cells) one_more
      ∙ split-untouched (take k schedule) i (drop (suc k) l) (ap (λ (s : List ℕ). occurs i (after s).log) (sym parts) ∙ e)

  module _ (schedule : List ℕ) where
    abbrev m : Machine Total
    m = after schedule

    -- the words that a run leaves stand for its cells
    pub packs : AllPack W c m
    unfolding machine
    packs = run-packs P c start ops (omega (arith, allowed-bounds c ok.size)) (length-map call.cells (decode W)) (start-packs P call ok) (operations-packed P call ok) schedule

    back : map (decode W) (map (encode W) m.cells) ≡ m.cells
    unfolding machine
    back = decode-encode-all P m.cells (λ i b. packs.cells i)

    pub same_length : length m.rows ≡ length call.operations
    same_length =
        sym (length-map m.rows (λ r. r.operation)) ∙ ap length (lin schedule).operations ∙ length-map call.operations (decode_operation W)

    logged-below : (i : ℕ) → 0 < occurs i m.log → i < length m.rows
    logged-below i h = finished-below m.rows i (one-true (finished_in m.rows i) (omega (arith, (lin schedule).once i)))

    module _ (answers log : List ℕ) where
      abbrev result : Result
      result = accepted_result W m answers log

      -- the log that was written is the first of its slice, one for each finished operation
      written-log : log_of result ≡ m.log
      unfolding over accepted_result outcome_of
      written-log = take_at m.log (drop (length m.log) log) (done_count m.rows) (sym (lin schedule).counted)

      written-answers : map (λ i. get_or (over (map (answer_of W) m.rows) answers) i 0) m.log
          ≡ map (λ a. answer_word W (some a)) (replay S start ops m.log).answers
      written-answers =
          map_on (λ i. get_or (over (map (answer_of W) m.rows) answers) i 0) (λ i. answer_word W (answer_in (get_elem? m.rows i))) m.log
          (λ i h. answer_at W m.rows answers i (logged-below i h))
          ∙ sym (map-map (answer_word W) (λ i. answer_in (get_elem? m.rows i)) m.log)
          ∙ ap (map (answer_word W)) (lin schedule).answers
          ∙ map-map (answer_word W) some (replay S start ops m.log).answers

      unwritten : (i : ℕ) → i < length call.operations → occurs i m.log ≡ 0
          → get_or (over (map (answer_of W) m.rows) answers) i 0 ≡ 0
      unwritten i h e =
          answer_at W m.rows answers i (omega (arith, same_length))
          ∙ unanswered W m.rows i (none-false (finished_in m.rows i) (sym ((lin schedule).once i) ∙ e))

      words-linearizable : Linearizable W call.cells call.operations result
      unfolding accepted_result outcome_of replay_of
      words-linearizable =
          record {
            answers = rw written-log written-answers;
            pairs = λ k. rw (back, written-log) ((lin schedule).pairs k);
            used = rw (back, written-log) (lin schedule).used;
            named = rw written-log (λ i h. omega (arith, logged-below i h, same_length));
            once = rw written-log (λ i. at_most_one (finished_in m.rows i) ((lin schedule).once i));
            unfinished = rw written-log unwritten;
            distinct = rw back (lin schedule).distinct;
          }

      words-totals : TotalsKept W call.cells call.operations result
      unfolding TotalsKept accepted_result outcome_of machine
      words-totals only done suffice k =
          ap (lookup k) back
          ∙ totals-rule S (allowed-lawful W.ceiling c ok.size) start (start-accepted P call ok) ops schedule only (done ∙ sym (length-map call.operations (decode_operation W)))
          suffice k

-- what a call leaves: it is turned away, or it leaves what its entries come to
module _ (W : Width) (cells operations schedule answers log : List ℕ) where
  abbrev left : Result
  left = run_result W cells operations schedule answers log

  abbrev refusal : Refusal
  refusal = refusal_of W cells operations schedule answers log

  pub accepted : refusal.number ≡ 0 → left ≡ accepted_result W (machine W cells operations schedule) answers log
  unfolding run_result result_if
  accepted e = ap (result_if W cells operations schedule answers log) (eq-eqb refusal.number 0 e)

  pub refused : (refusal.number ≡ 0 → ⊥) → left ≡ refused_result refusal cells answers log
  unfolding run_result result_if
  refused h = ap (result_if W cells operations schedule answers log) (ne_eqb refusal.number 0 h)

  pub number_is : left.outcome.number ≡ refusal.number
  unfolding accepted_result outcome_of refused_result
  number_is = elim (ℕ_discrete refusal.number 0) [
    | yes e ↦ ap (λ (r : Result). r.outcome.number) (accepted e) ∙ sym e
    | no h ↦ ap (λ (r : Result). r.outcome.number) (refused h)
  ]

-- the theorem
module _ {W : Width} (P : Packing W) (cells operations schedule answers log : List ℕ) where
  abbrev result-after : ℕ → Result
  result-after = after_entries W cells operations schedule answers log

  module _ (e : (refusal_of W cells operations schedule answers log).number ≡ 0) where
    abbrev called : ℕ → Call
    called k = call_of cells operations (take k schedule) (length answers) (length log)

    ok-after : (k : ℕ) → (refusal_of W cells operations (take k schedule) answers log).number ≡ 0
    ok-after k = beginning-accepted W cells operations schedule (length answers) (length log) k e

    pub rules : (k : ℕ) → result-after k ≡ accepted_result W (machine W cells operations (take k schedule)) answers log
    rules k = accepted W cells operations (take k schedule) answers log (ok-after k)

    passed : (k : ℕ) → Passed W (called k)
    passed k = accepted-call W (called k) (ok-after k)

    log-after : (k : ℕ) → log_of (result-after k) ≡ (machine W cells operations (take k schedule)).log
    log-after k = ap (λ (r : Result). log_of r) (rules k) ∙ written-log P (called k) (passed k) (take k schedule) answers log

    pub accepted-call-is : AcceptedCall W cells operations schedule answers log (run_result W cells operations schedule answers log)
    unfolding accepted_result Untouched
    accepted-call-is =
        let call = call_of cells operations schedule (length answers) (length log) in
        let ok = accepted-call W call e in
        record {
          rules = rules;
          linearizable = λ k.
              subst (Linearizable W cells operations) (sym (rules k)) (words-linearizable P (called k) (passed k) (take k schedule) answers log);
          untouched = λ n k h b q.
              ap (λ (r : Result). r.cells) (rules (k + 1))
              ∙ ap (map (encode W)) (untouched-after P call ok schedule n k h b (ap (occurs (get_or schedule k 0)) (sym (log-after n)) ∙ q))
              ∙ ap (λ (r : Result). r.cells) (sym (rules k));
          totals = subst (TotalsKept W cells operations) (sym (accepted W cells operations schedule answers log e)) (words-totals P call ok schedule answers log);
        }
