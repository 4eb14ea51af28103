-- Demand 3: with only finds and adds, all finished and cells enough, each room ends with its expected total whatever the schedule was.
-- It follows from demand 2: the log names each operation once, the sum does not depend on the order, and no add finds the table full.
-- Assumes nothing.
use mathlib.Core.Path.{◌≡◌, refl, ap, ap₂, sym, ◌∙◌}
use Prim.Native.Nat.{ℕ, zero, suc, ◌+◌, ◌≤◌}
use mathlib.Core.Bool.{Bool, true, false, cond, ◌&&◌, ◌||◌, not, and-false}
use mathlib.Core.List.{List, [], ◌∷◌, map, foldl}
use mathlib.Core.Option.{Option, none, some}
use native.Mathlib.Omega.{arith}
use native.Mathlib.Decide.{ℕ_discrete}
use borrow.Author.Tests.{eqb-true, eq-eqb, ne_eqb}
use lib.Dec.{T as Holds, eqb}
use lib.ListN.{length, get_elem?, length-map}
use Rattle.semantics.specs.Basics.{is_some, occurs, any_of}
use Rattle.semantics.specs.Cells.{Setting, Cell, Kind, find, insert, update, add, remove, Operation, lookup}
use Rattle.semantics.specs.Step.{Row, Machine, answered, answer_in, finished_in, done_count, run}
use Rattle.semantics.specs.Map.{Map, Done, Replay, with_pair, unchanged, replaced, map_of, stored, perform, performed, noted, replay_one, replay}
use Rattle.semantics.specs.TotalsRule.{is_add, is_find_or_add, only_finds_and_adds, is_present, adds_to, is_added, amounts_added, counts_at, rooms_to_make}
use Rattle.semantics.specs.TotalsRule.{CellsSuffice, expected_from, expected}
use Rattle.semantics.proofs.Laws.{Lawful, Accepted}
use Rattle.semantics.proofs.Lists.{elem-get_d, all-at, any_at}
use Rattle.semantics.proofs.Counts.{cond-swap, count-each}
use Rattle.semantics.proofs.Orders.{fold-any-order, indices, occurs-indices, fold-indices}
use Rattle.semantics.proofs.Linearizability.{Linearized, linearizable}

-- key k counted as present too
unfoldable with-key : ℕ → (ℕ → Bool) → ℕ → Bool
with-key k present j = cond (eqb j k) true (present j)

own_room : (a b : Bool) (n : ℕ) → cond (a && (not false && not b)) (suc (cond b (suc n) n)) (cond b (suc n) n)
    ≡ cond (a && true || b) (suc (cond (a && (not true && not b)) (suc n) n)) (cond (a && (not true && not b)) (suc n) n)
own_room true true n = refl
own_room true false n = refl
own_room false true n = refl
own_room false false n = refl

some-map : {A B : Type 0} (f : A → B) (l : List A) (i : ℕ) → is_some (get_elem? (map f l) i) ≡ is_some (get_elem? l i)
unfolding is_some
some-map f [] i = refl
some-map f (x ∷ l) zero = refl
some-map f (x ∷ l) (suc i) = some-map f l i

module _ {T : Type 0} where
  -- the rooms to make are one fewer once a missing room that is added has been made
  rooms-with : (k : ℕ) (present : ℕ → Bool) → present k ≡ false → (ops : List (Operation T))
      → rooms_to_make present ops ≡ cond (is_added k ops) (suc (rooms_to_make (with-key k present) ops)) (rooms_to_make (with-key k present) ops)
  unfolding rooms_to_make is_added any_of counts_at adds_to with-key
  rooms-with k present h [] = refl
  rooms-with k present h (o ∷ ops) = rw (rooms-with k present h ops) (go (ℕ_discrete o.key k))
    where
      added : Bool
      added = is_added k ops

      r : ℕ
      r = rooms_to_make (with-key k present) ops

      counts : (p : ℕ → Bool) (b : Bool) → p o.key ≡ b → o.key ≡ k → counts_at p o ops ≡ (is_add o.kind && (not b && not added))
      counts p b e q = ap₂ (λ (x : Bool) (n : ℕ). is_add o.kind && (not x && not (is_added n ops))) e q

      then : Bool → ℕ
      then z = cond z (suc r) r

      go : Dec (o.key ≡ k) → cond (counts_at present o ops) (suc (then added)) (then added)
          ≡ cond (adds_to k o || added) (suc (then (counts_at (with-key k present) o ops))) (then (counts_at (with-key k present) o ops))
      go (yes q) =
          let mine : eqb k o.key ≡ true = eq-eqb k o.key (sym q) in
          rw (counts present false (ap present q ∙ h) q, counts (with-key k present) true (rw (eq-eqb o.key k q)) q, mine)
          (own_room (is_add o.kind) added r)
      go (no q) = rw (ne_eqb o.key k q, ne_eqb k o.key (λ e. q (sym e)), and-false) (cond-swap (counts_at present o ops) added r)

  rooms_same : (p q : ℕ → Bool) → ((k : ℕ) → p k ≡ q k) → (ops : List (Operation T)) → rooms_to_make p ops ≡ rooms_to_make q ops
  unfolding rooms_to_make counts_at
  rooms_same p q h [] = refl
  rooms_same p q h (o ∷ ops) = rw (h o.key, rooms_same p q h ops)

  -- rows that are all done have each finished
  all_done : (rows : List (Row T)) → done_count rows ≡ length rows → (i : ℕ) → finished_in rows i ≡ is_some (get_elem? rows i)
  unfolding done_count finished_in answer_in is_some
  all_done rows e i = go (get_elem? rows i) refl
    where
      go : (o : Option (Row T)) → get_elem? rows i ≡ o → is_some (answer_in o) ≡ is_some o
      go none q = refl
      go (some r) q =
          let (b, f) = elem-get_d rows i r q in
          ap (λ (x : Row T). is_some (answered x.state)) (sym f) ∙ count-each (λ (x : Row T). is_some (answered x.state)) rows e i r b

  -- a room that an operation of the list adds to is added
  added-at : (ops : List (Operation T)) (i : ℕ) {o : Operation T} → get_elem? ops i ≡ some o → is_add o.kind ≡ true → is_added o.key ops ≡ true
  unfolding is_added adds_to
  added-at ops i {o} e h = any_at (adds_to o.key) ops i e (rw (h, eq-eqb o.key o.key refl))

module _ (S : Setting) (L : Lawful S) where
  -- what an operation adds to the total of room k
  unfoldable plussed : Option S.Total → S.Total → Option S.Total
  plussed none a = some a
  plussed (some t) a = some (S.plus t a)

  unfoldable add-one-to : ℕ → Option S.Total → Operation S.Total → Option S.Total
  add-one-to k z o = cond (adds_to k o) (plussed z o.amount) z

  unfoldable add-to : ℕ → Option S.Total → Option (Operation S.Total) → Option S.Total
  add-to k z none = z
  add-to k z (some o) = add-one-to k z o

  -- and in which order two of them do so does not matter
  plussed-comm : (z : Option S.Total) (a b : S.Total) → plussed (plussed z a) b ≡ plussed (plussed z b) a
  unfolding plussed
  plussed-comm none a b = ap some (L.plus_comm a b)
  plussed-comm (some t) a b = ap some (L.plus_assoc t a b ∙ ap (λ (u : S.Total). S.plus t u) (L.plus_comm a b) ∙ sym (L.plus_assoc t b a))

  add_comm : (k : ℕ) (z : Option S.Total) (x y : Option (Operation S.Total)) → add-to k (add-to k z x) y ≡ add-to k (add-to k z y) x
  unfolding add-to add-one-to
  add_comm k z none y = refl
  add_comm k z (some o) none = refl
  add_comm k z (some o) (some o') = go (adds_to k o) (adds_to k o')
    where
      go : (p q : Bool) → cond q (plussed (cond p (plussed z o.amount) z) o'.amount) (cond p (plussed z o.amount) z)
          ≡ cond p (plussed (cond q (plussed z o'.amount) z) o.amount) (cond q (plussed z o'.amount) z)
      go true true = plussed-comm z o.amount o'.amount
      go true false = refl
      go false true = refl
      go false false = refl

  -- taken in row order they come to the expected total
  add-all : (k : ℕ) (ops : List (Operation S.Total)) (z : Option S.Total) → foldl (add-one-to k) z ops ≡ expected_from S z (amounts_added k ops)
  unfolding expected_from amounts_added add-one-to plussed
  add-all k [] none = refl
  add-all k [] (some t) = ap some (sym (L.sum-none t))
  add-all k (o ∷ ops) z = go (adds_to k o) refl z (λ y. add-all k ops y)
    where
      go : (p : Bool) → adds_to k o ≡ p → (z : Option S.Total)
          → ((y : Option S.Total) → foldl (add-one-to k) y ops ≡ expected_from S y (amounts_added k ops))
          → foldl (add-one-to k) (add-one-to k z o) ops ≡ expected_from S z (cond p (o.amount ∷ amounts_added k ops) (amounts_added k ops))
      go false e z ih = rw e (ih z)
      go true e none ih = rw e (ih (some o.amount))
      go true e (some t) ih = rw e (ih (some (S.plus t o.amount)) ∙ ap some (sym (L.sum_more t o.amount (amounts_added k ops))))

  module _ (ops : List (Operation S.Total)) where
    -- the rooms still to make, where a map has some pairs; with the cells not empty they are at most c
    abbrev to_make : (ℕ → Option S.Total) → ℕ
    to_make pairs = rooms_to_make (λ k. is_some (pairs k)) ops

    unfoldable Enough : Map S.Total → Type 0
    Enough m = m.used + to_make m.pairs ≤ S.size

    -- the pair that is put in is what an add makes of the one before
    paired : (key : ℕ) (a : S.Total) (m : Map S.Total) (z : Option S.Total) → m.pairs key ≡ z → (k : ℕ)
        → with_pair key (plussed z a) m.pairs k ≡ cond (eqb k key) (plussed (m.pairs k) a) (m.pairs k)
    unfolding with_pair
    paired key a m z e k = go (eqb k key) refl
      where
        go : (p : Bool) → eqb k key ≡ p → cond p (plussed z a) (m.pairs k) ≡ cond p (plussed (m.pairs k) a) (m.pairs k)
        go true q = ap (λ (y : Option S.Total). plussed y a) (sym e ∙ ap m.pairs (sym (eqb-true k key q)))
        go false q = refl

    -- with a room made, one fewer is left to make; with a total changed, as many
    room-made : (key : ℕ) (u : S.Total) (m : Map S.Total) → m.pairs key ≡ none → is_added key ops ≡ true
        → to_make m.pairs ≡ suc (to_make (with_pair key (some u) m.pairs))
    unfolding with_pair with-key is_some
    room-made key u m e h =
        rooms-with key (λ k. is_some (m.pairs k)) (rw e) ops ∙ rw h (ap suc (rooms_same (with-key key (λ k. is_some (m.pairs k))) _ (λ k. go k (eqb k key)) ops))
      where
        go : (k : ℕ) (p : Bool) → cond p true (is_some (m.pairs k)) ≡ is_some (cond p (some u) (m.pairs k))
        go k true = refl
        go k false = refl

    room-kept : (key : ℕ) (t u : S.Total) (m : Map S.Total) → m.pairs key ≡ some t → to_make m.pairs ≡ to_make (with_pair key (some u) m.pairs)
    unfolding with_pair is_some
    room-kept key t u m e = rooms_same (λ k. is_some (m.pairs k)) _ (λ k. go k (eqb k key) refl) ops
      where
        go : (k : ℕ) (p : Bool) → eqb k key ≡ p → is_some (m.pairs k) ≡ is_some (cond p (some u) (m.pairs k))
        go k true q = rw (eqb-true k key q, e)
        go k false q = refl

    -- a find or an add on the map: what it adds, and that there is still room enough
    record Performs (kind : Kind) (key : ℕ) (a : S.Total) (m : Map S.Total) (d : Done S.Total) : Type 0 where
      pairs : (k : ℕ) → d.after.pairs k ≡ cond (is_add kind && eqb k key) (plussed (m.pairs k) a) (m.pairs k)
      enough : Enough d.after

    performs : (kind : Kind) (key : ℕ) (a : S.Total) (m : Map S.Total) (z : Option S.Total) → m.pairs key ≡ z → Holds (is_find_or_add kind)
        → (is_add kind ≡ true → is_added key ops ≡ true) → Enough m → Performs kind key a m (perform S kind key a m z)
    unfolding perform unchanged replaced stored plussed is_add is_find_or_add Enough
    performs find key a m none e h named en = record { pairs = λ k. refl; enough = en }
    performs find key a m (some t) e h named en = record { pairs = λ k. refl; enough = en }
    performs insert key a m z e h named en = absurd h
    performs update key a m z e h named en = absurd h
    performs remove key a m z e h named en = absurd h
    performs add key a m none e h named en =
        let fewer = room-made key a m e (named refl) in
        rw (ne_eqb m.used S.size (λ q. omega arith)) (record { pairs = paired key a m none e; enough = omega arith })
    performs add key a m (some t) e h named en =
        record { pairs = paired key a m (some t) e; enough = rw (← room-kept key t (S.plus t a) m e) en }

    -- so each room's pair, as the log is replayed, is what the adds named so far make of it
    abbrev replay_from : Replay S.Total → List ℕ → Replay S.Total
    replay_from = foldl (λ r i. replay_one S r (get_elem? ops i))

    abbrev add_from : ℕ → Option S.Total → List ℕ → Option S.Total
    add_from k = foldl (λ z i. add-to k z (get_elem? ops i))

    replayed : Holds (only_finds_and_adds ops) → (l : List ℕ) (r : Replay S.Total) → Enough r.now
        → (k : ℕ) → (replay_from r l).now.pairs k ≡ add_from k (r.now.pairs k) l
    unfolding replay_one noted performed add-to add-one-to adds_to only_finds_and_adds
    replayed only [] r en k = refl
    replayed only (i ∷ l) r en k = go (get_elem? ops i) refl (λ r' en'. replayed only l r' en' k)
      where
        go : (x : Option (Operation S.Total)) → get_elem? ops i ≡ x
            → ((r' : Replay S.Total) → Enough r'.now → (replay_from r' l).now.pairs k ≡ add_from k (r'.now.pairs k) l)
            → (replay_from (replay_one S r x) l).now.pairs k ≡ add_from k (add-to k (r.now.pairs k) x) l
        go none e ih = ih r en
        go (some o) e ih =
            let m = r.now in
            let p = performs o.kind o.key o.amount m (m.pairs o.key) refl (all-at (λ (x : Operation S.Total). is_find_or_add x.kind) ops i only e) (added-at ops i e) en in
            ih (noted S r (performed S m o)) p.enough ∙ ap (λ (z : Option S.Total). add_from k z l) (p.pairs k)

  -- where every operation has finished, the log names each of them once
  each-once : (start : List (Cell S.Total)) (ops : List (Operation S.Total)) (m : Machine S.Total) → Linearized S start ops m
      → done_count m.rows ≡ length ops
      → (i : ℕ) → occurs i m.log ≡ occurs i (indices (length ops))
  each-once start ops m lin done i =
      lin.once i ∙ ap (λ (z : Bool). cond z 1 0) (all_done m.rows as_many i ∙ there) ∙ sym (occurs-indices ops i)
    where
      operation_of : Row S.Total → Operation S.Total
      operation_of r = r.operation

      as_many : done_count m.rows ≡ length m.rows
      as_many = done ∙ ap length (sym lin.operations) ∙ length-map m.rows operation_of

      there : is_some (get_elem? m.rows i) ≡ is_some (get_elem? ops i)
      there = sym (some-map operation_of m.rows i) ∙ ap (λ (l : List (Operation S.Total)). is_some (get_elem? l i)) lin.operations

  pub totals-rule : (start : List (Cell S.Total)) → Accepted S start → (ops : List (Operation S.Total)) (schedule : List ℕ)
      → Holds (only_finds_and_adds ops)
      → done_count (run S start ops schedule).rows ≡ length ops
      → CellsSuffice S start ops
      → (k : ℕ) → lookup k (run S start ops schedule).cells ≡ expected S start ops k
  unfolding CellsSuffice expected replay map_of Enough is_present add-to
  totals-rule start ok ops schedule only finish suffice k =
      lin.pairs k
      ∙ replayed ops only log (record { now = map_of start; answers = [] }) suffice k
      ∙ fold-any-order (λ z i. add-to k z (get_elem? ops i)) (λ z i j. add_comm k z (get_elem? ops i) (get_elem? ops j)) log (indices (length ops))
      (lookup k start) (each-once start ops (run S start ops schedule) lin finish)
      ∙ fold-indices (add-to k) (lookup k start) ops
      ∙ add-all k ops (lookup k start)
    where
      lin : Linearized S start ops (run S start ops schedule)
      lin = linearizable S L start ops ok schedule

      log : List ℕ
      log = (run S start ops schedule).log
