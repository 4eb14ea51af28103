-- One step against the map: it leaves the cells as they were and its operation unfinished, or it finishes the operation with the answer
-- that the map gives now, and leaves cells that agree with the map's next state.
-- Assumes nothing.
use mathlib.Core.Path.{◌≡◌, refl, ap, sym, ◌∙◌, subst}
use Prim.Native.Nat.{ℕ, suc, ◌<◌}
use mathlib.Core.Bool.{Bool, true, false, cond, true≢false}
use mathlib.Core.List.{List}
use mathlib.Core.Option.{Option, none, some}
use native.Mathlib.Omega.{arith}
use native.Mathlib.Decide.{dec_lt}
use borrow.Author.Tests.{eqb-true, eqb-false, eq-eqb, ne_eqb}
use lib.Dec.{eqb}
use lib.ListN.{length, get_or, set}
use lib.Seq.{set-get_or}
use Rattle.semantics.specs.Totals.{caps}
use Rattle.semantics.specs.Cells.{Setting, Cell, empty, tombstone, live, Kind, find, insert, update, add, remove, Operation, Answer, absent, full, inserted, changed, capped}
use Rattle.semantics.specs.Cells.{keyed, is_empty, used_cells}
use Rattle.semantics.specs.Step.{Sight, own, free, other, sight, Held, vacant, mine, passes, holds, finishes, Pending, reading, holding, pending}
use Rattle.semantics.specs.Step.{Turn, Effect, Fate, stays, ends, becomes, Stepped, makes, after, logged, updating, effect, read_own, read, exhausted, bounded}
use Rattle.semantics.specs.Step.{held_cell, fate_cell, new_cell, swap_answer, same_cell, swapped, step, passed, place_of}
use Rattle.semantics.specs.Map.{Map, Done, with_pair, unchanged, replaced, added, updated, stored, perform, performed}
use Rattle.semantics.proofs.Laws.{Lawful}
use Rattle.semantics.proofs.Lists.{none-some}
use Rattle.semantics.proofs.Booleans.{true-T, same-cell-sound}
use Rattle.semantics.proofs.Sights.{Seen, seen-own, seen-free, seen_other, seen}
use Rattle.semantics.proofs.Table.{keyed-live, keyed-other, Follows, used-set, used-below, Located, Agrees, Probed}
use Rattle.semantics.proofs.Table.{own_pair, own_alone, missing-alone, free-lacks, passed-lacks, place-below, all-used, probed-set, has-set, lacks-set, agrees-set}

-- the two ways in which a swap that is won may change its cell
follows-fill : {T : Type 0} (k : ℕ) (a : T) → Follows k empty (live k a)
unfolding is_empty keyed
follows-fill k a = record { others = λ j ne. rw (ne_eqb j k ne); owned = λ e f. true≢false f; filled = refl }

follows-own : {T : Type 0} (k : ℕ) (t : T) (y : Cell T) → ((j : ℕ) → (j ≡ k → ⊥) → keyed j y ≡ none) → is_empty y ≡ false → Follows k (live k t) y
follows-own k t y h f =
    record {
      others = λ j ne. h j ne ∙ sym (keyed-other j k t ne);
      owned = λ e g. none-some (sym e ∙ keyed-live k t);
      filled = f;
    }

-- what an add answers in the map is what it answers in the table
answers-alike : {T : Type 0} (t : T) (was now : Bool) → added t was now ≡ cond (caps was now) (capped t) (changed t)
unfolding added caps
answers-alike t false true = refl
answers-alike t false false = refl
answers-alike t true true = refl
answers-alike t true false = refl

module _ (S : Setting) (L : Lawful S) where
  -- the tie between the step's rules and the map's own arms: on a present key, and on a missing one
  by-fate : ℕ → Map S.Total → Answer S.Total → Fate S.Total → Done S.Total
  by-fate k m a stays = unchanged m a
  by-fate k m a ends = replaced k none m a
  by-fate k m a (becomes u) = replaced k (some u) m a

  perform-some : (kind : Kind) (k : ℕ) (a : S.Total) (m : Map S.Total) (t : S.Total)
      → perform S kind k a m (some t) ≡ by-fate k m (effect S kind t a).answer (effect S kind t a).fate
  unfolding perform updated updating effect by-fate
  perform-some find k a m t = refl
  perform-some insert k a m t = refl
  perform-some update k a m t = go (S.saturated t)
    where
      go : (z : Bool) → updated k a m t z ≡ by-fate k m (updating t a z).answer (updating t a z).fate
      go true = refl
      go false = refl
  perform-some add k a m t = ap (replaced k (some (S.plus t a)) m) (answers-alike t (S.saturated t) (S.saturated (S.plus t a)))
  perform-some remove k a m t = refl

  perform-none : (kind : Kind) (k : ℕ) (a : S.Total) (m : Map S.Total)
      → perform S kind k a m none ≡ cond (makes kind) (stored S k a m) (unchanged m absent)
  unfolding perform makes
  perform-none find k a m = refl
  perform-none insert k a m = refl
  perform-none update k a m = refl
  perform-none add k a m = refl
  perform-none remove k a m = refl

  -- what is known of an unfinished operation: it has passed only cells of others, and holds the empty word only if its kind makes keys
  unfoldable pub HoldsFor : Operation S.Total → Held S.Total → Type 0
  HoldsFor o vacant = makes o.kind ≡ true
  HoldsFor o (mine t) = Unit {0}

  unfoldable pub Standing : List (Cell S.Total) → Operation S.Total → Pending S.Total → Type 0
  Standing cells o (reading p) = Probed S cells o.key p
  Standing cells o (holding p h) = Probed S cells o.key p × HoldsFor o h

  -- what a step of o, p cells passed, comes to at the cell `at`
  pub data Advance (cells : List (Cell S.Total)) (m : Map S.Total) (o : Operation S.Total) (p at : ℕ) (r : Stepped S.Total)
      : Type 0 where
    goes_on_lem : (s : Pending S.Total) → r.cell ≡ get_or cells at empty → after p r.turn ≡ pending s
        → ((i : ℕ) (l : List ℕ) → logged r.turn i l ≡ l)
        → Standing cells o s → Advance cells m o p at r
    completes : r.turn ≡ finishes (performed S m o).answer → Agrees S (set cells at r.cell) (performed S m o).after
        → ((i q : ℕ) → Probed S cells i q → Probed S (set cells at r.cell) i q) → Advance cells m o p at r

  module _ (cells : List (Cell S.Total)) (m : Map S.Total) (a : Agrees S cells m) (o : Operation S.Total) where
    abbrev k : ℕ
    k = o.key

    abbrev does : S.Total → Effect S.Total
    does t = effect S o.kind t o.amount

    -- what the map does now, where the key is present and where it is missing
    performed-some : (t : S.Total) → m.pairs k ≡ some t → performed S m o ≡ by-fate k m (does t).answer (does t).fate
    unfolding performed
    performed-some t e = rw e (perform-some o.kind k o.amount m t)

    performed-none : m.pairs k ≡ none → performed S m o ≡ cond (makes o.kind) (stored S k o.amount m) (unchanged m absent)
    unfolding performed
    performed-none e = rw e (perform-none o.kind k o.amount m)

    -- an operation that finishes at a read, where the map too leaves everything as it is
    finishes-at-read : (p at : ℕ) (b : Answer S.Total) → performed S m o ≡ unchanged m b
        → Advance cells m o p at (record { cell = get_or cells at empty; turn = finishes b })
    unfolding unchanged
    finishes-at-read p at b e =
        completes (ap (λ (d : Done S.Total). finishes d.answer) (sym e))
        (rw (set-get_or cells at empty) (subst (λ (d : Done S.Total). Agrees S cells d.after) (sym e) a))
        (λ i q h. rw (set-get_or cells at empty) h)

    -- an operation that has passed p cells takes its step at the one after them
    module _ (p : ℕ) (h : Probed S cells k p) where
      abbrev at : ℕ
      at = place_of S k p

      abbrev x : Cell S.Total
      x = get_or cells at empty

      abbrev Comes : Cell S.Total → Turn S.Total → Type 0
      Comes y turn = Advance cells m o p at (record { cell = y; turn = turn })

      now-holds : (w : Held S.Total) → HoldsFor o w → Comes x (holds w)
      unfolding after logged Standing
      now-holds w f = goes_on_lem (holding p w) refl refl (λ i l. refl) (h, f)

      -- its own key: present in the map with the total that it reads
      present : (t : S.Total) → keyed k x ≡ some t → m.pairs k ≡ some t
      present t = own_pair S at t (a.located k)

      read-own : (t : S.Total) → keyed k x ≡ some t → (f : Fate S.Total) → (does t).fate ≡ f
          → Comes x (bounded S o.kind p (read_own S t (does t).answer f))
      unfolding bounded read_own by-fate HoldsFor
      read-own t e stays q =
          finishes-at-read p at (does t).answer (performed-some t (present t e) ∙ ap (by-fate k m (does t).answer) q)
      read-own t e ends q = now-holds (mine t) tt
      read-own t e (becomes u) q = now-holds (mine t) tt

      -- an empty cell: the key is missing in the map
      missing : is_empty x ≡ true → keyed k x ≡ none → m.pairs k ≡ none
      missing = free-lacks S p (a.located k) h

      read-free : is_empty x ≡ true → keyed k x ≡ none → (z : Bool) → makes o.kind ≡ z
          → Comes x (bounded S o.kind p (cond z (holds vacant) (finishes absent)))
      unfolding bounded HoldsFor
      read-free e f true q = now-holds vacant q
      read-free e f false q =
          finishes-at-read p at absent
          (performed-none (missing e f) ∙ ap (λ (z : Bool). cond z (stored S k o.amount m) (unchanged m absent)) q)

      -- another key or a tombstone: what is known of the passed cells holds of this one too
      up_to : (P : ℕ → Type 0) → ((e : ℕ) → e < p → P e) → P p → (e : ℕ) → e < suc p → P e
      up_to P f g e l = elim (dec_lt e p) [ yes q ↦ f e q | no q ↦ let r : p ≡ e = omega arith in subst P r g ]

      foreign : keyed k x ≡ none → (e : ℕ) → e < suc p → keyed k (get_or cells (place_of S k e) empty) ≡ none
      foreign = up_to (λ e. keyed k (get_or cells (place_of S k e) empty) ≡ none) h.foreign

      filled : is_empty x ≡ false → (e : ℕ) → e < suc p → is_empty (get_or cells (place_of S k e) empty) ≡ false
      filled = up_to (λ e. is_empty (get_or cells (place_of S k e) empty) ≡ false) h.filled

      -- and once all c are passed, the key is missing and every cell is used
      passed-all : is_empty x ≡ false → keyed k x ≡ none → suc p ≡ S.size → performed S m o ≡ unchanged m (exhausted S o.kind)
      unfolding stored exhausted
      passed-all e f q = performed-none (passed-lacks S (suc p) (a.located k) (omega arith) (foreign f)) ∙ go (makes o.kind)
        where
          no_room : eqb m.used S.size ≡ true
          no_room = eq-eqb m.used S.size (sym a.used ∙ all-used S L cells k a.long (λ n l. filled e n (omega arith)))

          go : (z : Bool) → cond z (stored S k o.amount m) (unchanged m absent) ≡ unchanged m (cond z full absent)
          go true = rw no_room
          go false = refl

      read-other : is_empty x ≡ false → keyed k x ≡ none → (z : Bool) → eqb (suc p) S.size ≡ z
          → Comes x (cond z (finishes (exhausted S o.kind)) passes)
      unfolding after logged Standing
      read-other e f true q = finishes-at-read p at (exhausted S o.kind) (passed-all e f (eqb-true (suc p) S.size q))
      read-other e f false q =
          let ne : suc p ≡ S.size → ⊥ = eqb-false (suc p) S.size q in
          let b : p < S.size = h.below in
          goes_on_lem (reading (suc p)) refl refl (λ i l. refl) (record { below = omega arith; foreign = foreign f; filled = filled e })

      reads : (v : Sight S.Total) → Seen k x v → Comes x (bounded S o.kind p (read S o v))
      unfolding read bounded
      reads (own t) (seen-own e) = read-own t e (does t).fate refl
      reads free (seen-free e f) = read-free e f (makes o.kind) refl
      reads other (seen_other e f) = read-other e f (eqb (suc p) S.size) refl

      -- a swap that is won stores y, where the map puts the pair u in
      at-below : at < S.size
      at-below = place-below S L k p

      stores : (y : Cell S.Total) (b : Answer S.Total) (u : Option S.Total) (n : ℕ) → Follows k x y
          → Located S (set cells at y) k u
          → used_cells (set cells at y) ≡ n
          → performed S m o ≡ record { after = record { pairs = with_pair k u m.pairs; used = n }; answer = b }
          → Comes y (finishes b)
      stores y b u n f where-now used e =
          completes (ap (λ (d : Done S.Total). finishes d.answer) (sym e))
          (subst (λ (d : Done S.Total). Agrees S (set cells at y) d.after) (sym e)
          (agrees-set S L cells a.long k at at-below y f u a where-now used))
          (λ i q. probed-set S L cells a.long k at at-below y f)

      -- the key then stands where y was stored
      stands : (y : Cell S.Total) (u : S.Total) → Follows k x y → keyed k y ≡ some u
          → ((j : ℕ) → (j ≡ at → ⊥) → keyed k (get_or cells j empty) ≡ none) → Located S (set cells at y) k (some u)
      stands y u f e elsewhere = has-set S L cells a.long k at at-below y f p u h.below refl e h.filled elsewhere

      -- on an empty cell: the map has room, and stores the pair
      room : is_empty x ≡ true → eqb m.used S.size ≡ false
      room bare =
          let l : used_cells cells < length cells = used-below cells at (omega (arith, at-below, a.long)) bare in
          ne_eqb m.used S.size (λ r. omega (arith, a.long, a.used))

      stores-pair : is_empty x ≡ true → keyed k x ≡ none → makes o.kind ≡ true
          → performed S m o
          ≡ record { after = record { pairs = with_pair k (some o.amount) m.pairs; used = suc m.used }; answer = inserted }
      unfolding stored
      stores-pair bare e q = performed-none (missing bare e) ∙ rw (q, room bare)

      fill : x ≡ empty → makes o.kind ≡ true → Comes (new_cell S o vacant) (finishes (swap_answer S o vacant))
      unfolding new_cell swap_answer is_empty keyed
      fill e q =
          stores y inserted (some o.amount) (suc m.used) f
          (stands y o.amount f (keyed-live k o.amount) (λ j ne. missing-alone S (a.located k) (missing bare (rw e)) j))
          (used-set cells at y (omega (arith, at-below, a.long)) refl ∙ rw bare (ap suc a.used))
          (stores-pair bare (rw e) q)
        where
          y : Cell S.Total
          y = live k o.amount

          bare : is_empty x ≡ true
          bare = rw e

          f : Follows k x y
          f = subst (λ (c : Cell S.Total). Follows k c y) (sym e) (follows-fill k o.amount)

      -- on the key's own cell: the map replaces the pair, or takes it out
      change : (t : S.Total) → x ≡ live k t → (f : Fate S.Total) → (does t).fate ≡ f
          → Comes (fate_cell S k t f) (finishes (does t).answer)
      unfolding fate_cell by-fate replaced is_empty keyed
      change t e f q = go f (performed-some t (present t here) ∙ ap (by-fate k m b) q)
        where
          b : Answer S.Total
          b = (does t).answer

          here : keyed k x ≡ some t
          here = rw e (keyed-live k t)

          alone : (j : ℕ) → (j ≡ at → ⊥) → keyed k (get_or cells j empty) ≡ none
          alone = own_alone S at t (a.located k) here

          follows : (y : Cell S.Total) → ((j : ℕ) → (j ≡ k → ⊥) → keyed j y ≡ none) → is_empty y ≡ false → Follows k x y
          follows y g l = subst (λ (c : Cell S.Total). Follows k c y) (sym e) (follows-own k t y g l)

          used : (y : Cell S.Total) → is_empty y ≡ false → used_cells (set cells at y) ≡ m.used
          used y l = used-set cells at y (omega (arith, at-below, a.long)) l ∙ rw e a.used

          go : (f : Fate S.Total) → performed S m o ≡ by-fate k m b f → Comes (fate_cell S k t f) (finishes b)
          go stays r = subst (λ (c : Cell S.Total). Comes c (finishes b)) e (finishes-at-read p at b r)
          go ends r =
              let f : Follows k x tombstone = follows tombstone (λ j ne. refl) refl in
              stores tombstone b none m.used f (lacks-set S L cells a.long k at at-below tombstone f refl alone) (used tombstone refl) r
          go (becomes u) r =
              let f : Follows k x (live k u) = follows (live k u) (λ j ne. keyed-other j k u ne) refl in
              stores (live k u) b (some u) m.used f (stands (live k u) u f (keyed-live k u) alone) (used (live k u) refl) r

      wins : (w : Held S.Total) → HoldsFor o w → x ≡ held_cell S k w → Comes (new_cell S o w) (finishes (swap_answer S o w))
      unfolding held_cell new_cell swap_answer HoldsFor
      wins vacant q e = fill e q
      wins (mine t) q e = change t e (does t).fate refl

      swaps : (w : Held S.Total) → HoldsFor o w → (z : Bool) → same_cell S x (held_cell S k w) ≡ z
          → Advance cells m o p at (swapped S o w x z)
      unfolding swapped after logged Standing
      swaps w f true q = wins w f (same-cell-sound S L.same-sound x (held_cell S k w) (true-T (same_cell S x (held_cell S k w)) q))
      swaps w f false q = goes_on_lem (reading p) refl refl (λ i l. refl) h

    pub advance : (s : Pending S.Total) → Standing cells o s
        → Advance cells m o (passed S s) (place_of S k (passed S s)) (step S o s (get_or cells (place_of S k (passed S s)) empty))
    unfolding step passed Standing
    advance (reading p) h = let c = get_or cells (place_of S k p) empty in reads p h (sight k c) (seen k c)
    advance (holding p w) h = swaps p h.0 w h.1 (same_cell S (get_or cells (place_of S k p) empty) (held_cell S k w)) refl
