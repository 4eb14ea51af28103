-- How cells agree with a map, and what a store of one cell does to that.
-- Assumes nothing.
use mathlib.Core.Path.{◌≡◌, refl, ap, ap₂, sym, ◌∙◌, subst}
use Prim.Native.Nat.{ℕ, zero, suc, ◌+◌, ◌-◌, ◌%◌, ◌≤◌, ◌<◌}
use mathlib.Core.Bool.{Bool, true, false, cond, not, true≢false}
use mathlib.Core.List.{List, [], ◌∷◌}
use mathlib.Core.Option.{Option, none, some, or_else}
use native.Mathlib.Omega.{arith}
use native.Mathlib.Nat.{mod-lt, mod-eq_of_lt, add-mod-mod, add-mod_right}
use native.Mathlib.Decide.{ℕ_discrete, dec_lt}
use borrow.Author.Tests.{eqb-true, eqb-false, eq-eqb, ne_eqb}
use lib.Dec.{eqb}
use lib.ListN.{length, get_or, set, length-set}
use lib.Seq.{get_or-set_same, get_or-set_other}
use Rattle.semantics.specs.Cells.{Setting, Cell, empty, tombstone, live, keyed, is_empty, used_cells, lookup}
use Rattle.semantics.specs.Step.{place_of}
use Rattle.semantics.specs.Map.{Map, with_pair, map_of}
use Rattle.semantics.proofs.Laws.{Lawful, Accepted}
use Rattle.semantics.proofs.Lists.{none-some}
use Rattle.semantics.proofs.Counts.{count_set, count-below, count-full}

-- a key is keyed by its own live cell and by no other
pub keyed-live : {T : Type 0} (k : ℕ) (t : T) → keyed k (live k t) ≡ some t
unfolding keyed
keyed-live k t = rw (eq-eqb k k refl)

pub keyed-other : {T : Type 0} (k j : ℕ) (t : T) → (k ≡ j → ⊥) → keyed k (live j t) ≡ none
unfolding keyed
keyed-other k j t h = rw (ne_eqb k j h)

-- a cell that has key k and total t is theirs
pub keyed-is-live : {T : Type 0} (k : ℕ) (x : Cell T) (t : T) → keyed k x ≡ some t → x ≡ live k t
unfolding keyed
keyed-is-live k empty t e = cc
keyed-is-live k tombstone t e = cc
keyed-is-live k (live j u) t e = go (eqb k j) refl e
  where
    go : (b : Bool) → eqb k j ≡ b → cond b (some u) none ≡ some t → live j u ≡ live k t
    go true o f = let p = eqb-true k j o in cc
    go false o f = cc

-- a step of an operation of key k may leave y where x was: x was empty or k's own, y is not empty, and no other key is touched
pub record Follows {T : Type 0} (k : ℕ) (x y : Cell T) : Type 0 where
  pub others : (j : ℕ) → (j ≡ k → ⊥) → keyed j y ≡ keyed j x
  pub owned : keyed k x ≡ none → is_empty x ≡ false → ⊥
  pub filled : is_empty y ≡ false

-- the number of cells not empty after a store, and where one is empty or none is
module _ {T : Type 0} (cells : List (Cell T)) where
  pub used-set : (i : ℕ) (y : Cell T) → i < length cells → is_empty y ≡ false
      → used_cells (set cells i y) ≡ cond (is_empty (get_or cells i empty)) (suc (used_cells cells)) (used_cells cells)
  unfolding used_cells
  used-set i y h f = go (is_empty (get_or cells i empty)) (rw f at (count_set (λ x. not (is_empty x)) cells i y empty h))
    where
      go : (z : Bool) → used_cells (set cells i y) + cond (not z) 1 0 ≡ used_cells cells + 1
          → used_cells (set cells i y) ≡ cond z (suc (used_cells cells)) (used_cells cells)
      go true e = omega arith
      go false e = omega arith

  pub used-below : (i : ℕ) → i < length cells → is_empty (get_or cells i empty) ≡ true → used_cells cells < length cells
  unfolding used_cells
  used-below i h e = count-below (λ x. not (is_empty x)) cells i empty h (ap not e)

  used_all : ((i : ℕ) → i < length cells → is_empty (get_or cells i empty) ≡ false) → used_cells cells ≡ length cells
  unfolding used_cells
  used_all h = count-full (λ x. not (is_empty x)) cells empty (λ i b. ap not (h i b))

-- what a lookup finds: the key is in no cell, or in the cell whose total it gives
data Looked {T : Type 0} (k : ℕ) (cells : List (Cell T)) : Option T → Type 0 where
  nowhere : ((j : ℕ) → keyed k (get_or cells j empty) ≡ none) → Looked k cells none
  somewhere : {t : T} (j : ℕ) → keyed k (get_or cells j empty) ≡ some t → Looked k cells (some t)

looked : {T : Type 0} (k : ℕ) (cells : List (Cell T)) → Looked k cells (lookup k cells)
unfolding lookup or_else keyed
looked k [] = nowhere (λ j. refl)
looked {T} k (x ∷ cells) = go (keyed k x) refl (looked k cells)
  where
    go : (o : Option T) → keyed k x ≡ o → {l : Option T} → Looked k cells l → Looked k (x ∷ cells) (or_else o l)
    go (some t) e l = somewhere 0 e
    go none e (nowhere h) = nowhere (λ j. elim j as (λ (n : ℕ). keyed k (get_or (x ∷ cells) n empty) ≡ none) [ zero ↦ e | suc i ↦ h i ])
    go none e (somewhere j f) = somewhere (suc j) f

-- the cell at the distance from h to i is i
pub distance_back : (c h i : ℕ) → h < c → i < c → (h + (i + c - h) % c) % c ≡ i
distance_back c h i a b =
    let e : h + (i + c - h) ≡ i + c = omega arith in
    add-mod-mod h (i + c - h) c ∙ ap (λ (n : ℕ). n % c) e ∙ add-mod_right i c ∙ mod-eq_of_lt b

module _ (S : Setting) where
  -- where a key stands: in no cell, or in one alone, d cells on from its home with none empty before it
  pub data Located (cells : List (Cell S.Total)) (k : ℕ) : Option S.Total → Type 0 where
    lacks : ((j : ℕ) → keyed k (get_or cells j empty) ≡ none) → Located cells k none
    has : {t : S.Total} (d : ℕ) → d < S.size → keyed k (get_or cells (place_of S k d) empty) ≡ some t
        → ((e : ℕ) → e < d → is_empty (get_or cells (place_of S k e) empty) ≡ false)
        → ((j : ℕ) → (j ≡ place_of S k d → ⊥) → keyed k (get_or cells j empty) ≡ none)
        → Located cells k (some t)

  -- the cells and the map hold the same pairs, and as many cells are used as the map counts
  pub record Agrees (cells : List (Cell S.Total)) (m : Map S.Total) : Type 0 where
    pub long : length cells ≡ S.size
    pub located : (k : ℕ) → Located cells k (m.pairs k)
    pub used : used_cells cells ≡ m.used

  -- an operation of key k has passed p cells, none of them empty or its key's
  pub record Probed (cells : List (Cell S.Total)) (k p : ℕ) : Type 0 where
    pub below : p < S.size
    pub foreign : (e : ℕ) → e < p → keyed k (get_or cells (place_of S k e) empty) ≡ none
    pub filled : (e : ℕ) → e < p → is_empty (get_or cells (place_of S k e) empty) ≡ false

  -- a key in a cell is in the map with that cell's total, and is nowhere else
  pub own_pair : {cells : List (Cell S.Total)} {k : ℕ} {o : Option S.Total} (j : ℕ) (t : S.Total)
      → Located cells k o → keyed k (get_or cells j empty) ≡ some t → o ≡ some t
  own_pair j t (lacks none_of) e = absurd (none-some (sym (none_of j) ∙ e))
  own_pair {cells} {k} j t (has {t = u} d h at before elsewhere) e =
      elim (ℕ_discrete j (place_of S k d)) [
        | yes q ↦ sym at ∙ ap (λ (n : ℕ). keyed k (get_or cells n empty)) (sym q) ∙ e
        | no q ↦ absurd (none-some (sym (elsewhere j q) ∙ e))
      ]

  pub own_alone : {cells : List (Cell S.Total)} {k : ℕ} {o : Option S.Total} (i : ℕ) (t : S.Total) → Located cells k o
      → keyed k (get_or cells i empty) ≡ some t
      → (j : ℕ) → (j ≡ i → ⊥) → keyed k (get_or cells j empty) ≡ none
  own_alone i t (lacks none_of) e j ne = none_of j
  own_alone {cells} {k} i t (has d l at before elsewhere) e j ne =
      elim (ℕ_discrete i (place_of S k d)) [
        | yes q ↦ elsewhere j (λ r. ne (r ∙ sym q))
        | no q ↦ absurd (none-some (sym (elsewhere i q) ∙ e))
      ]

  pub own-place : {cells : List (Cell S.Total)} {k : ℕ} {o : Option S.Total} (i j : ℕ) (t u : S.Total)
      → Located cells k o → keyed k (get_or cells i empty) ≡ some t → keyed k (get_or cells j empty) ≡ some u → i ≡ j
  own-place i j t u at e f =
      elim (ℕ_discrete i j) [ yes q ↦ q | no q ↦ absurd (none-some (sym (own_alone j u at f i q) ∙ e)) ]

  pub missing-alone : {cells : List (Cell S.Total)} {k : ℕ} {o : Option S.Total} → Located cells k o → o ≡ none → (j : ℕ)
      → keyed k (get_or cells j empty) ≡ none
  missing-alone (lacks none_of) e j = none_of j
  missing-alone (has {t = t} d l at before elsewhere) e j = absurd (none-some (sym e))

  pub located-lookup : {cells : List (Cell S.Total)} {k : ℕ} {o : Option S.Total} → Located cells k o → lookup k cells ≡ o
  located-lookup {cells} {k} {o} at = go (looked k cells)
    where
      missing : {o : Option S.Total} → ((j : ℕ) → keyed k (get_or cells j empty) ≡ none) → Located cells k o → none ≡ o
      missing h (lacks f) = refl
      missing h (has {t = t} d l e before elsewhere) = absurd (none-some (sym (h (place_of S k d)) ∙ e))

      go : {l : Option S.Total} → Looked k cells l → l ≡ o
      go (nowhere h) = missing h at
      go (somewhere {t = t} j e) = sym (own_pair j t at e)

  -- a search that meets an empty cell, or has passed all c cells, shows that the key is missing
  pub free-lacks : {cells : List (Cell S.Total)} {k : ℕ} {o : Option S.Total} (p : ℕ)
      → Located cells k o → Probed cells k p → is_empty (get_or cells (place_of S k p) empty) ≡ true → keyed k (get_or cells (place_of S k p) empty) ≡ none
      → o ≡ none
  free-lacks p (lacks none_of) h e f = refl
  free-lacks {cells} {k} p (has {t = t} d l at before elsewhere) h e f =
      elim (dec_lt d p) [
        | yes q ↦ absurd (none-some (sym (h.foreign d q) ∙ at))
        | no q ↦ elim (dec_lt p d) [
          | yes r ↦ absurd (true≢false (sym e ∙ before p r))
          | no r ↦ let same : d ≡ p = omega arith in absurd (none-some (sym f ∙ ap (λ (n : ℕ). keyed k (get_or cells (place_of S k n) empty)) (sym same) ∙ at))
        ]
      ]

  pub passed-lacks : {cells : List (Cell S.Total)} {k : ℕ} {o : Option S.Total} (p : ℕ)
      → Located cells k o → S.size ≤ p → ((e : ℕ) → e < p → keyed k (get_or cells (place_of S k e) empty) ≡ none) → o ≡ none
  passed-lacks p (lacks none_of) h f = refl
  passed-lacks p (has {t = t} d l at before elsewhere) h f = absurd (none-some (sym (f d (omega arith)) ∙ at))

  module _ (L : Lawful S) where
    pub size-pos : 0 < S.size
    size-pos = let h : S.home 0 < S.size = L.home_below 0 in omega arith

    pub place-below : (k p : ℕ) → place_of S k p < S.size
    unfolding place_of
    place-below k p = mod-lt (S.home k + p) size-pos

    -- every cell is some number of cells on from a key's home
    place-onto : (k j : ℕ) → j < S.size → (d : ℕ) × (d < S.size) × (place_of S k d ≡ j)
    unfolding place_of
    place-onto k j h =
        ((j + S.size - S.home k) % S.size, mod-lt (j + S.size - S.home k) size-pos, distance_back S.size (S.home k) j (L.home_below k) h)

    -- a search that has passed all c cells has seen none empty
    pub all-used : (cells : List (Cell S.Total)) (k : ℕ) → length cells ≡ S.size
        → ((e : ℕ) → e < S.size → is_empty (get_or cells (place_of S k e) empty) ≡ false) → used_cells cells ≡ S.size
    all-used cells k long f = used_all cells (λ i h. seen i (place-onto k i (omega arith))) ∙ long
      where
        seen : (i : ℕ) → (d : ℕ) × (d < S.size) × (place_of S k d ≡ i) → is_empty (get_or cells i empty) ≡ false
        seen i (d, h, e) = ap (λ (n : ℕ). is_empty (get_or cells n empty)) (sym e) ∙ f d h

    -- the cells that the checks accept agree with the map of their pairs
    pub start-agrees : (cells : List (Cell S.Total)) → Accepted S cells → Agrees cells (map_of cells)
    unfolding map_of
    start-agrees cells ok = record { long = ok.long; located = λ k. go k (looked k cells); used = refl }
      where
        go : (k : ℕ) {o : Option S.Total} → Looked k cells o → Located cells k o
        go k (nowhere h) = lacks h
        go k (somewhere {t = t} j e) =
            let (d, below, at, before) = ok.reached k j t e in
            has d below (ap (λ (n : ℕ). keyed k (get_or cells n empty)) at ∙ e) before (λ i ne. alone i (λ q. ne (q ∙ sym at)) (keyed k (get_or cells i empty)) refl)
          where
            alone : (i : ℕ) → (i ≡ j → ⊥) → (o : Option S.Total) → keyed k (get_or cells i empty) ≡ o → o ≡ none
            alone i ne none f = refl
            alone i ne (some u) f = absurd (ne (ok.distinct k i j u t f e))

    -- one store, of y in a cell `at`, by an operation of key k
    module _ (cells : List (Cell S.Total)) (long : length cells ≡ S.size) (k at : ℕ) (below : at < S.size) (y : Cell S.Total)
        (f : Follows k (get_or cells at empty) y) where
      stored_at : get_or (set cells at y) at empty ≡ y
      stored_at = get_or-set_same cells at y empty (omega arith)

      keyed-set : (i j : ℕ) → (i ≡ k → ⊥) → keyed i (get_or (set cells at y) j empty) ≡ keyed i (get_or cells j empty)
      keyed-set i j ne =
          elim (ℕ_discrete j at) [
            | yes q ↦ rw (q, stored_at) (f.others i ne)
            | no q ↦ rw (get_or-set_other cells at j y empty q)
          ]

      filled-set : (j : ℕ) → is_empty (get_or cells j empty) ≡ false → is_empty (get_or (set cells at y) j empty) ≡ false
      filled-set j e =
          elim (ℕ_discrete j at) [
            | yes q ↦ rw (q, stored_at) f.filled
            | no q ↦ rw (get_or-set_other cells at j y empty q) e
          ]

      -- a passed cell stays neither empty nor its key's, whoever passed it
      foreign-set : (i j : ℕ) → keyed i (get_or cells j empty) ≡ none → is_empty (get_or cells j empty) ≡ false
          → keyed i (get_or (set cells at y) j empty) ≡ none
      foreign-set i j e h =
          elim (ℕ_discrete j at) [
            | yes q ↦ elim (ℕ_discrete i k) [
              | yes r ↦ absurd (f.owned (ap₂ (λ (a b : ℕ). keyed a (get_or cells b empty)) (sym r) (sym q) ∙ e) (ap (λ (b : ℕ). is_empty (get_or cells b empty)) (sym q) ∙ h))
              | no r ↦ keyed-set i j r ∙ e
            ]
            | no q ↦ rw (get_or-set_other cells at j y empty q) e
          ]

      pub probed-set : {i p : ℕ} → Probed cells i p → Probed (set cells at y) i p
      probed-set {i} h =
          record {
            below = h.below;
            foreign = λ e l. foreign-set i (place_of S i e) (h.foreign e l) (h.filled e l);
            filled = λ e l. filled-set (place_of S i e) (h.filled e l);
          }

      -- another key stands where it stood
      located-set : {i : ℕ} {o : Option S.Total} → (i ≡ k → ⊥) → Located cells i o → Located (set cells at y) i o
      located-set {i} ne (lacks h) = lacks (λ j. keyed-set i j ne ∙ h j)
      located-set {i} ne (has {t = t} d l e before elsewhere) =
          has d l (keyed-set i (place_of S i d) ne ∙ e) (λ n h. filled-set (place_of S i n) (before n h)) (λ j h. keyed-set i j ne ∙ elsewhere j h)

      -- the key itself stands where y was stored, or nowhere
      pub has-set : (d : ℕ) (u : S.Total) → d < S.size → place_of S k d ≡ at → keyed k y ≡ some u
          → ((e : ℕ) → e < d → is_empty (get_or cells (place_of S k e) empty) ≡ false)
          → ((j : ℕ) → (j ≡ at → ⊥) → keyed k (get_or cells j empty) ≡ none)
          → Located (set cells at y) k (some u)
      has-set d u l q e before elsewhere =
          has d l (ap (λ (n : ℕ). keyed k (get_or (set cells at y) n empty)) q ∙ ap (λ (c : Cell S.Total). keyed k c) stored_at ∙ e)
          (λ n h. filled-set (place_of S k n) (before n h))
          (λ j h. let ne : j ≡ at → ⊥ = λ r. h (r ∙ sym q) in rw (get_or-set_other cells at j y empty ne) (elsewhere j ne))

      pub lacks-set : keyed k y ≡ none → ((j : ℕ) → (j ≡ at → ⊥) → keyed k (get_or cells j empty) ≡ none) → Located (set cells at y) k none
      lacks-set e elsewhere =
          lacks (λ j. elim (ℕ_discrete j at) [
            | yes q ↦ rw (q, stored_at) e
            | no q ↦ rw (get_or-set_other cells at j y empty q) (elsewhere j q)
          ])

      pub agrees-set : {m : Map S.Total} {n : ℕ} (o : Option S.Total) → Agrees cells m → Located (set cells at y) k o
          → used_cells (set cells at y) ≡ n
          → Agrees (set cells at y) (record { pairs = with_pair k o m.pairs; used = n })
      unfolding with_pair
      agrees-set {m} o a own u = record { long = length-set cells at y ∙ long; located = λ i. go i (eqb i k) refl; used = u }
        where
          go : (i : ℕ) (z : Bool) → eqb i k ≡ z → Located (set cells at y) i (cond z o (m.pairs i))
          go i true q = subst (λ (n : ℕ). Located (set cells at y) n o) (sym (eqb-true i k q)) own
          go i false q = located-set (eqb-false i k q) (a.located i)
