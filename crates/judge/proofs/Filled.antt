-- How many cells directly before a cell are filled, going round the table, and what that says of a search from a key's home.
-- Assumes nothing.
use mathlib.Core.Path.{◌≡◌, sym, ap, subst, ◌∙◌}
use Prim.Native.Nat.{ℕ, zero, suc, ◌+◌, ◌-◌, ◌%◌, ◌≤◌, ◌<◌}
use mathlib.Core.Bool.{Bool, true, false, ◌&&◌, and-false}
use mathlib.Core.List.{List}
use native.Mathlib.Nat.{mod-lt, mod-eq_of_lt, add-mod_right}
use native.Mathlib.Numerals.{add-one}
use native.Mathlib.Decide.{dec_lt}
use native.Mathlib.Omega.{arith}
use lib.Dec.{eqb, ltb}
use lib.ListN.{length, get_or}
use borrow.Author.Tests.{eq-eqb, ne_eqb, lt-ltb, le-ltb}
use Rattle.semantics.specs.Basics.{first_below, some_below}
use Rattle.semantics.specs.Words.{size_allowed, is_live_key, home_in}
use Rattle.semantics.specs.Keys.{is_unreachable_key}
use Rattle.semantics.proofs.Booleans.{true-T}
use Rattle.semantics.proofs.Sizes.{home-inside, allowed-bounds}
use Rattle.semantics.proofs.Searches.{first_below_lem, some_below_lem, none-some-below, Searching, search-starts, search-goes-on, search-finds, search-ends}

-- how far cell i is from h on, of c cells; and the key of the cell that is d + 1 before cell i
abbrev distance : ℕ → ℕ → ℕ → ℕ
distance c h i = (i + c - h) % c

abbrev back : List ℕ → ℕ → ℕ → ℕ
back keys i d = get_or keys ((i + length keys - (d + 1)) % length keys) 0

-- which is a difference, with or without the end of the table between
ahead : (c h i : ℕ) → h ≤ i → i < c → i - h ≡ distance c h i
ahead c h i l b =
    let turn : i + c - h ≡ i - h + c = omega arith in
    sym (ap (λ (n : ℕ). n % c) turn ∙ add-mod_right (i - h) c ∙ mod-eq_of_lt (omega arith))

around : (c h i : ℕ) → i < h → h < c → i + c - h ≡ distance c h i
around c h i l b = sym (mod-eq_of_lt (omega arith))

-- what lies d before n lies before s if it is further back than the cells from s on
before : (a d n s : ℕ) → a + d ≡ n → s ≤ n → ltb a s ≡ ltb (n - s) d
before a d n s e m = elim (dec_lt a s) [
  | yes t ↦ lt-ltb a s t ∙ sym (lt-ltb (n - s) d (omega arith))
  | no t ↦ le-ltb a s (omega arith) ∙ sym (le-ltb (n - s) d (omega arith))
]

-- so does h, where s is c too large
pub before-ahead : (c h i s : ℕ) → h ≤ i → i < c → s ≤ i + c → ltb (h + c) s ≡ ltb (i + c - s) (distance c h i)
before-ahead c h i s l b m = before (h + c) (distance c h i) (i + c) s (omega (arith, ahead c h i l b)) m

pub before-around : (c h i s : ℕ) → i < h → h < c → s ≤ i + c → ltb h s ≡ ltb (i + c - s) (distance c h i)
before-around c h i s l b m = before h (distance c h i) (i + c) s (omega (arith, around c h i l b)) m

-- the same cell, from h on and from i back
same-cell : (c h i d : ℕ) → h < c → i < c → d < distance c h i → (h + (distance c h i - (d + 1))) % c ≡ (i + c - (d + 1)) % c
same-cell c h i d a b l = elim (dec_lt i h) [ yes m ↦ past m | no m ↦ within (omega arith) ]
  where
    past : i < h → (h + (distance c h i - (d + 1))) % c ≡ (i + c - (d + 1)) % c
    past m =
        let e = around c h i m a in
        ap (λ (n : ℕ). n % c) (omega arith)

    within : h ≤ i → (h + (distance c h i - (d + 1))) % c ≡ (i + c - (d + 1)) % c
    within m =
        let e = ahead c h i m b in
        let back : h + (distance c h i - (d + 1)) ≡ i - (d + 1) = omega arith in
        let more : i + c - (d + 1) ≡ i - (d + 1) + c = omega arith in
        ap (λ (n : ℕ). n % c) back ∙ sym (add-mod_right (i - (d + 1)) c) ∙ ap (λ (n : ℕ). n % c) (sym more)

-- the search has come to cell i; the g cells directly before it are filled, and the one before those is empty, unless they are all
pub record Filled (keys : List ℕ) (i g : ℕ) : Type 0 where
  pub search : Searching (length keys) (is_unreachable_key keys) i
  pub full : (d : ℕ) → d < g → d < length keys → eqb (back keys i d) 0 ≡ false
  pub ends : g < length keys → eqb (back keys i g) 0 ≡ true

-- the same, as the code tells it: c cells, and the filled ones start at s, told by a number c too large
pub record Since (keys : List ℕ) (c i s : ℕ) : Type 0 where
  pub size : c ≡ length keys
  pub low : s ≤ i + c
  pub filled : Filled keys i (i + c - s)

-- the filled cells at the end of the table are a search, and so no more than all
abbrev pub from_end : List ℕ → ℕ → Bool
from_end keys d = eqb (get_or keys (length keys - (d + 1)) 0) 0

pub from_end_lem : (keys : List ℕ) (c d : ℕ) {k : ℕ} → c ≡ length keys → k ≡ get_or keys (c - (d + 1)) 0 → from_end keys d ≡ eqb k 0
from_end_lem keys c d e is = sym (ap (λ (n : ℕ). eqb n 0) (is ∙ ap (λ (n : ℕ). get_or keys (n - (d + 1)) 0) e))

module _ (keys : List ℕ) (c g : ℕ) (size : c ≡ length keys) (e : g ≡ first_below (length keys) (from_end keys)) where
  pub filled_within : g ≤ c
  filled_within = omega (arith, (first_below_lem (length keys) (from_end keys)).high)

  pub since-start : Since keys c 0 (c - g)
  since-start = record { size = size; low = omega arith; filled = subst (Filled keys 0) turn start }
    where
      at : (d : ℕ) → d < length keys → eqb (back keys 0 d) 0 ≡ from_end keys d
      at d b =
          let n = length keys in
          ap (λ (m : ℕ). eqb (get_or keys m 0) 0) (ap (λ (m : ℕ). m % n) (omega arith) ∙ mod-eq_of_lt {n = n - (d + 1)} (omega arith))

      turn : g ≡ 0 + c - (c - g)
      turn = omega (arith, filled_within)

      start : Filled keys 0 g
      start =
          let f = first_below_lem (length keys) (from_end keys) in
          record {
            search = search-starts;
            full = λ d l b. at d b ∙ f.before d (omega arith) (omega arith);
            ends = λ b. at g b ∙ ap (from_end keys) e ∙ f.hit (omega arith);
          }

  -- all cells are filled, so that none is cut off
  pub all-filled : g ≡ c → c ≡ first_below (length keys) (is_unreachable_key keys)
  unfolding is_unreachable_key
  all-filled q = size ∙ search-ends (record { within = omega arith; before = λ j b. reached j b }) (omega arith)
    where
      n : ℕ
      n = length keys

      filled : (x : ℕ) → x < n → eqb (get_or keys x 0) 0 ≡ false
      filled x b =
          let turn : x ≡ n - (n - (x + 1) + 1) = omega arith in
          ap (λ (m : ℕ). eqb (get_or keys m 0) 0) turn ∙ (first_below_lem n (from_end keys)).before (n - (x + 1)) (omega arith) (omega arith)

      reached : (j : ℕ) → j < n → is_unreachable_key keys j ≡ false
      reached j b =
          let h = home_in n (get_or keys j 0) in
          rw (none-some-below (distance n h j) (λ d. eqb (get_or keys ((h + d) % n) 0) 0) (λ d l. filled ((h + d) % n) (mod-lt (h + d) (omega arith)))) (and-false (is_live_key (get_or keys j 0)))

-- a turn, at cell i
module _ {keys : List ℕ} {i g : ℕ} (f : Filled keys i g) (here : i < length keys) where
  -- an empty cell from h on is one that the filled cells do not reach back to
  empty-since : (h : ℕ) → h < length keys
      → some_below (distance (length keys) h i) (λ d. eqb (get_or keys ((h + d) % length keys) 0) 0) ≡ ltb g (distance (length keys) h i)
  empty-since h a = elim (dec_lt g D) [ yes l ↦ some l | no l ↦ none (omega arith) ]
    where
      c : ℕ
      c = length keys

      D : ℕ
      D = distance (length keys) h i

      test : ℕ → Bool
      test d = eqb (get_or keys ((h + d) % length keys) 0) 0

      short : D < c
      short = mod-lt (i + c - h) (omega arith)

      same : (d : ℕ) → d < D → test (D - (d + 1)) ≡ eqb (back keys i d) 0
      same d l = ap (λ (n : ℕ). eqb (get_or keys n 0) 0) (same-cell c h i d a here l)

      some : g < D → some_below D test ≡ ltb g D
      some l = some_below_lem D test (D - (g + 1)) (omega arith) (same g l ∙ f.ends (omega (arith, short))) ∙ sym (lt-ltb g D l)

      none : D ≤ g → some_below D test ≡ ltb g D
      none l =
          none-some-below D test (λ d b.
          let turn : d ≡ D - (D - (d + 1) + 1) = omega arith in
          ap test turn ∙ same (D - (d + 1)) (omega arith) ∙ f.full (D - (d + 1)) (omega arith) (omega (arith, short)))
          ∙ sym (le-ltb g D l)

  back-first : back keys (i + 1) 0 ≡ get_or keys i 0
  back-first =
      let c = length keys in
      let turn : i + 1 + c - (0 + 1) ≡ i + c = omega arith in
      ap (λ (n : ℕ). get_or keys n 0) (ap (λ (n : ℕ). n % c) turn ∙ add-mod_right i c ∙ mod-eq_of_lt here)

  -- an empty cell
  filled_none : get_or keys i 0 ≡ 0 → (n : ℕ) → n ≡ 0 → Filled keys (i + 1) n
  unfolding is_unreachable_key is_live_key
  filled_none z n q =
      record {
        search = search-goes-on f.search here (rw z);
        full = λ d l m. absurd (omega arith);
        ends = λ m. rw q (eq-eqb _ 0 (back-first ∙ z));
      }

  -- and one that is not
  module _ (size : size_allowed (length keys) ≡ true) where
    cut_off : is_unreachable_key keys i
        ≡ (is_live_key (get_or keys i 0) && ltb g (distance (length keys) (home_in (length keys) (get_or keys i 0)) i))
    unfolding is_unreachable_key
    cut_off =
        let k = get_or keys i 0 in
        ap (λ (z : Bool). is_live_key k && z) (empty-since (home_in (length keys) k) (home-inside (length keys) (true-T _ size) k))

    module _ {r : Bool} (is : r ≡ (is_live_key (get_or keys i 0) && ltb g (distance (length keys) (home_in (length keys) (get_or keys i 0)) i))) where
      filled-found : r ≡ true → i ≡ first_below (length keys) (is_unreachable_key keys)
      filled-found e = search-finds f.search (cut_off ∙ sym is ∙ e)

      back_more : (d : ℕ) → back keys (i + 1) (suc d) ≡ back keys i d
      back_more d =
          let turn : i + 1 + length keys - (suc d + 1) ≡ i + length keys - (d + 1) = omega arith in
          ap (λ (n : ℕ). get_or keys (n % length keys) 0) turn

      filled_more : r ≡ false → (get_or keys i 0 ≡ 0 → ⊥) → (n : ℕ) → n ≡ g + 1 → Filled keys (i + 1) n
      filled_more e z n q =
          record {
            search = search-goes-on f.search here (cut_off ∙ sym is ∙ e);
            full = full;
            ends = λ m. rw (q, add-one g, back_more g) (f.ends (omega arith));
          }
        where
          full : (d : ℕ) → d < n → d < length keys → eqb (back keys (i + 1) d) 0 ≡ false
          full zero l m = ne_eqb _ 0 (λ o. z (sym back-first ∙ o))
          full (suc d) l m = rw (back_more d) (f.full d (omega arith) (omega arith))

-- a turn, as the code tells it, at cell i of key k
module _ {keys : List ℕ} {c i s k : ℕ} (f : Since keys c i s) (here : i < c) (is : k ≡ get_or keys i 0) where
  inside : i < length keys
  inside = omega (arith, f.size)

  pub since_none : k ≡ 0 → (n : ℕ) → n ≡ i + c + 1 → Since keys c (i + 1) n
  since_none z n q = record { size = f.size; low = omega arith; filled = filled_none f.filled inside (sym is ∙ z) _ (omega arith) }

  module _ (allowed : size_allowed c ≡ true) {r : Bool} (cut : r ≡ (is_live_key k && ltb (i + c - s) (distance c (home_in c k) i))) where
    sized : size_allowed (length keys) ≡ true
    sized = sym (ap size_allowed f.size) ∙ allowed

    cut-there : r ≡ (is_live_key (get_or keys i 0) && ltb (i + c - s) (distance (length keys) (home_in (length keys) (get_or keys i 0)) i))
    cut-there =
        subst (λ (n : ℕ). r ≡ (is_live_key (get_or keys i 0) && ltb (i + c - s) (distance n (home_in n (get_or keys i 0)) i))) f.size
        (subst (λ (m : ℕ). r ≡ (is_live_key m && ltb (i + c - s) (distance c (home_in c m) i))) is cut)

    pub since-found : r ≡ true → i ≡ first_below (length keys) (is_unreachable_key keys)
    since-found e = filled-found f.filled inside sized cut-there e

    pub since-more : r ≡ false → (k ≡ 0 → ⊥) → (n : ℕ) → n ≡ s → Since keys c (i + 1) n
    since-more e z n q =
        let turn : i + 1 + c - n ≡ i + c - s + 1 = omega (arith, f.low) in
        record { size = f.size; low = omega (arith, f.low); filled = filled_more f.filled inside sized cut-there e (λ o. z (is ∙ o)) _ turn }

-- what an allowed size bounds
pub size_bound : (c : ℕ) → size_allowed c ≡ true → c ≤ 4096
size_bound c h = (allowed-bounds c (true-T _ h)).1

pub home_below : (c k : ℕ) → size_allowed c ≡ true → home_in c k < c
home_below c k h = home-inside c (true-T _ h) k

pub ruleset cutting = (size_bound, home_below, before-ahead, before-around)
