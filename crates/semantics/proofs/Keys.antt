-- Refusals 7 and 8 of the cells of any width are tests on their keys.
-- Assumes nothing.
use mathlib.Core.Path.{◌≡◌, refl, sym, ap, ◌∙◌}
use Prim.Native.Nat.{ℕ, ◌+◌, ◌-◌, ◌%◌}
use mathlib.Core.Bool.{Bool, true, false, cond, not, ◌&&◌, true≢false}
use mathlib.Core.List.{List, [], ◌∷◌, map}
use mathlib.Core.Option.{none, some}
use lib.Dec.{eqb}
use lib.ListN.{length, get_or, length-map, get_or-map}
use borrow.Author.Tests.{eqb-true, ne_eqb}
use Rattle.semantics.specs.declared.Total.{Total}
use Rattle.semantics.specs.Basics.{is_some, some_below}
use Rattle.semantics.specs.Cells.{Setting, Cell, empty, tombstone, live, keyed, is_empty}
use Rattle.semantics.specs.Step.{place_of}
use Rattle.semantics.specs.Words.{Width, size_allowed, is_live_key, home_in, cell_from, decode, setting_of}
use Rattle.semantics.specs.Refusals.{Call, at_first, stands_lower, is_repeated, is_cut_off, is_unreachable, size_not_allowed, repeated_key, unreachable_key, table_conditions}
use Rattle.semantics.specs.Keys.{is_repeated_key, is_unreachable_key}
use Rattle.semantics.specs.Lent.{lent_table}
use Rattle.semantics.proofs.Booleans.{compared, same_test}
use Rattle.semantics.proofs.Words.{decoded-at}

-- the cell of a key and a total is that of its key: whether it has key k, and whether it is empty
keyed-key : (k j : ℕ) (t : Total) → is_live_key k ≡ true → is_some (keyed k (cell_from j t)) ≡ eqb j k
unfolding cell_from keyed is_some
keyed-key k j t l = go (is_live_key j) refl (eqb j 0)
  where
    has : (z : Bool) → is_some (cond z (some t) none) ≡ z
    has true = refl
    has false = refl

    go : (z : Bool) → is_live_key j ≡ z → (y : Bool) → is_some (keyed k (cond z (live j t) (cond y empty tombstone))) ≡ eqb j k
    go true e y = has (eqb k j) ∙ same_test (eqb k j) (eqb j k) (omega compared) (omega compared)
    go false e true = sym (ne_eqb j k (λ q. true≢false (sym l ∙ sym (ap is_live_key q) ∙ e)))
    go false e false = sym (ne_eqb j k (λ q. true≢false (sym l ∙ sym (ap is_live_key q) ∙ e)))

empty-key : (j : ℕ) (t : Total) → is_empty (cell_from j t) ≡ eqb j 0
unfolding cell_from is_empty is_live_key
empty-key j t = go (is_live_key j) refl (eqb j 0) refl
  where
    go : (z : Bool) → is_live_key j ≡ z → (y : Bool) → eqb j 0 ≡ y → is_empty (cond z (live j t) (cond y empty tombstone)) ≡ y
    go true e true f = absurd (true≢false (sym e ∙ ap is_live_key (eqb-true j 0 f)))
    go true e false f = refl
    go false e true f = refl
    go false e false f = refl

module _ (W : Width) (z : W.key_of 0 ≡ 0) (words : List ℕ) where
  abbrev cells : List (Cell Total)
  cells = map (decode W) words

  abbrev keys : List ℕ
  keys = map W.key_of words

  key-at : (i : ℕ) → get_or keys i 0 ≡ W.key_of (get_or words i 0)
  key-at i = ap (get_or keys i) (sym z) ∙ get_or-map W.key_of words i 0

  -- a test of a cell that is one of its key
  cell_at : {A : Type 0} (test : Cell Total → A) (by : ℕ → A) → ((j : ℕ) (t : Total) → test (cell_from j t) ≡ by j) → (i : ℕ)
      → test (get_or cells i empty) ≡ by (get_or keys i 0)
  unfolding decode
  cell_at test by h i = ap test (decoded-at W z words i) ∙ h (W.key_of (get_or words i 0)) (W.total_in (get_or words i 0)) ∙ ap by (sym (key-at i))

  -- what is false of a dead key, and of a live one is a test, is the test of a live key
  by_key : (test : Cell Total → Bool) (by : ℕ → Bool) → test empty ≡ false → test tombstone ≡ false
      → ((k : ℕ) (t : Total) → is_live_key k ≡ true → test (live k t) ≡ by k) → (k : ℕ) (t : Total) → test (cell_from k t) ≡ (is_live_key k && by k)
  unfolding cell_from
  by_key test by e f h k t = go (is_live_key k) refl (eqb k 0)
    where
      go : (z : Bool) → is_live_key k ≡ z → (y : Bool) → test (cond z (live k t) (cond y empty tombstone)) ≡ (z && by k)
      go true l y = h k t l
      go false l true = e
      go false l false = f

  pub repeated-key : (i : ℕ) → is_repeated cells i ≡ is_repeated_key keys i
  unfolding is_repeated stands_lower is_repeated_key
  repeated-key i =
      cell_at (stands_lower cells i) (λ k. is_live_key k && some_below i (λ j. eqb (get_or keys j 0) k))
      (by_key (stands_lower cells i) (λ k. some_below i (λ j. eqb (get_or keys j 0) k)) refl refl
      (λ k t l n. some_below i (λ j. cell_at (λ x. is_some (keyed k x)) (λ q. eqb q k) (λ q u. keyed-key k q u l) j n)))
      i

  pub unreachable-key : (i : ℕ) → is_unreachable (setting_of W (length words)) cells i ≡ is_unreachable_key keys i
  unfolding is_unreachable is_cut_off is_unreachable_key place_of
  unreachable-key i =
      cell_at (is_cut_off S cells i) (λ k. is_live_key k && far (length words) k)
      (by_key (is_cut_off S cells i) (far (length words)) refl refl
      (λ k t l n. some_below ((i + length words - home_in (length words) k) % length words)
      (λ d. cell_at is_empty (λ q. eqb q 0) empty-key ((home_in (length words) k + d) % length words) n)))
      i
      ∙ ap (λ (c : ℕ). is_live_key (get_or keys i 0) && far c (get_or keys i 0)) (sym (length-map words W.key_of))
    where
      S : Setting
      S = setting_of W (length words)

      far : ℕ → ℕ → Bool
      far c k = some_below ((i + c - home_in c k) % c) (λ d. eqb (get_or keys ((home_in c k + d) % c) 0) 0)

-- so the conditions on the whole table are those on its keys
pub keys-table : (W : Width) → W.key_of 0 ≡ 0 → (call : Call) → lent_table (map W.key_of call.cells) ≡ size_not_allowed call ∷ table_conditions W call
unfolding size_not_allowed repeated_key unreachable_key
keys-table W z call = λ j.
    let c = length-map call.cells W.key_of j in
    record { number = 1; met = not (size_allowed c); place = 0 }
    ∷ at_first 7 c (λ i. sym (repeated-key W z call.cells i) j)
    ∷ at_first 8 c (λ i. sym (unreachable-key W z call.cells i) j)
    ∷ []
