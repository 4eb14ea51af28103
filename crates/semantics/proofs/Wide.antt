-- The wide width packs.
-- Assumes nothing.
use mathlib.Core.Path.{◌≡◌, refl, ap, sym, subst, ◌∙◌}
use Prim.Native.Nat.{ℕ, ◌+◌, ◌*◌, ◌/◌, ◌%◌, ◌^◌, ◌≤◌, ◌<◌, min}
use mathlib.Core.Bool.{Bool, true, false, cond, not, ◌||◌, ◌&&◌}
use native.Mathlib.Nat.{div-div-eq-div-mul}
use native.Mathlib.Decide.{ℕ_discrete}
use native.Mathlib.Omega.{arith}
use lib.Dec.{T, eqb, leb, eqb→eq, leb→le}
use borrow.Author.Tests.{eqb-false, leb-false}
use Rattle.semantics.specs.declared.Total.{Total}
use Rattle.semantics.specs.Totals.{held_at, plus_at}
use Rattle.semantics.specs.Cells.{Cell, empty, tombstone, live}
use Rattle.semantics.specs.Words.{is_live_key, tombstone_key, is_kind, takes_amount, nothing, encode}
use Rattle.semantics.specs.Wide.{wide_ceiling, flagged_bits, flagged_in, is_wide_total, is_nothing, wide_key_of, stray_bits, wide_cell_word, wide_cell_allowed, wide_width}
use Rattle.semantics.specs.Wide.{wide_operation_key, wide_kind_bits, wide_bits_above_kind, wide_operation_word, wide_operation_allowed}
use Rattle.semantics.proofs.Booleans.{compared, true-T, join, both, either, left}
use Rattle.semantics.proofs.Words.{live-bounds, live-key, Packs, Packing}

total-small : (t : Total) → T (is_wide_total t) → t.amount ≤ wide_ceiling
unfolding is_wide_total
total-small t h = go t.saturated h
  where
    go : (s : Bool) → T (cond s (leb t.amount wide_ceiling) (leb t.amount 4294967294)) → t.amount ≤ wide_ceiling
    go true h = omega compared
    go false h = omega compared

-- a flag and thirty-two bits come back out of a word, whatever lies above them
module _ (above : ℕ) (t : Total) (b : t.amount ≤ wide_ceiling) where
  abbrev word : ℕ
  word = above * 2 ^ 33 + flagged_bits t

  flagged_back : flagged_in word ≡ t
  flagged_back = go t.saturated
    where
      go : (s : Bool) → flagged_in (above * 2 ^ 33 + (cond s (2 ^ 32) 0 + t.amount)) ≡ record { amount = t.amount; saturated = s }
      go true =
          let w : ℕ = above * 2 ^ 33 + (2 ^ 32 + t.amount) in
          let a : w % 2 ^ 32 ≡ t.amount = omega arith in
          let half : w / 2 ^ 32 ≡ above * 2 + 1 = omega arith in
          let odd : (above * 2 + 1) % 2 ≡ 1 = omega arith in
          let f = ap (λ (n : ℕ). eqb (n % 2) 1) half ∙ ap (λ (n : ℕ). eqb n 1) odd in
          λ i. record { amount = a i; saturated = f i }
      go false =
          let w : ℕ = above * 2 ^ 33 + (0 + t.amount) in
          let a : w % 2 ^ 32 ≡ t.amount = omega arith in
          let half : w / 2 ^ 32 ≡ above * 2 = omega arith in
          let even : above * 2 % 2 ≡ 0 = omega arith in
          let f = ap (λ (n : ℕ). eqb (n % 2) 1) half ∙ ap (λ (n : ℕ). eqb n 1) even in
          λ i. record { amount = a i; saturated = f i }

  flagged-small : flagged_bits t < 2 ^ 33
  flagged-small = go t.saturated
    where
      go : (s : Bool) → cond s (2 ^ 32) 0 + t.amount < 2 ^ 33
      go true = omega arith
      go false = omega arith

-- and a word is what lies above with the flag and the total
flagged-word : (w : ℕ) → w / 2 ^ 33 * 2 ^ 33 + flagged_bits (flagged_in w) ≡ w
flagged-word w = go (eqb (w / 2 ^ 32 % 2) 1) refl
  where
    go : (s : Bool) → eqb (w / 2 ^ 32 % 2) 1 ≡ s → w / 2 ^ 33 * 2 ^ 33 + (cond s (2 ^ 32) 0 + w % 2 ^ 32) ≡ w
    go true e = let f = eqb→eq (w / 2 ^ 32 % 2) 1 (true-T _ e) in omega arith
    go false e = let f = eqb-false (w / 2 ^ 32 % 2) 1 e in omega arith

plus-total : (t u : Total) → T (is_wide_total t) → T (is_wide_total u) → T (is_wide_total (plus_at wide_ceiling t u))
unfolding is_wide_total plus_at held_at
plus-total t u p q = go (t.saturated || u.saturated) (leb wide_ceiling (t.amount + u.amount)) refl
  where
    go : (f r : Bool) → leb wide_ceiling (t.amount + u.amount) ≡ r
        → T (cond (f || r) (leb (min (t.amount + u.amount) wide_ceiling) wide_ceiling) (leb (min (t.amount + u.amount) wide_ceiling) 4294967294))
    go true r e = omega compared
    go false true e = omega compared
    go false false e = let l = leb-false wide_ceiling (t.amount + u.amount) e in omega compared

nothing_is : (t : Total) → T (is_nothing t) → t ≡ nothing
unfolding is_nothing
nothing_is t h = go t.saturated refl h
  where
    go : (s : Bool) → t.saturated ≡ s → T (not s && eqb t.amount 0) → t ≡ nothing
    go true e h = absurd h
    go false e h = let a = eqb→eq t.amount 0 h in λ i. record { amount = a i; saturated = e i }

-- the parts of an allowed cell
record Allowed (w : ℕ) : Type 0 where
  stray : stray_bits w ≡ 0
  total : T (is_wide_total (flagged_in w))
  key : wide_key_of w ≤ tombstone_key
  held : T (is_live_key (wide_key_of w) || is_nothing (flagged_in w))

allowed-parts : (w : ℕ) → T (wide_cell_allowed w) → Allowed w
unfolding wide_cell_allowed
allowed-parts w h =
    let stray = eqb (stray_bits w) 0 in
    let total = is_wide_total (flagged_in w) in
    let key = leb (wide_key_of w) 65535 in
    let held = is_live_key (wide_key_of w) || is_nothing (flagged_in w) in
    let (a, l) = both (stray && total && key) held h in
    let (b, k) = both (stray && total) key a in
    let (s, t) = both stray total b in
    record { stray = eqb→eq (stray_bits w) 0 s; total = t; key = leb→le (wide_key_of w) 65535 k; held = l }

-- a word without stray bits is that of its key and total
cell-back : (w : ℕ) → stray_bits w ≡ 0 → wide_cell_word (wide_key_of w) (flagged_in w) ≡ w
cell-back w z = let e = flagged-word w in omega arith

-- the fields of a cell's word and of an operation's, of keys and totals that are allowed
module _ (k : ℕ) (t : Total) (b : k ≤ tombstone_key) (h : T (is_wide_total t)) where
  key_back : wide_key_of (wide_cell_word k t) ≡ k
  key_back = omega (arith, flagged-small 0 t (total-small t h))

  stray-back : stray_bits (wide_cell_word k t) ≡ 0
  stray-back = omega (arith, flagged-small 0 t (total-small t h))

  total-back : flagged_in (wide_cell_word k t) ≡ t
  total-back =
      let e : wide_cell_word k t ≡ k * 2 ^ 15 * 2 ^ 33 + flagged_bits t = omega arith in
      ap flagged_in e ∙ flagged_back (k * 2 ^ 15) t (total-small t h)

  word-allowed : T (is_live_key k || is_nothing t) → T (wide_cell_allowed (wide_cell_word k t))
  unfolding wide_cell_allowed
  word-allowed l = rw (stray-back, key_back, total-back) (join (is_wide_total t && leb k 65535) _ (join (is_wide_total t) (leb k 65535) h (omega compared)) l)

word_cell : (w : ℕ) → T (wide_cell_allowed w) → (x : Cell Total) × Packs wide_width x × (encode wide_width x ≡ w)
unfolding encode is_wide_total
word_cell w h =
    let a = allowed-parts w h in
    let back = cell-back w a.stray in
    either (is_live_key (wide_key_of w)) (is_nothing (flagged_in w)) a.held
    (λ l. (live (wide_key_of w) (flagged_in w), record { is_live = l; is-total = a.total }, back))
    (λ z. dead a.key (subst (λ t. wide_cell_word (wide_key_of w) t ≡ w) (nothing_is (flagged_in w) z) back))
  where
    -- a key with total 0 is that of an empty cell, of a tombstone, or live
    dead : wide_key_of w ≤ tombstone_key → wide_cell_word (wide_key_of w) nothing ≡ w → (x : Cell Total) × Packs wide_width x × (encode wide_width x ≡ w)
    dead b e =
        elim (ℕ_discrete (wide_key_of w) 0) [
          | yes z ↦ (empty, tt, omega arith)
          | no n ↦ elim (ℕ_discrete (wide_key_of w) tombstone_key) [
            | yes z ↦ (tombstone, tt, subst (λ k. wide_cell_word k nothing ≡ w) z e)
            | no m ↦ (live (wide_key_of w) nothing, record { is_live = live-key (wide_key_of w) (omega arith) (omega arith); is-total = tt }, e)
          ]
        ]

cell-allowed : (x : Cell Total) → Packs wide_width x → T (wide_cell_allowed (encode wide_width x))
unfolding encode wide_cell_allowed is_wide_total is_nothing is_live_key
cell-allowed empty p = tt
cell-allowed tombstone p = tt
cell-allowed (live k t) p =
    word-allowed k t (omega (arith, live-bounds k p.is_live)) p.is-total (left (is_live_key k) (is_nothing t) p.is_live)

operation-fields : (w : ℕ) → T (wide_operation_allowed w)
    → (wide_bits_above_kind w ≡ 0) × T (is_kind (wide_kind_bits w)) × T (is_live_key (wide_operation_key w)) × T (is_wide_total (flagged_in w))
unfolding wide_operation_allowed
operation-fields w h =
    let bits = eqb (wide_bits_above_kind w) 0 in
    let kind = is_kind (wide_kind_bits w) in
    let key = is_live_key (wide_operation_key w) in
    let total = is_wide_total (flagged_in w) in
    let (a, u) = both (bits && kind && key && total) (takes_amount (wide_kind_bits w) || is_nothing (flagged_in w)) h in
    let (b, t) = both (bits && kind && key) total a in
    let (c, l) = both (bits && kind) key b in
    let (z, k) = both bits kind c in
    (eqb→eq (wide_bits_above_kind w) 0 z, k, l, t)

-- kind and key lie side by side above the total
operation-back : (w : ℕ) → wide_bits_above_kind w ≡ 0 → wide_operation_word (wide_kind_bits w) (wide_operation_key w) (flagged_in w) ≡ w
operation-back w z =
    let x : ℕ = w / 2 ^ 33 in
    let kind : w / 2 ^ 49 ≡ x / 2 ^ 16 = sym (div-div-eq-div-mul w (2 ^ 33) (2 ^ 16)) in
    let above : x / 2 ^ 24 ≡ w / 2 ^ 57 = div-div-eq-div-mul w (2 ^ 33) (2 ^ 24) in
    ap (λ (n : ℕ). wide_operation_word (n % 256) (x % 2 ^ 16) (flagged_in w)) kind
    ∙ joined (x / 2 ^ 16 % 256) (x % 2 ^ 16) x (flagged_bits (flagged_in w)) (parted x (above ∙ z)) (flagged-word w)
  where
    parted : (x : ℕ) → x / 2 ^ 24 ≡ 0 → x / 2 ^ 16 % 256 * 2 ^ 16 + x % 2 ^ 16 ≡ x
    parted x z = omega arith

    joined : (n k x t : ℕ) → n * 2 ^ 16 + k ≡ x → x * 2 ^ 33 + t ≡ w → n * 2 ^ 49 + k * 2 ^ 33 + t ≡ w
    joined n k x t e f = omega arith

pub wide-packing : Packing wide_width
unfolding is_wide_total
wide-packing =
    record {
      nothing-total = tt;
      plus-total = plus-total;
      empty-key = refl;
      empty-word = refl;
      key_back = key_back;
      total-back = total-back;
      word_cell = word_cell;
      cell-allowed = cell-allowed;
      kind-back = λ n k t a b h. omega (arith, flagged-small 0 t (total-small t h));
      operation-key-back = λ n k t a b h. omega (arith, flagged-small 0 t (total-small t h));
      amount-back = λ n k t a b h.
          let e : n * 2 ^ 49 + k * 2 ^ 33 + flagged_bits t ≡ (n * 2 ^ 16 + k) * 2 ^ 33 + flagged_bits t = omega arith in
          ap flagged_in e ∙ flagged_back (n * 2 ^ 16 + k) t (total-small t h);
      operation-back = λ w h. operation-back w (operation-fields w h).0;
      operation-parts = λ w h. let (z, k, l, t) = operation-fields w h in (k, l, t);
      code-back = λ n t h. omega (arith, flagged-small 0 t (total-small t h));
      answer_back = λ n t h. flagged_back n t (total-small t h);
    }
