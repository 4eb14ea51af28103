-- The narrow width packs.
-- Assumes nothing.
use mathlib.Core.Path.{◌≡◌, refl, ap, ap₂, sym, subst, ◌∙◌}
use Prim.Native.Nat.{ℕ, ◌+◌, ◌*◌, ◌≤◌, min}
use mathlib.Core.Bool.{Bool, cond, not, ◌||◌, ◌&&◌}
use native.Mathlib.Omega.{arith}
use lib.Dec.{T, eqb, leb, eqb→eq, leb→le}
use Rattle.semantics.specs.declared.Total.{Total}
use Rattle.semantics.specs.Totals.{held_at, plus_at, caps, caps_at}
use Rattle.semantics.specs.Cells.{Cell, empty, tombstone, live}
use Rattle.semantics.specs.Words.{is_live_key, is_kind, takes_amount, encode}
use Rattle.semantics.specs.Narrow.{narrow, narrow_ceiling, is_narrow_total, key_of, total_bits, tombstone_word, cell_allowed, narrow_width, room_sum}
use Rattle.semantics.specs.Narrow.{kind_bits, bits_above_kind, operation_key, amount_bits, operation_allowed}
use Rattle.semantics.proofs.Booleans.{compared, same_test, beq-refl, beq-sound, absorbs, join, both, either, passed}
use Rattle.semantics.proofs.Words.{Packs, Packing}

-- a narrow total is that of its amount
pub total-small : (t : Total) → T (is_narrow_total t) → t.amount ≤ narrow_ceiling
unfolding is_narrow_total
total-small t h = leb→le t.amount narrow_ceiling (both (leb t.amount narrow_ceiling) _ h).0

total-plain : (t : Total) → T (is_narrow_total t) → narrow t.amount ≡ t
unfolding is_narrow_total narrow
total-plain t h =
    let e = beq-sound t.saturated (eqb t.amount narrow_ceiling) (both (leb t.amount narrow_ceiling) _ h).1 in
    λ i. record { amount = t.amount; saturated = sym e i }

narrow-total : (n : ℕ) → n ≤ narrow_ceiling → T (is_narrow_total (narrow n))
unfolding is_narrow_total narrow
narrow-total n b = join (leb n narrow_ceiling) _ (omega compared) (beq-refl (eqb n narrow_ceiling))

-- a narrow total is added as its number is
narrow-reached : (a b : ℕ) → (eqb a narrow_ceiling || eqb b narrow_ceiling || leb narrow_ceiling (a + b)) ≡ eqb (min (a + b) narrow_ceiling) narrow_ceiling
narrow-reached a b =
    absorbs (eqb a narrow_ceiling || eqb b narrow_ceiling) (leb narrow_ceiling (a + b))
    (λ t. either (eqb a narrow_ceiling) (eqb b narrow_ceiling) t (omega compared) (omega compared))
    ∙ same_test _ _ (omega compared) (omega compared)

pub narrow-plus : (a b : ℕ) → plus_at narrow_ceiling (narrow a) (narrow b) ≡ narrow (min (a + b) narrow_ceiling)
unfolding plus_at held_at narrow
narrow-plus a b = let f = narrow-reached a b in λ i. record { amount = min (a + b) narrow_ceiling; saturated = f i }

-- the C++ caller's sum in plain numbers: held, and 65,536 more where the first total is true and the whole sum is not below the ceiling
pub room-sum : (a b : ℕ) → let sum = min (a + b) narrow_ceiling in
    room_sum a b ≡ cond (not (eqb a narrow_ceiling) && leb narrow_ceiling (a + b)) (sum + 65536) sum
unfolding room_sum caps_at caps narrow
room-sum a b =
    ap₂ (λ (t : Total) (z : Bool). cond (not (eqb a narrow_ceiling) && z) (t.amount + 65536) t.amount) (narrow-plus a b)
    (ap (λ (t : Total). t.saturated) (narrow-plus a b) ∙ same_test _ _ (omega compared) (omega compared))

plus-total : (t u : Total) → T (is_narrow_total t) → T (is_narrow_total u) → T (is_narrow_total (plus_at narrow_ceiling t u))
plus-total t u p q =
    subst (λ v. T (is_narrow_total v))
    (sym (ap₂ (plus_at narrow_ceiling) (sym (total-plain t p)) (sym (total-plain u q)) ∙ narrow-plus t.amount u.amount))
    (narrow-total (min (t.amount + u.amount) narrow_ceiling) (omega arith))

word_cell : (w : ℕ) → T (cell_allowed w) → (x : Cell Total) × Packs narrow_width x × (encode narrow_width x ≡ w)
unfolding cell_allowed encode tombstone_word narrow
word_cell w h =
    either (is_live_key (key_of w) || eqb w 0) (eqb w tombstone_word) h
    (λ u. either (is_live_key (key_of w)) (eqb w 0) u
    (λ l. (live (key_of w) (narrow (total_bits w)), record { is_live = l; is-total = narrow-total (total_bits w) (omega arith) }, omega arith))
    (λ z. (empty, tt, sym (eqb→eq w 0 z))))
    (λ z. (tombstone, tt, sym (eqb→eq w tombstone_word z)))

cell-allowed : (x : Cell Total) → Packs narrow_width x → T (cell_allowed (encode narrow_width x))
unfolding cell_allowed encode tombstone_word is_live_key
cell-allowed empty p = tt
cell-allowed tombstone p = tt
cell-allowed (live k t) p =
    let b = total-small t p.is-total in
    let e : key_of (k * 65536 + t.amount) ≡ k = omega arith in
    rw (e, passed (is_live_key k) p.is_live) tt

operation-fields : (w : ℕ) → T (operation_allowed w) → (bits_above_kind w ≡ 0) × T (is_kind (kind_bits w)) × T (is_live_key (operation_key w))
unfolding operation_allowed
operation-fields w h =
    let bits = eqb (bits_above_kind w) 0 in
    let kind = is_kind (kind_bits w) in
    let key = is_live_key (operation_key w) in
    let (a, u) = both (bits && kind && key) (takes_amount (kind_bits w) || eqb (amount_bits w) 0) h in
    let (b, l) = both (bits && kind) key a in
    let (z, k) = both bits kind b in
    (eqb→eq (bits_above_kind w) 0 z, k, l)

-- an amount taken out of a word is the total that went in
amount-in : {n : ℕ} (t : Total) → T (is_narrow_total t) → n ≡ t.amount → narrow n ≡ t
amount-in t h e = ap narrow e ∙ total-plain t h

pub narrow-packing : Packing narrow_width
unfolding narrow is_narrow_total
narrow-packing =
    record {
      nothing-total = tt;
      plus-total = plus-total;
      empty-key = refl;
      empty-word = refl;
      key_back = λ k t b h. omega (arith, total-small t h);
      total-back = λ k t b h. amount-in t h (omega (arith, total-small t h));
      word_cell = word_cell;
      cell-allowed = cell-allowed;
      kind-back = λ n k t a b h. omega (arith, total-small t h);
      operation-key-back = λ n k t a b h. omega (arith, total-small t h);
      amount-back = λ n k t a b h. amount-in t h (omega (arith, total-small t h));
      operation-back = λ w h. omega (arith, (operation-fields w h).0);
      operation-parts = λ w h. let (z, k, l) = operation-fields w h in (k, l, narrow-total (amount_bits w) (omega arith));
      code-back = λ n t h. omega (arith, total-small t h);
      answer_back = λ n t h. amount-in t h (omega (arith, total-small t h));
    }
