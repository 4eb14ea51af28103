-- What a word's fields say of it: the bits of a wide total that is allowed, a wide cell, an operation of either width.
-- Assumes nothing.
use mathlib.Core.Path.{◌≡◌, refl, sym, ap, subst, ◌∙◌}
use Prim.Native.Nat.{ℕ, ◌*◌, ◌/◌, ◌%◌, ◌^◌, ◌<◌, ◌≤◌}
use mathlib.Core.Bool.{Bool, true, false, cond, not, beq, and-true, and-false, or-true, ◌&&◌, ◌||◌}
use native.Mathlib.Decide.{ℕ_discrete, dec_lt}
use native.Mathlib.Omega.{arith}
use lib.Dec.{eqb, leb, ltb}
use lib.Pow.{field, mod-mod-pow}
use borrow.Author.Tests.{eqb-true, eq-eqb, ne_eqb, lt-ltb, le-ltb, le-leb, lt-leb}
use Rattle.semantics.specs.declared.Total.{Total}
use Rattle.semantics.specs.Words.{Width, is_live_key, is_kind, takes_amount}
use Rattle.semantics.specs.Wide.{wide_ceiling, flagged_in, is_wide_total, is_nothing, wide_key_of, stray_bits, wide_cell_allowed}
use Rattle.semantics.specs.Wide.{wide_bits_above_kind, wide_kind_bits, wide_operation_key, wide_operation_allowed}
use Rattle.semantics.specs.Narrow.{narrow, is_narrow_total, bits_above_kind, kind_bits, operation_key, operation_allowed}
use Rattle.semantics.specs.Widths.{width_of}

-- no more than a total and its flag, and a total that is allowed
abbrev pub flagged_total : ℕ → Bool
flagged_total bits = eqb (bits / 2 ^ 33) 0 && is_wide_total (flagged_in bits)

-- without the flag any amount but the largest is a total, and with it any of thirty-two bits
pub plain-total : (bits : ℕ) → bits < 4294967295 → flagged_total bits ≡ true
unfolding is_wide_total
plain-total bits l =
    rw (eq-eqb (bits / 2 ^ 33) 0 (omega arith), ne_eqb (bits / 2 ^ 32 % 2) 1 (λ e. omega arith), le-leb (bits % 2 ^ 32) 4294967294 (omega arith))

pub plain-ceiling : (bits : ℕ) → 4294967295 ≤ bits → bits < 4294967296 → flagged_total bits ≡ false
unfolding is_wide_total
plain-ceiling bits l u =
    rw (ne_eqb (bits / 2 ^ 32 % 2) 1 (λ e. omega arith), lt-leb (bits % 2 ^ 32) 4294967294 (omega arith), and-false)

pub flagged-total : (bits : ℕ) → 4294967296 ≤ bits → flagged_total bits ≡ ltb bits 8589934592
unfolding is_wide_total
flagged-total bits l = elim (dec_lt bits 8589934592) [
  | yes u ↦ rw (
    eq-eqb (bits / 2 ^ 33) 0 (omega arith),
    eq-eqb (bits / 2 ^ 32 % 2) 1 (omega arith),
    le-leb (bits % 2 ^ 32) wide_ceiling (omega arith),
    lt-ltb bits 8589934592 u,
  )
  | no u ↦ rw (ne_eqb (bits / 2 ^ 33) 0 (λ e. omega arith), le-ltb bits 8589934592 (omega arith))
]

-- the lowest thirty-three bits of a word are its total and flag, and where these are nothing they are 0
lowest : (w : ℕ) → flagged_in w ≡ flagged_in (w % 2 ^ 33)
lowest w =
    let flag : w / 2 ^ 32 % 2 ≡ w % 2 ^ 33 / 2 ^ 32 % 2 = omega (arith, field w 1 32) in
    λ i. record { amount = sym (mod-mod-pow w 1 32) i; saturated = eqb (flag i) 1 }

nothing-in : (w : ℕ) → is_nothing (flagged_in w) ≡ eqb (w % 2 ^ 33) 0
unfolding is_nothing
nothing-in w = elim (ℕ_discrete (w / 2 ^ 32 % 2) 1) [
  | yes f ↦ rw (eq-eqb (w / 2 ^ 32 % 2) 1 f, ne_eqb (w % 2 ^ 33) 0 (λ e. omega arith))
  | no f ↦ let e : w % 2 ^ 32 ≡ w % 2 ^ 33 = omega arith in rw (ne_eqb (w / 2 ^ 32 % 2) 1 f) (ap (λ (n : ℕ). eqb n 0) e)
]

-- a live key, or the tombstone
abbrev pub live_or_tombstone : ℕ → Bool
live_or_tombstone w = is_live_key (wide_key_of w) || eqb w (65535 * 2 ^ 48)

-- a key lies above all else in its cell, so the words of the live ones lie between those of 0 and the tombstone
live-word : (w : ℕ) → 281474976710655 < w → w < 18446462598732840960 → is_live_key (wide_key_of w) ≡ true
unfolding is_live_key
live-word w l u = rw (lt-ltb 0 (wide_key_of w) (omega arith), lt-ltb (wide_key_of w) 65535 (omega arith))

pub key_above : (w : ℕ) → 281474976710655 < w → live_or_tombstone w ≡ leb w 18446462598732840960
unfolding is_live_key
key_above w l = elim (dec_lt w 18446462598732840960) [
  | yes u ↦ rw (live-word w l u, le-leb w 18446462598732840960 (omega arith))
  | no u ↦ elim (ℕ_discrete w 18446462598732840960) [
    | yes q ↦ rw (eq-eqb w 18446462598732840960 q, le-leb w 18446462598732840960 (omega arith), or-true)
    | no q ↦ rw (
      lt-ltb 0 (wide_key_of w) (omega arith),
      le-ltb (wide_key_of w) 65535 (omega arith),
      ne_eqb w 18446462598732840960 q,
      lt-leb w 18446462598732840960 (omega arith),
    )
  ]
]

pub key-of-empty : (w : ℕ) → w ≤ 281474976710655 → live_or_tombstone w ≡ false
unfolding is_live_key
key-of-empty w l = rw (le-ltb 0 (wide_key_of w) (omega arith), ne_eqb w 18446462598732840960 (λ q. omega arith))

-- a cell by what is below its key, which has sixteen bits
cell-judged : {w low : ℕ} → w < 2 ^ 64 → low ≡ w % 2 ^ 48
    → (flagged_total low && (is_live_key (wide_key_of w) || is_nothing (flagged_in low))) ≡ wide_cell_allowed w
unfolding wide_cell_allowed
cell-judged {w} {low} b l =
    let stray : low / 2 ^ 33 ≡ stray_bits w = ap (λ (n : ℕ). n / 2 ^ 33) l ∙ field w 15 33 in
    let same : low % 2 ^ 33 ≡ w % 2 ^ 33 = ap (λ (n : ℕ). n % 2 ^ 33) l ∙ mod-mod-pow w 15 33 in
    let total : flagged_in low ≡ flagged_in w = lowest low ∙ ap flagged_in same ∙ sym (lowest w) in
    rw (le-leb (wide_key_of w) 65535 (omega arith), and-true)
    (λ i. eqb (stray i) 0 && is_wide_total (total i) && (is_live_key (wide_key_of w) || is_nothing (total i)))

-- with a live key any total is allowed, and without one only 0
live-cell : {w low : ℕ} → w < 2 ^ 64 → low ≡ w % 2 ^ 48 → is_live_key (wide_key_of w) ≡ true → flagged_total low ≡ wide_cell_allowed w
live-cell {w} {low} b l e =
    sym (and-true (flagged_total low)) ∙ (λ i. flagged_total low && (sym e i || is_nothing (flagged_in low))) ∙ cell-judged b l

other-cell : {w low : ℕ} → w < 2 ^ 64 → low ≡ w % 2 ^ 48 → is_live_key (wide_key_of w) ≡ false → eqb low 0 ≡ wide_cell_allowed w
other-cell {w} {low} b l e = zero ∙ (λ i. flagged_total low && (sym e i || is_nothing (flagged_in low))) ∙ cell-judged b l
  where
    zero : eqb low 0 ≡ (flagged_total low && is_nothing (flagged_in low))
    zero = elim (dec_lt low 4294967295) [
      | yes u ↦ let same : low ≡ low % 2 ^ 33 = omega arith in rw (plain-total low u, nothing-in low) (ap (λ (n : ℕ). eqb n 0) same)
      | no u ↦ elim (dec_lt low 8589934592) [
        | yes v ↦ rw (ne_eqb low 0 (λ q. omega arith), nothing-in low, ne_eqb (low % 2 ^ 33) 0 (λ q. omega arith), and-false)
        | no v ↦ rw (ne_eqb low 0 (λ q. omega arith), flagged-total low (omega arith), le-ltb low 8589934592 (omega arith))
      ]
    ]

-- so with one or in the tombstone the total decides, and of all other words only the empty one is allowed
pub total-decides : {w low : ℕ} → w < 2 ^ 64 → low ≡ w % 2 ^ 48 → live_or_tombstone w ≡ true → flagged_total low ≡ wide_cell_allowed w
total-decides {w} {low} b l e = go (is_live_key (wide_key_of w)) refl
  where
    go : (z : Bool) → is_live_key (wide_key_of w) ≡ z → flagged_total low ≡ wide_cell_allowed w
    go true z = live-cell b l z
    go false z =
        let tombstone : w ≡ 18446462598732840960 = eqb-true w 18446462598732840960 (ap (λ (k : Bool). k || eqb w (65535 * 2 ^ 48)) (sym z) ∙ e) in
        plain-total low (omega arith) ∙ sym (eq-eqb low 0 (omega arith)) ∙ other-cell b l z

pub empty-decides : {w : ℕ} → w < 2 ^ 64 → live_or_tombstone w ≡ false → eqb w 0 ≡ wide_cell_allowed w
empty-decides {w} b e = go (is_live_key (wide_key_of w)) refl
  where
    go : (z : Bool) → is_live_key (wide_key_of w) ≡ z → eqb w 0 ≡ wide_cell_allowed w
    go true z = let clash : true ≡ false = ap (λ (k : Bool). k || eqb w (65535 * 2 ^ 48)) (sym z) ∙ e in cc
    go false z = elim (dec_lt 281474976710655 w) [
      | yes l ↦ elim (dec_lt 18446462598732840960 w) [
        | yes u ↦ ne_eqb w 0 (λ q. omega arith) ∙ sym (ne_eqb (w % 2 ^ 48) 0 (λ q. omega arith)) ∙ other-cell b refl z
        | no u ↦ let clash : true ≡ false = sym (key_above w l ∙ le-leb w 18446462598732840960 (omega arith)) ∙ e in cc
      ]
      | no l ↦ let same : w ≡ w % 2 ^ 48 = omega arith in ap (λ (n : ℕ). eqb n 0) same ∙ other-cell b refl z
    ]

-- an amount of 0, as two totals are compared
abbrev pub no_amount : Total → Bool
no_amount t = eqb t.amount 0 && beq t.saturated false

in-turn : (total above rest : Bool) → (total && (above && rest)) ≡ (above && total && rest)
in-turn true above rest = rw (and-true above) refl
in-turn false above rest = rw (and-false above) refl

no-wide-amount : (t : Total) → no_amount t ≡ is_nothing t
unfolding is_nothing
no-wide-amount t = go t.saturated (eqb t.amount 0)
  where
    go : (s z : Bool) → (z && beq s false) ≡ (not s && z)
    go true z = and-false z
    go false z = and-true z

narrow-amount : (n : ℕ) → n < 65536 → (is_narrow_total (narrow n) ≡ true) × (no_amount (narrow n) ≡ eqb n 0)
unfolding is_narrow_total narrow
narrow-amount n l = elim (ℕ_discrete n 65535) [
  | yes q ↦ rw (le-leb n 65535 (omega arith), eq-eqb n 65535 q, ne_eqb n 0 (λ z. omega arith)) (refl, refl)
  | no q ↦ rw (le-leb n 65535 (omega arith), ne_eqb n 65535 q) (refl, and-true (eqb n 0))
]

-- an operation by its amount and its other fields
pub row-judged : {W : Width} (flagged : Bool) (w : ℕ) {above kind key : ℕ} {amount : Total} {total nothing : Bool} → W ≡ width_of flagged
    → amount ≡ W.amount_in w → total ≡ W.is_total amount → above ≡ cond flagged (wide_bits_above_kind w) (bits_above_kind w)
    → kind ≡ W.kind_bits w → key ≡ W.operation_key w → nothing ≡ no_amount amount
    → (total && (eqb above 0 && is_kind kind && is_live_key key && (takes_amount kind || nothing))) ≡ W.operation_allowed w
unfolding wide_operation_allowed operation_allowed
row-judged {W} flagged w law amount total above kind key nothing =
    (λ i. total i && (eqb (above i) 0 && is_kind (kind i) && is_live_key (key i) && (takes_amount (kind i) || nothing i)))
    ∙ (λ i. judged W flagged w (amount i)) ∙ subst (λ V. judged V flagged w (V.amount_in w) ≡ V.operation_allowed w) (sym law) (by_width flagged w)
  where
    judged : Width → Bool → ℕ → Total → Bool
    judged V flagged w t =
        V.is_total t
        && (eqb (cond flagged (wide_bits_above_kind w) (bits_above_kind w)) 0 && is_kind (V.kind_bits w) && is_live_key (V.operation_key w)
        && (takes_amount (V.kind_bits w) || no_amount t))

    by_width : (flagged : Bool) (w : ℕ) → let V = width_of flagged in judged V flagged w (V.amount_in w) ≡ V.operation_allowed w
    by_width true w =
        let above = eqb (wide_bits_above_kind w) 0 && is_kind (wide_kind_bits w) && is_live_key (wide_operation_key w) in
        in-turn (is_wide_total (flagged_in w)) above (takes_amount (wide_kind_bits w) || no_amount (flagged_in w))
        ∙ ap (λ (z : Bool). above && is_wide_total (flagged_in w) && (takes_amount (wide_kind_bits w) || z)) (no-wide-amount (flagged_in w))
    by_width false w =
        let (total, none) = narrow-amount (w % 65536) (omega arith) in
        λ i. total i && (eqb (bits_above_kind w) 0 && is_kind (kind_bits w) && is_live_key (operation_key w) && (takes_amount (kind_bits w) || none i))

-- what decides the tests of a total, of a key and of the words without one
pub ruleset totals = (plain-total, plain-ceiling, flagged-total)

pub ruleset keys_above = (key_above, key-of-empty)

pub ruleset other_words = (empty-decides)
