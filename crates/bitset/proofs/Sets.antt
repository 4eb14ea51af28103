-- Sets of places as numbers: what is in a set with one place more, its size, and the bits that say so.
-- Assumes nothing.
use mathlib.Core.Path.{◌≡◌, refl, sym, ap, ◌∙◌}
use Prim.Native.Nat.{ℕ, zero, suc, ◌+◌, ◌*◌, ◌/◌, ◌%◌, ◌^◌, ◌≤◌, ◌<◌}
use mathlib.Core.Bool.{Bool, true, false, cond, ◌||◌, or-true}
use native.Mathlib.Nat.{pow-suc, zero-div, mul_comm, one-mul, div-div-eq-div-mul}
use native.Mathlib.Omega.{arith}
use Rattle.std.proofs.Math.Pow.{pow_mono}
use Rattle.std.proofs.Math.Nat.{div-eq_of_lt}
use lib.Dec.{eqb, leb, eqb-suc-suc, lit≤}
use lib.Bits.{bit_and, bit_or, and_mask, or_step, or_zero_r}
use lib.Count.{ones, ones_step}
use lib.Pow.{pow_pos, shl_exact}
use borrow.Author.Tests.{eq-eqb, ne_eqb, eqb-true, eqb-false, lt-leb, le-leb}
use Rattle.semantics.specs.Sets.{is_in, including}

pub in-none : (i : ℕ) → is_in 0 i ≡ false
unfolding is_in
in-none i = rw zero-div (ne_eqb 0 1 (omega arith))

pub size_none : ones 0 ≡ 0
unfolding ones
size_none = refl

-- a place past the first is a place of the halved set
in-half : (s j : ℕ) → is_in s (suc j) ≡ is_in (s / 2) j
unfolding is_in
in-half s j = rw (pow-suc 2 j, mul_comm (2 ^ j) 2, ← div-div-eq-div-mul s 2 (2 ^ j))

-- the bit of a place that is not in the set
clear : (s i : ℕ) → is_in s i ≡ false → s / 2 ^ i % 2 ≡ 0
unfolding is_in
clear s i e = omega (arith, eqb-false (s / 2 ^ i % 2) 1 e)

-- a place that is not in the set, added: what is in it now, and its size
added : (s i j : ℕ) → is_in s i ≡ false → is_in (s + 2 ^ i) j ≡ (eqb i j || is_in s j)
unfolding is_in
added s zero zero e = eq-eqb ((s + 1) / 2 ^ 0 % 2) 1 (omega (arith, clear s 0 e))
added s zero (suc j) e =
    let same : (s + 2 ^ 0) / 2 ≡ s / 2 = omega (arith, clear s 0 e) in
    in-half (s + 2 ^ 0) j ∙ ap (λ t. is_in t j) same ∙ sym (in-half s j) ∙ rw (ne_eqb 0 (suc j) (λ q. omega arith))
added s (suc i) zero e =
    let same : (s + 2 ^ suc i) / 2 ^ 0 % 2 ≡ s / 2 ^ 0 % 2 = omega (arith, pow-suc 2 i) in
    ap (λ n. eqb n 1) same ∙ rw (ne_eqb (suc i) 0 (λ q. omega arith))
added s (suc i) (suc j) e =
    let half : (s + 2 ^ suc i) / 2 ≡ s / 2 + 2 ^ i = omega (arith, pow-suc 2 i) in
    in-half (s + 2 ^ suc i) j ∙ ap (λ t. is_in t j) half ∙ added (s / 2) i j (sym (in-half s i) ∙ e) ∙ rw (in-half s j, eqb-suc-suc i j)

added-size : (s i : ℕ) → is_in s i ≡ false → ones (s + 2 ^ i) ≡ suc (ones s)
added-size s zero e =
    let half : (s + 2 ^ 0) / 2 ≡ s / 2 = omega (arith, clear s 0 e) in
    omega (arith, ones_step (s + 2 ^ 0), ones_step s, ap ones half, clear s 0 e)
added-size s (suc i) e =
    let half : (s + 2 ^ suc i) / 2 ≡ s / 2 + 2 ^ i = omega (arith, pow-suc 2 i) in
    omega (arith, ones_step (s + 2 ^ suc i), ones_step s, ap ones half, added-size (s / 2) i (sym (in-half s i) ∙ e), pow-suc 2 i)

or-bit : (s i : ℕ) (z : Bool) → is_in s i ≡ z → bit_or s (2 ^ i) ≡ cond z s (s + 2 ^ i)
unfolding is_in
or-bit s zero true e = omega (arith, or_step s 1, or_zero_r (s / 2), eqb-true (s / 2 ^ 0 % 2) 1 e)
or-bit s zero false e = omega (arith, or_step s 1, or_zero_r (s / 2), clear s 0 e)
or-bit s (suc i) z e = step z (or-bit (s / 2) i z (sym (in-half s i) ∙ e))
  where
    half : 2 ^ suc i / 2 ≡ 2 ^ i
    half = omega (arith, pow-suc 2 i)

    step : (z : Bool) → bit_or (s / 2) (2 ^ i) ≡ cond z (s / 2) (s / 2 + 2 ^ i) → bit_or s (2 ^ suc i) ≡ cond z s (s + 2 ^ suc i)
    step true f = omega (arith, or_step s (2 ^ suc i), pow-suc 2 i, ap (bit_or (s / 2)) half)
    step false f = omega (arith, or_step s (2 ^ suc i), pow-suc 2 i, ap (bit_or (s / 2)) half)

module _ (s i : ℕ) (below : i < 64) where
  -- what `including` computes to at a place
  including-place : including s i ≡ cond (is_in s i) s (s + 2 ^ i)
  unfolding including
  including-place = go (is_in s i)
    where
      go : (z : Bool) → cond (z || leb 64 i) s (s + 2 ^ i) ≡ cond z s (s + 2 ^ i)
      go true = refl
      go false = rw (lt-leb 64 i below)

  pub in-including : (j : ℕ) → is_in (including s i) j ≡ (eqb i j || is_in s j)
  in-including j = rw including-place (go (is_in s i) refl)
    where
      go : (z : Bool) → is_in s i ≡ z → is_in (cond z s (s + 2 ^ i)) j ≡ (eqb i j || is_in s j)
      go false e = added s i j e
      go true e = there (eqb i j) refl
        where
          there : (y : Bool) → eqb i j ≡ y → is_in s j ≡ (y || is_in s j)
          there false q = refl
          there true q = ap (is_in s) (sym (eqb-true i j q)) ∙ e

  pub size-including : is_in s i ≡ false → ones (including s i) ≡ suc (ones s)
  size-including e = rw (including-place, e) (added-size s i e)

  -- `|` with the place's bit
  pub or-place : bit_or s (1 * 2 ^ i % 2 ^ 64) ≡ including s i
  or-place = rw (shl_exact 1 i 64 (lit≤ tt) (omega arith), one-mul (2 ^ i), including-place) (or-bit s i (is_in s i) refl)

-- `&` of the bits from a place on with 1
pub and-place : (s i : ℕ) → eqb (bit_and (s / 2 ^ i) 1) 1 ≡ is_in s i
unfolding is_in
and-place s i = ap (λ n. eqb n 1) (and_mask (s / 2 ^ i) 1)

-- nor is a number past 63 a place of any set
pub in-past : (s i : ℕ) → s < 2 ^ 64 → 64 ≤ i → is_in s i ≡ false
unfolding is_in
in-past s i small past =
    let none : s / 2 ^ i ≡ 0 = div-eq_of_lt (omega (arith, small, pow_mono past)) in
    ap (λ n. eqb (n % 2) 1) none

pub including-past : (s i : ℕ) → 64 ≤ i → including s i ≡ s
unfolding including
including-past s i b = rw (le-leb 64 i b, or-true)

-- a set is as it was exactly where the place that is added was in it
pub same-including : (s i : ℕ) → i < 64 → eqb (including s i) s ≡ is_in s i
unfolding including
same-including s i b = go (is_in s i) refl
  where
    go : (z : Bool) → is_in s i ≡ z → eqb (cond (is_in s i || leb 64 i) s (s + 2 ^ i)) s ≡ z
    go true e = rw e (eq-eqb s s refl)
    go false e = rw (e, lt-leb 64 i b) (ne_eqb (s + 2 ^ i) s (λ q. omega (arith, pow_pos i, q)))

-- what the code does to a place is what the definitions say of it
pub ruleset places = (and-place, in-past, or-place, including-past)
