-- Powers of two, told by the ones and the trailing zeros of a number, and as numbers of cells.
-- Assumes nothing.
use mathlib.Core.Path.{◌≡◌, refl, sym, ap, subst, ◌∙◌}
use mathlib.Core.Bool.{true, false, not-eq-not}
use Prim.Native.Nat.{ℕ, zero, suc, ◌+◌, ◌-◌, ◌*◌, ◌/◌, ◌%◌, ◌^◌, ◌<◌, zero-le}
use native.Mathlib.Nat.{zero-add, add-zero, add-suc, suc-add, mul_comm, mul-div_cancel, mul-div-mul_right, pow-suc}
use native.Mathlib.Omega.{arith}
use lib.Dec.{T, ltb, leb-suc-suc}
use lib.Pow.{pow-add, pow_pos, pow-lt}
use lib.Count.{ones, count_trailing_zeros, under, ones_step, ones_cat, ones-le}
use borrow.Author.Tests.{eq-eqb, ne_eqb, lt-ltb, le-ltb}
use Rattle.semantics.specs.Words.{is_power_from, size_allowed, hash_of, home_in, scaled_home}
use Rattle.semantics.proofs.Booleans.{true-T}
use Rattle.semantics.proofs.Sizes.{allowed-power}

-- a power has one bit set
pub ones-pow : (t : ℕ) → ones (2 ^ t) ≡ 1
unfolding ones
ones-pow t = let e : 1 * 2 ^ t + 0 ≡ 2 ^ t = omega arith in rw e at (ones_cat t 1 0 (pow_pos t))

-- a number of w bits with none set is 0
no-bit : (w n : ℕ) → n < 2 ^ w → ones n ≡ 0 → n ≡ 0
no-bit zero n h e = omega arith
no-bit (suc w) n h e =
    let half : n / 2 ≡ 0 = no-bit w (n / 2) (omega (arith, pow-suc 2 w)) (omega (arith, ones_step n)) in
    omega (arith, ones_step n)

-- a number of w bits with one set is the power that its trailing zeros say
pub one_bit : (w n : ℕ) → n < 2 ^ w → ones n ≡ 1 → n ≡ 2 ^ count_trailing_zeros w n
unfolding count_trailing_zeros
one_bit zero n h e = omega (arith, ones-le 0 n h)
one_bit (suc w) n h e = go (one_bit w (n / 2) (omega (arith, pow-suc 2 w))) (n % 2) refl
  where
    go : (ones (n / 2) ≡ 1 → n / 2 ≡ 2 ^ count_trailing_zeros w (n / 2)) → (d : ℕ) → n % 2 ≡ d → n ≡ 2 ^ under d (count_trailing_zeros w (n / 2))
    go rest zero q = omega (arith, rest (omega (arith, ones_step n)), pow-suc 2 (count_trailing_zeros w (n / 2)))
    go rest (suc d) q = omega (arith, no-bit w (n / 2) (omega (arith, pow-suc 2 w)) (omega (arith, ones_step n)))

-- of the powers from 2 ^ k on, the first n pass
at-power : (k n d : ℕ) → is_power_from k n (2 ^ (k + d)) ≡ ltb d n
unfolding is_power_from
at-power k zero d = sym (le-ltb d 0 zero-le)
at-power k (suc n) zero = rw (add-zero k, eq-eqb (2 ^ k) (2 ^ k) refl) (sym (lt-ltb 0 (suc n) (omega arith)))
at-power k (suc n) (suc d) =
    let above : 2 ^ k < 2 ^ (k + suc d) = pow-lt (omega arith) in
    rw (ne_eqb (2 ^ (k + suc d)) (2 ^ k) (λ q. omega arith), add-suc k d, ← suc-add k d, at-power (suc k) n d, leb-suc-suc (suc d) n)

pub power-allowed : (t : ℕ) → size_allowed (2 ^ t) ≡ ltb t 13
unfolding size_allowed
power-allowed t = ap (λ n. is_power_from 0 13 (2 ^ n)) (sym (zero-add t)) ∙ at-power 0 13 t

-- a number is an allowed size by its one bit and the zeros below it: the same as the search reads it
pub allowed-by_zeros : (c : ℕ) → c < 2 ^ 64 → ones c ≡ 1 → size_allowed c ≡ ltb (count_trailing_zeros 64 c) 13
allowed-by_zeros c small one = ap size_allowed (one_bit 64 c small one) ∙ power-allowed (count_trailing_zeros 64 c)

pub allowed-one_bit : (c : ℕ) → (ones c ≡ 1 → ⊥) → size_allowed c ≡ false
allowed-one_bit c more = not-eq-not.0 (λ e. more (let p = allowed-power _ (true-T _ e) in ap ones p.is ∙ ones-pow _))

pub ruleset sizes = (allowed-by_zeros, allowed-one_bit)

-- sixteen bits scaled to 2 ^ j are shared out over as many cells
scaled : (j r x : ℕ) → j + r ≡ 16 → x * 2 ^ j / 65536 ≡ x / (65536 / 2 ^ j)
scaled j r x e =
    let whole : 65536 ≡ 2 ^ r * 2 ^ j = ap (λ n. 2 ^ n) (sym e) ∙ pow-add 2 j r ∙ mul_comm (2 ^ j) (2 ^ r) in
    let part : 65536 / 2 ^ j ≡ 2 ^ r = ap (λ n. n / 2 ^ j) whole ∙ mul-div_cancel (2 ^ r) (pow_pos j) in
    ap (λ n. x * 2 ^ j / n) whole ∙ mul-div-mul_right x (2 ^ r) (pow_pos j) ∙ ap (λ n. x / n) (sym part)

pub home-is : (c k : ℕ) → T (size_allowed c) → scaled_home c k ≡ home_in c k
unfolding home_in scaled_home
home-is c k h =
    let p = allowed-power c h in
    let x = hash_of k in
    subst (λ n. x * n / 65536 ≡ x / (65536 / n)) (sym p.is) (scaled p.exponent (16 - p.exponent) x (omega (arith, p.low, p.high)))

pub scaled-home : (c k : ℕ) → size_allowed c ≡ true → scaled_home c k ≡ home_in c k
scaled-home c k h = home-is c k (true-T _ h)

pub ruleset homes = (scaled-home)
