-- The setting of an allowed table is lawful, whatever its ceiling: the home of a key in a table of 2^0 to 2^16 cells.
-- Assumes nothing.
use mathlib.Core.Path.{◌≡◌, ap, sym, subst, ◌∙◌}
use Prim.Native.Nat.{ℕ, zero, suc, ◌+◌, ◌-◌, ◌*◌, ◌/◌, ◌^◌, ◌≤◌, ◌<◌}
use native.Mathlib.Nat.{mul-div_cancel_left}
use native.Mathlib.Omega.{arith}
use lib.Dec.{T, eqb, eqb→eq}
use lib.Pow.{pow-add, pow_pos, pow_mono, shr_lt}
use Rattle.semantics.specs.Words.{is_power_from, size_allowed, home_in, setting_at}
use Rattle.semantics.proofs.Laws.{Lawful}
use Rattle.semantics.proofs.Booleans.{either}
use Rattle.semantics.proofs.Totals.{same-total-sound, plus_comm, plus_assoc, sum-none, sum_more}

-- one of n powers of two, 2^k the lowest, and its exponent
pub record Power (k n c : ℕ) : Type 0 where
  pub exponent : ℕ
  pub low : k ≤ exponent
  pub high : exponent < k + n
  pub is : c ≡ 2 ^ exponent

pub power : (k n c : ℕ) → T (is_power_from k n c) → Power k n c
unfolding is_power_from
power k zero c h = absurd h
power k (suc n) c h =
    either (eqb c (2 ^ k)) (is_power_from (suc k) n c) h
    (λ t. record { exponent = k; low = omega arith; high = omega arith; is = eqb→eq c (2 ^ k) t })
    (λ t. let p = power (suc k) n c t in record { exponent = p.exponent; low = omega arith; high = omega arith; is = p.is })

-- sixteen bits shared out over 2 ^ j cells
share-below : (j r x : ℕ) → j + r ≡ 16 → x < 65536 → x / (65536 / 2 ^ j) < 2 ^ j
share-below j r x e h =
    let whole : 65536 ≡ 2 ^ j * 2 ^ r = ap (λ n. 2 ^ n) (sym e) ∙ pow-add 2 j r in
    let part : 65536 / 2 ^ j ≡ 2 ^ r = ap (λ n. n / 2 ^ j) whole ∙ mul-div_cancel_left (2 ^ r) (pow_pos j) in
    rw part (shr_lt j r (subst (λ n. x < 2 ^ n) (sym e) h))

home_below : (j r k : ℕ) → j + r ≡ 16 → home_in (2 ^ j) k < 2 ^ j
unfolding home_in
home_below j r k e = share-below j r _ e (omega arith)

power-lawful : (ceiling : ℕ) {k n c : ℕ} → Power k n c → k + n ≤ 17 → Lawful (setting_at ceiling c)
power-lawful ceiling p most =
    record {
      same-sound = same-total-sound;
      plus_comm = plus_comm ceiling;
      plus_assoc = plus_assoc ceiling;
      sum-none = sum-none ceiling;
      sum_more = sum_more ceiling;
      home_below = λ k. subst (λ n. home_in n k < n) (sym p.is) (home_below p.exponent (16 - p.exponent) k (omega (arith, p.high)));
    }

-- an allowed size is 2^0 to 2^12
pub allowed-power : (c : ℕ) → T (size_allowed c) → Power 0 13 c
unfolding size_allowed
allowed-power c = power 0 13 c

pub allowed-lawful : (ceiling c : ℕ) → T (size_allowed c) → Lawful (setting_at ceiling c)
allowed-lawful ceiling c h = power-lawful ceiling (allowed-power c h) (omega arith)

-- whatever the ceiling, a home is a cell
pub home-inside : (c : ℕ) → T (size_allowed c) → (k : ℕ) → home_in c k < c
home-inside c h = (allowed-lawful 0 c h).home_below

pub allowed-bounds : (c : ℕ) → T (size_allowed c) → (1 ≤ c) × (c ≤ 4096)
allowed-bounds c h =
    let p = allowed-power c h in
    subst (λ n. (1 ≤ n) × (n ≤ 4096)) (sym p.is) (pow_mono p.low, pow_mono {j = 12} (omega (arith, p.high)))
