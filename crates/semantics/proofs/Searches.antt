-- Searches: what "the first index that passes a test" gives, and what a loop that searches keeps.
-- Assumes nothing.
use mathlib.Core.Path.{◌≡◌, refl, sym, subst, ◌∙◌}
use Prim.Native.Nat.{ℕ, zero, suc, ◌+◌, ◌≤◌, ◌<◌}
use mathlib.Core.Bool.{Bool, true, false, ◌||◌, true≢false}
use native.Mathlib.Nat.{zero-add}
use native.Mathlib.Decide.{ℕ_discrete, dec_lt}
use native.Mathlib.Omega.{arith}
use borrow.Author.Tests.{ltb-true, ltb-false}
use Rattle.semantics.specs.Basics.{first_below, first_from, some_below}

-- what a search of the indices from one on and below another gives: r is the first that passes the test, or the end
pub record Searched (from end : ℕ) (test : ℕ → Bool) (r : ℕ) : Type 0 where
  pub low : from ≤ r
  pub high : r ≤ end
  pub before : (j : ℕ) → from ≤ j → j < r → test j ≡ false
  pub hit : r < end → test r ≡ true

searched : (n i : ℕ) (test : ℕ → Bool) → Searched i (i + n) test (first_from n i test)
unfolding first_from
searched zero i test = record { low = omega arith; high = omega arith; before = λ j a b. absurd (omega arith); hit = λ b. absurd (omega arith) }
searched (suc n) i test = go (test i) refl (searched n (suc i) test)
  where
    go : (b : Bool) → test i ≡ b → Searched (suc i) (suc i + n) test (first_from n (suc i) test)
        → Searched i (i + suc n) test (elim b [ true ↦ i | false ↦ first_from n (suc i) test ])
    go true e s = record { low = omega arith; high = omega arith; before = λ j a b. absurd (omega arith); hit = λ b. e }
    go false e s =
        record {
          low = omega arith;
          high = omega arith;
          before = λ j a b. elim (ℕ_discrete j i) [ yes q ↦ rw q e | no q ↦ s.before j (omega arith) b ];
          hit = λ b. s.hit (omega arith);
        }

module _ (n : ℕ) (test : ℕ → Bool) where
  pub first_below_lem : Searched 0 n test (first_below n test)
  unfolding first_below
  first_below_lem = subst (λ m. Searched 0 m test (first_from n 0 test)) (zero-add n) (searched n 0 test)

  -- no index passes where none is found, and one is found where one passes
  pub none_below : some_below n test ≡ false → (i : ℕ) → i < n → test i ≡ false
  unfolding some_below
  none_below e i b = first_below_lem.before i (omega arith) (omega (arith, ltb-false (first_below n test) n e))

  pub some_below_lem : (i : ℕ) → i < n → test i ≡ true → some_below n test ≡ true
  some_below_lem i b e = go (some_below n test) refl
    where
      go : (z : Bool) → some_below n test ≡ z → z ≡ true
      go true f = refl
      go false f = let g = none_below f i b in cc

  found_below : some_below n test ≡ true → test (first_below n test) ≡ true
  unfolding some_below
  found_below e = first_below_lem.hit (ltb-true (first_below n test) n e)

  pub none-some-below : ((i : ℕ) → i < n → test i ≡ false) → some_below n test ≡ false
  unfolding some_below
  none-some-below h = go (some_below n test) refl
    where
      go : (z : Bool) → some_below n test ≡ z → z ≡ false
      go false e = refl
      go true e = let b = ltb-true (first_below n test) n e in sym (first_below_lem.hit b) ∙ h (first_below n test) b

-- one index more
pub some_more : (n : ℕ) (test : ℕ → Bool) → some_below (suc n) test ≡ (some_below n test || test n)
some_more n test = go (some_below n test) refl (test n) refl
  where
    go : (y : Bool) → some_below n test ≡ y → (z : Bool) → test n ≡ z → some_below (suc n) test ≡ (y || z)
    go true e z f =
        some_below_lem (suc n) test (first_below n test) (omega (arith, (first_below_lem n test).high)) (found_below n test e)
    go false e true f = some_below_lem (suc n) test n (omega arith) f
    go false e false f =
        none-some-below (suc n) test (λ i b. elim (ℕ_discrete i n) [ yes q ↦ rw q f | no q ↦ none_below n test e i (omega arith) ])

-- a loop that searches has come to i: no index before i passes. It starts at 0, goes on where the test fails, and its answer is the first
-- index that passes, or the end
pub record Searching (n : ℕ) (test : ℕ → Bool) (i : ℕ) : Type 0 where
  pub within : i ≤ n
  pub before : (j : ℕ) → j < i → test j ≡ false

module _ {n : ℕ} {test : ℕ → Bool} where
  pub search-starts : Searching n test 0
  search-starts = record { within = omega arith; before = λ j b. absurd (omega arith) }

  module _ {i : ℕ} (s : Searching n test i) where
    pub search-goes-on : i < n → test i ≡ false → Searching n test (i + 1)
    search-goes-on b e =
        record { within = omega arith; before = λ j l. elim (ℕ_discrete j i) [ yes q ↦ rw q e | no q ↦ s.before j (omega arith) ] }

    first-is : (i < n → test i ≡ true) → i ≡ first_below n test
    first-is e =
        let f = first_below_lem n test in
        elim (dec_lt i (first_below n test)) [
          | yes l ↦ absurd (true≢false (sym (e (omega arith)) ∙ f.before i (omega arith) l))
          | no l ↦ elim (dec_lt (first_below n test) i) [
            | yes m ↦ absurd (true≢false (sym (f.hit (omega arith)) ∙ s.before (first_below n test) m))
            | no m ↦ omega arith
          ]
        ]

    pub search-finds : test i ≡ true → i ≡ first_below n test
    search-finds e = first-is (λ b. e)

    pub search-ends : n ≤ i → i ≡ first_below n test
    search-ends h = first-is (λ b. absurd (omega arith))
