-- How many elements of a list pass a test: after a store, with one element more, and where all pass or one does not.
-- Assumes nothing.
use mathlib.Core.Path.{◌≡◌, refl}
use Prim.Native.Nat.{ℕ, zero, suc, ◌+◌, ◌≤◌, ◌<◌}
use mathlib.Core.Bool.{Bool, true, false, cond}
use mathlib.Core.List.{List, [], ◌∷◌, ◌++◌}
use native.Mathlib.Omega.{arith}
use native.Mathlib.Nat.{not-suc-le-zero, le_of_suc-le-suc}
use lib.ListN.{length, get_or, set}
use Rattle.semantics.specs.Basics.{count_of}

-- counting twice, in either order
pub cond-swap : (a b : Bool) (n : ℕ) → cond a (suc (cond b (suc n) n)) (cond b (suc n) n) ≡ cond b (suc (cond a (suc n) n)) (cond a (suc n) n)
cond-swap true true n = refl
cond-swap true false n = refl
cond-swap false true n = refl
cond-swap false false n = refl

-- a count of none says that the test fails
pub none-false : (z : Bool) → ◌≡◌ {A = ℕ} (cond z 1 0) 0 → z ≡ false
none-false true e = absurd (omega arith)
none-false false e = refl

one_more : (z : Bool) (n : ℕ) → cond z (suc n) n ≡ n + cond z 1 0
one_more true n = omega arith
one_more false n = omega arith

module _ {A : Type 0} (test : A → Bool) where
  count-cons : (a : A) (l : List A) → count_of test (a ∷ l) ≡ count_of test l + cond (test a) 1 0
  unfolding count_of
  count-cons a l = one_more (test a) (count_of test l)

  pub count-snoc : (l : List A) (a : A) → count_of test (l ++ (a ∷ [])) ≡ cond (test a) (suc (count_of test l)) (count_of test l)
  unfolding count_of
  count-snoc [] a = refl
  count-snoc (x ∷ l) a = rw (count-snoc l a) (cond-swap (test x) (test a) (count_of test l))

  -- a store puts one element for another
  pub count_set : (l : List A) (i : ℕ) (a d : A) → i < length l → count_of test (set l i a) + cond (test (get_or l i d)) 1 0 ≡ count_of test l + cond (test a) 1 0
  count_set [] i a d h = absurd (not-suc-le-zero h)
  count_set (x ∷ l) zero a d h = omega (arith, count-cons a l, count-cons x l)
  count_set (x ∷ l) (suc i) a d h = omega (arith, count-cons x (set l i a), count-cons x l, count_set l i a d (le_of_suc-le-suc h))

  pub count-le : (l : List A) → count_of test l ≤ length l
  unfolding count_of
  count-le [] = omega arith
  count-le (x ∷ l) = go (test x) (count-le l)
    where
      go : (z : Bool) → count_of test l ≤ length l → cond z (suc (count_of test l)) (count_of test l) ≤ suc (length l)
      go true h = omega arith
      go false h = omega arith

  -- where all pass, all are counted; where one does not, not all are
  pub count-full : (l : List A) (d : A) → ((i : ℕ) → i < length l → test (get_or l i d) ≡ true) → count_of test l ≡ length l
  unfolding count_of
  count-full [] d h = refl
  count-full (x ∷ l) d h = rw (h 0 (omega arith), count-full l d (λ i b. h (suc i) (omega arith)))

  pub count-below : (l : List A) (i : ℕ) (d : A) → i < length l → test (get_or l i d) ≡ false → count_of test l < length l
  unfolding count_of
  count-below [] i d h e = absurd (not-suc-le-zero h)
  count-below (x ∷ l) zero d h e = rw e (omega (arith, count-le l))
  count-below (x ∷ l) (suc i) d h e = go (test x) (count-below l i d (le_of_suc-le-suc h) e)
    where
      go : (z : Bool) → count_of test l < length l → cond z (suc (count_of test l)) (count_of test l) < suc (length l)
      go true b = omega arith
      go false b = omega arith

  pub count-each : (l : List A) → count_of test l ≡ length l → (i : ℕ) (d : A) → i < length l → test (get_or l i d) ≡ true
  count-each l e i d h = go (test (get_or l i d)) refl
    where
      go : (z : Bool) → test (get_or l i d) ≡ z → z ≡ true
      go true q = refl
      go false q = absurd (omega (arith, count-below l i d h q))
