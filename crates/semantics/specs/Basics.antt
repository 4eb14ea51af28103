-- Must be believed: what `run` and `report` promise rests on it.
-- What the definitions use and the document takes for granted: options, tests, counts and searches.
-- Assumes nothing.
use Rattle.std.specs.Prelude.{ℕ, zero, suc, Bool, true, false, cond, ◌&&◌, ◌||◌, List, [], ◌∷◌, eqb, ltb}
use Rattle.std.proofs.Math.Option.{Option, none, some}

unfoldable pub is_some : {A : Type 0} → Option A → Bool
is_some none = false
is_some (some a) = true

-- whether all elements pass a test, whether one does, and how many do
unfoldable pub all_of : {A : Type 0} → (A → Bool) → List A → Bool
all_of test [] = true
all_of test (a ∷ more) = test a && all_of test more

unfoldable pub any_of : {A : Type 0} → (A → Bool) → List A → Bool
any_of test [] = false
any_of test (a ∷ more) = test a || any_of test more

unfoldable pub count_of : {A : Type 0} → (A → Bool) → List A → ℕ
count_of test [] = 0
count_of test (a ∷ more) = cond (test a) (suc (count_of test more)) (count_of test more)

-- how often i stands in a list
unfoldable pub occurs : ℕ → List ℕ → ℕ
occurs i l = count_of (eqb i) l

-- the first index from i on that passes a test, looking at n of them; i + n where none does
unfoldable pub first_from : ℕ → ℕ → (ℕ → Bool) → ℕ
first_from zero i test = i
first_from (suc n) i test = elim (test i) [ true ↦ i | false ↦ first_from n (suc i) test ]

-- the first index below n that passes a test, else n; and whether there is one
unfoldable pub first_below : ℕ → (ℕ → Bool) → ℕ
first_below n test = first_from n 0 test

unfoldable pub some_below : ℕ → (ℕ → Bool) → Bool
some_below n test = ltb (first_below n test) n
