-- Lists: an element after a store, maps, folds and tests.
-- Assumes nothing.
use mathlib.Core.Path.{◌≡◌, refl, ap, ap₂, ◌∙◌, subst}
use Prim.Native.Nat.{ℕ, zero, suc, ◌<◌}
use mathlib.Core.Bool.{Bool, true, false, cond, ◌||◌, or-true}
use mathlib.Core.List.{List, [], ◌∷◌, map, map-map, map-id}
use mathlib.Core.Option.{none, some}
use native.Mathlib.Nat.{not-suc-le-zero, le_of_suc-le-suc}
use native.Mathlib.Omega.{arith}
use borrow.Author.Tests.{eq-eqb}
use lib.Dec.{T, eqb}
use lib.ListN.{length, get_or, set, get_elem?}
use Rattle.semantics.specs.Basics.{all_of, any_of, count_of, occurs}
use Rattle.semantics.proofs.Booleans.{both}

pub none-some : {A : Type 0} {a : A} → none ≡ some a → ⊥
none-some e = let z : ◌≡◌ {A = ℕ} 0 1 = cc in omega arith

module _ {A : Type 0} where
  pub elem-set-same : (l : List A) (i : ℕ) {a : A} (b : A) → get_elem? l i ≡ some a → get_elem? (set l i b) i ≡ some b
  elem-set-same [] i b e = absurd (none-some e)
  elem-set-same (x ∷ l) zero b e = refl
  elem-set-same (x ∷ l) (suc i) b e = elem-set-same l i b e

  pub elem-set-other : (l : List A) (i j : ℕ) (b : A) → (j ≡ i → ⊥) → get_elem? (set l i b) j ≡ get_elem? l j
  elem-set-other [] i j b h = refl
  elem-set-other (x ∷ l) zero zero b h = absurd (h refl)
  elem-set-other (x ∷ l) zero (suc j) b h = refl
  elem-set-other (x ∷ l) (suc i) zero b h = refl
  elem-set-other (x ∷ l) (suc i) (suc j) b h = elem-set-other l i j b (λ e. h (ap suc e))

  pub elem-get_d : (l : List A) (i : ℕ) (d : A) {a : A} → get_elem? l i ≡ some a → (i < length l) × (get_or l i d ≡ a)
  elem-get_d [] i d e = absurd (none-some e)
  elem-get_d (x ∷ l) zero d {a} e = let q : x ≡ a = cc in (omega arith, q)
  elem-get_d (x ∷ l) (suc i) d e = let (h, q) = elem-get_d l i d e in (omega arith, q)

  pub elem_at : (l : List A) (i : ℕ) (d : A) → i < length l → get_elem? l i ≡ some (get_or l i d)
  elem_at [] i d h = absurd (not-suc-le-zero h)
  elem_at (x ∷ l) zero d h = refl
  elem_at (x ∷ l) (suc i) d h = elem_at l i d (le_of_suc-le-suc h)

  -- what holds of each element and of a stored one holds of each after the store
  pub elem-set-all : (P : A → Type 0) (l : List A) (i : ℕ) (b : A) → P b → ((j : ℕ) (x : A) → get_elem? l j ≡ some x → P x)
      → (j : ℕ) (x : A) → get_elem? (set l i b) j ≡ some x → P x
  elem-set-all P [] i b p h j x e = absurd (none-some e)
  elem-set-all P (y ∷ l) zero b p h zero x e = let q : b ≡ x = cc in subst P q p
  elem-set-all P (y ∷ l) zero b p h (suc j) x e = h (suc j) x e
  elem-set-all P (y ∷ l) (suc i) b p h zero x e = h 0 x e
  elem-set-all P (y ∷ l) (suc i) b p h (suc j) x e = elem-set-all P l i b p (λ n. h (suc n)) j x e

module _ {A B : Type 0} (f : A → B) where
  pub elem-map : (l : List A) (i : ℕ) {a : A} → get_elem? l i ≡ some a → get_elem? (map f l) i ≡ some (f a)
  elem-map [] i e = absurd (none-some e)
  elem-map (x ∷ l) zero {a} e = let h : x ≡ a = cc in ap (λ (y : A). some (f y)) h
  elem-map (x ∷ l) (suc i) e = elem-map l i e

  pub elem-map-all : (P : B → Type 0) (l : List A) → ((i : ℕ) (a : A) → get_elem? l i ≡ some a → P (f a)) → (i : ℕ) (b : B)
      → get_elem? (map f l) i ≡ some b → P b
  elem-map-all P [] h i b e = absurd (none-some e)
  elem-map-all P (x ∷ l) h zero b e = let q : f x ≡ b = cc in subst P q (h 0 x refl)
  elem-map-all P (x ∷ l) h (suc i) b e = elem-map-all P l (λ n. h (suc n)) i b e

  pub map-set : (l : List A) (i : ℕ) (a : A) → map f (set l i a) ≡ set (map f l) i (f a)
  map-set [] i a = refl
  map-set (x ∷ l) zero a = refl
  map-set (x ∷ l) (suc i) a = ap (λ (r : List B). f x ∷ r) (map-set l i a)

  pub map-set-elem : (l : List A) (i : ℕ) {a : A} (b : A) → get_elem? l i ≡ some a → f b ≡ f a → map f (set l i b) ≡ map f l
  map-set-elem [] i b e h = refl
  map-set-elem (x ∷ l) zero {a} b e h = let q : a ≡ x = cc in ap (λ (y : B). y ∷ map f l) (h ∙ ap f q)
  map-set-elem (x ∷ l) (suc i) b e h = ap (λ (r : List B). f x ∷ r) (map-set-elem l i b e h)

-- two maps of a list are equal where they are at each element
pub map_each : {A B : Type 0} (f g : A → B) (l : List A) (d : A) → ((i : ℕ) → i < length l → f (get_or l i d) ≡ g (get_or l i d)) → map f l ≡ map g l
map_each f g [] d h = refl
map_each f g (x ∷ l) d h = ap₂ ◌∷◌ (h 0 (omega arith)) (map_each f g l d (λ i b. h (suc i) (omega arith)))

-- a list comes back through two maps where each of its elements does
pub map_back : {A B : Type 0} (f : A → B) (g : B → A) (d : A) (xs : List A)
    → ((i : ℕ) → i < length xs → g (f (get_or xs i d)) ≡ get_or xs i d) → map g (map f xs) ≡ xs
map_back f g d xs h = map-map g f xs ∙ map_each (λ a. g (f a)) (λ a. a) xs d h ∙ map-id xs

-- what a list maps to depends on the function only at the numbers that occur in it
pub map_on : {B : Type 0} (f g : ℕ → B) (l : List ℕ) → ((i : ℕ) → 0 < occurs i l → f i ≡ g i) → map f l ≡ map g l
unfolding occurs count_of
map_on f g [] h = refl
map_on {B} f g (x ∷ l) h = ap₂ (λ (b : B) (r : List B). b ∷ r) (h x (rw (eq-eqb x x refl) (omega arith))) (map_on f g l (λ i p. h i (later i (eqb i x) p)))
  where
    later : (i : ℕ) (z : Bool) → 0 < occurs i l → 0 < cond z (suc (occurs i l)) (occurs i l)
    later i true p = omega arith
    later i false p = p

-- what holds of the default and of a stored element holds everywhere after the store, where it held everywhere before
pub set-everywhere : {A : Type 0} (P : A → Type 0) (d : A) (l : List A) (j : ℕ) (a : A) → P a → ((i : ℕ) → P (get_or l i d)) → (i : ℕ)
    → P (get_or (set l j a) i d)
set-everywhere P d [] j a p h i = h i
set-everywhere P d (x ∷ l) zero a p h zero = p
set-everywhere P d (x ∷ l) zero a p h (suc i) = h (suc i)
set-everywhere P d (x ∷ l) (suc j) a p h zero = h 0
set-everywhere P d (x ∷ l) (suc j) a p h (suc i) = set-everywhere P d l j a p (λ n. h (suc n)) i

-- an element passes a test that all pass, and one that passes makes some pass
pub all-at : {A : Type 0} (test : A → Bool) (l : List A) (i : ℕ) {a : A} → T (all_of test l) → get_elem? l i ≡ some a → T (test a)
unfolding all_of
all-at test [] i h e = absurd (none-some e)
all-at {A} test (x ∷ l) zero {a} h e = let q : x ≡ a = cc in subst (λ (y : A). T (test y)) q (both (test x) (all_of test l) h).0
all-at test (x ∷ l) (suc i) h e = all-at test l i (both (test x) (all_of test l) h).1 e

pub any_at : {A : Type 0} (test : A → Bool) (l : List A) (i : ℕ) {a : A} → get_elem? l i ≡ some a → test a ≡ true → any_of test l ≡ true
unfolding any_of
any_at test [] i e h = absurd (none-some e)
any_at {A} test (x ∷ l) zero {a} e h = let q : a ≡ x = cc in subst (λ (y : A). (test y || any_of test l) ≡ true) q (rw h)
any_at test (x ∷ l) (suc i) e h = rw (any_at test l i e h) (or-true (test x))
