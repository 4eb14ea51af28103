-- A fold whose steps commute depends only on how often each number occurs; and the numbers below n, each once.
-- Assumes nothing.
use mathlib.Core.Path.{◌≡◌, refl, ap, sym, ◌∙◌}
use Prim.Native.Nat.{ℕ, zero, suc, ◌<◌}
use mathlib.Core.Bool.{Bool, true, false, cond}
use mathlib.Core.List.{List, [], ◌∷◌, map, foldl, foldl-map}
use mathlib.Core.Option.{Option, some}
use native.Mathlib.Omega.{arith}
use native.Mathlib.Nat.{suc_inj}
use borrow.Author.Tests.{eqb-true, eq-eqb}
use lib.Dec.{eqb, eqb-suc-suc, eqb-zero-suc, eqb-suc-zero}
use lib.ListN.{length, get_elem?}
use Rattle.semantics.specs.Basics.{is_some, occurs, count_of}
use Rattle.semantics.proofs.Counts.{cond-swap}

-- a list without the first x in it
unfoldable without : ℕ → List ℕ → List ℕ
without x [] = []
without x (y ∷ l) = cond (eqb x y) l (y ∷ without x l)

occurs-head : (x : ℕ) (l : List ℕ) → occurs x (x ∷ l) ≡ suc (occurs x l)
unfolding occurs count_of
occurs-head x l = rw (eq-eqb x x refl)

occurs-without : (x : ℕ) (l : List ℕ) → 0 < occurs x l → (i : ℕ) → occurs i l ≡ occurs i (x ∷ without x l)
unfolding occurs count_of without
occurs-without x [] h i = absurd (omega arith)
occurs-without x (y ∷ l) h i = go (eqb x y) refl (λ p. occurs-without x l p i)
  where
    go : (z : Bool) → eqb x y ≡ z → (0 < occurs x l → occurs i l ≡ cond (eqb i x) (suc (occurs i (without x l))) (occurs i (without x l)))
        → occurs i (y ∷ l) ≡ occurs i (x ∷ cond z l (y ∷ without x l))
    go true e ih = rw (eqb-true x y e)
    go false e ih =
        let p : 0 < occurs x l = rw e at h in
        rw (ih p) (cond-swap (eqb i y) (eqb i x) (occurs i (without x l)))

-- only the empty list has nothing occurring in it
none-occurs : (l : List ℕ) → ((i : ℕ) → occurs i l ≡ 0) → l ≡ []
none-occurs [] h = refl
none-occurs (x ∷ l) h = let e : suc (occurs x l) ≡ 0 = sym (occurs-head x l) ∙ h x in absurd (omega arith)

module _ {B : Type 0} (f : B → ℕ → B) (commute : (b : B) (i j : ℕ) → f (f b i) j ≡ f (f b j) i) where
  fold-without : (x : ℕ) (l : List ℕ) (b : B) → 0 < occurs x l → foldl f b l ≡ foldl f b (x ∷ without x l)
  unfolding occurs count_of without
  fold-without x [] b h = absurd (omega arith)
  fold-without x (y ∷ l) b h = go (eqb x y) refl (fold-without x l (f b y))
    where
      go : (z : Bool) → eqb x y ≡ z → (0 < occurs x l → foldl f (f b y) l ≡ foldl f (f (f b y) x) (without x l))
          → foldl f (f b y) l ≡ foldl f (f b x) (cond z l (y ∷ without x l))
      go true e ih = rw (eqb-true x y e)
      go false e ih =
          let p : 0 < occurs x l = rw e at h in
          ih p ∙ ap (λ (c : B). foldl f c (without x l)) (commute b y x)

  pub fold-any-order : (l l' : List ℕ) (b : B) → ((i : ℕ) → occurs i l ≡ occurs i l') → foldl f b l ≡ foldl f b l'
  unfolding occurs count_of
  fold-any-order l [] b h = rw (none-occurs l h)
  fold-any-order l (x ∷ l') b h =
      let there : 0 < occurs x l = let e : occurs x l ≡ suc (occurs x l') = h x ∙ occurs-head x l' in omega arith in
      fold-without x l b there ∙ fold-any-order (without x l) l' (f b x) (λ i. less i (eqb i x) refl (sym (occurs-without x l there i) ∙ h i))
    where
      less : (i : ℕ) (z : Bool) → eqb i x ≡ z → occurs i (x ∷ without x l) ≡ occurs i (x ∷ l') → occurs i (without x l) ≡ occurs i l'
      less i true e q = suc_inj (rw e at q)
      less i false e q = rw e at q

-- the numbers below n, in order
unfoldable pub indices : ℕ → List ℕ
indices zero = []
indices (suc n) = 0 ∷ map suc (indices n)

occurs-later : (i : ℕ) (l : List ℕ) → occurs (suc i) (map suc l) ≡ occurs i l
unfolding occurs count_of
occurs-later i [] = refl
occurs-later i (x ∷ l) = rw (eqb-suc-suc i x, occurs-later i l)

occurs-none : (l : List ℕ) → occurs 0 (map suc l) ≡ 0
unfolding occurs count_of
occurs-none [] = refl
occurs-none (x ∷ l) = rw (eqb-zero-suc x) (occurs-none l)

-- each index of a list occurs once among them
pub occurs-indices : {A : Type 0} (l : List A) (i : ℕ) → occurs i (indices (length l)) ≡ cond (is_some (get_elem? l i)) 1 0
unfolding occurs count_of indices is_some
occurs-indices [] i = refl
occurs-indices (a ∷ l) zero = ap suc (occurs-none (indices (length l)))
occurs-indices (a ∷ l) (suc i) = rw (eqb-suc-zero i) (occurs-later i (indices (length l)) ∙ occurs-indices l i)

-- a fold over the indices of a list is the fold over the list
pub fold-indices : {A B : Type 0} (g : B → Option A → B) (b : B) (l : List A)
    → foldl (λ c i. g c (get_elem? l i)) b (indices (length l)) ≡ foldl (λ c a. g c (some a)) b l
unfolding indices
fold-indices g b [] = refl
fold-indices g b (a ∷ l) = foldl-map suc (λ c i. g c (get_elem? (a ∷ l) i)) (indices (length l)) (g b (some a)) ∙ fold-indices g (g b (some a)) l
