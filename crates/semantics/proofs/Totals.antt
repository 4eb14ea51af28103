-- The laws of totals under any ceiling.
-- Assumes nothing.
use mathlib.Core.Path.{◌≡◌, refl, ap₂, sym, ◌∙◌}
use Prim.Native.Nat.{ℕ, ◌+◌, min}
use mathlib.Core.Bool.{Bool, true, false, ◌||◌, beq, or_assoc, or_comm, or-true, or-false}
use mathlib.Core.List.{List, [], ◌∷◌}
use native.Mathlib.Nat.{add_assoc}
use native.Mathlib.Omega.{arith}
use lib.Dec.{T, eqb, leb, eqb→eq}
use Rattle.semantics.specs.declared.Total.{Total}
use Rattle.semantics.specs.Basics.{any_of}
use Rattle.semantics.specs.Totals.{held_at, plus_at, amounts, any_saturated, sum_at, same_total}
use Rattle.semantics.proofs.Booleans.{compared, same_test, beq-sound, absorbs, both}

pub same-total-sound : (t u : Total) → T (same_total t u) → t ≡ u
unfolding same_total
same-total-sound t u h =
    let (a, p) = both (eqb t.amount u.amount) (beq t.saturated u.saturated) h in
    let e = eqb→eq t.amount u.amount a in
    let f = beq-sound t.saturated u.saturated p in
    λ i. record { amount = e i; saturated = f i }

module _ (ceiling : ℕ) where
  reached-again : (n m : ℕ) (p q : Bool) → (p || leb ceiling n || q || leb ceiling (min n ceiling + m)) ≡ (p || q || leb ceiling (n + m))
  reached-again n m true q = refl
  reached-again n m false true = simp or-true
  reached-again n m false false =
      rw (or-false, absorbs (leb ceiling n) (leb ceiling (min n ceiling + m)) (omega compared))
      (same_test _ _ (omega compared) (omega compared))

  -- what is held, and then held again with more, is held once with all of it
  held-again : (n m : ℕ) (p q : Bool)
      → held_at ceiling ((held_at ceiling n p).amount + m) ((held_at ceiling n p).saturated || q) ≡ held_at ceiling (n + m) (p || q)
  unfolding held_at
  held-again n m p q =
      let e : min (min n ceiling + m) ceiling ≡ min (n + m) ceiling = omega arith in
      let f = reached-again n m p q in
      λ i. record { amount = e i; saturated = f i }

  pub plus_comm : (t u : Total) → plus_at ceiling t u ≡ plus_at ceiling u t
  unfolding plus_at
  plus_comm t u = ap₂ (held_at ceiling) (omega arith) (or_comm t.saturated u.saturated)

  pub plus_assoc : (t u v : Total) → plus_at ceiling (plus_at ceiling t u) v ≡ plus_at ceiling t (plus_at ceiling u v)
  unfolding plus_at
  plus_assoc t u v =
      rw (plus_comm t (plus_at ceiling u v))
      (simp held-again (ap₂ (held_at ceiling) (omega arith) (or_assoc t.saturated u.saturated v.saturated ∙ or_comm t.saturated (u.saturated || v.saturated))))

  pub sum-none : (t : Total) → sum_at ceiling t [] ≡ t
  unfolding sum_at
  sum-none t = refl

  -- the sum in its own words is what is held once
  abbrev held-sum : Total → List Total → Total
  held-sum t [] = t
  held-sum t (a ∷ more) = held_at ceiling (t.amount + amounts (a ∷ more)) (t.saturated || any_saturated (a ∷ more))

  sum_is : (t : Total) (l : List Total) → sum_at ceiling t l ≡ held-sum t l
  unfolding sum_at held_at
  sum_is t [] = refl
  sum_is t (a ∷ more) = refl

  held_more : (t a : Total) (more : List Total) → held-sum t (a ∷ more) ≡ held-sum (plus_at ceiling t a) more
  unfolding plus_at amounts any_saturated any_of
  held_more t a [] = ap₂ (held_at ceiling) (omega arith) (rw or-false)
  held_more t a (b ∷ more) = simp (held-again, or_assoc, add_assoc)

  pub sum_more : (t a : Total) (more : List Total) → sum_at ceiling t (a ∷ more) ≡ sum_at ceiling (plus_at ceiling t a) more
  sum_more t a more = sum_is t (a ∷ more) ∙ held_more t a more ∙ sym (sum_is (plus_at ceiling t a) more)
