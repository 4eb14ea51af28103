-- Tables of conditions, of which the first that is met decides.
-- Assumes nothing.
use mathlib.Core.Path.{◌≡◌, refl, sym, ap, ◌∙◌}
use Prim.Native.Nat.{ℕ, ◌≤◌, ◌<◌}
use mathlib.Core.Bool.{Bool, true, false, cond}
use mathlib.Core.List.{List, [], ◌∷◌, ◌++◌}
use native.Mathlib.Decide.{ℕ_discrete}
use native.Mathlib.Omega.{arith}
use borrow.Author.Tests.{lt-ltb, le-ltb}
use Rattle.semantics.specs.Basics.{first_below, some_below}
use Rattle.semantics.specs.declared.Refusal.{Refusal}
use Rattle.semantics.specs.Refusals.{Condition, first_met, at_first}

-- with positive numbers, number 0 says that no condition is met; and where none is, the number is 0
abbrev pub Positive : List Condition → Type 0
Positive [] = Unit
Positive (c ∷ more) = (0 < c.number) × Positive more

abbrev pub NoneMet : List Condition → Type 0
NoneMet [] = Unit
NoneMet (c ∷ more) = (c.met ≡ false) × NoneMet more

pub none-met : (cs : List Condition) → Positive cs → (first_met cs).number ≡ 0 → NoneMet cs
unfolding first_met
none-met [] p e = tt
none-met (c ∷ more) p e = go c.met refl e (none-met more p.1)
  where
    go : (b : Bool) → c.met ≡ b → (cond b (record { number = c.number; place = c.place }) (first_met more)).number ≡ 0
        → ((first_met more).number ≡ 0 → NoneMet more) → NoneMet (c ∷ more)
    go true m f r = absurd (omega (arith, p.0))
    go false m f r = (m, r f)

pub none-accepts : (cs : List Condition) → NoneMet cs → (first_met cs).number ≡ 0
unfolding first_met
none-accepts [] h = refl
none-accepts (c ∷ more) h = rw h.0 (none-accepts more h.1)

-- a table in two parts: the first condition met is in the first part, or else in the second
pub met-early : (cs ds : List Condition) → ((first_met cs).number ≡ 0 → ⊥) → first_met (cs ++ ds) ≡ first_met cs
unfolding first_met
met-early [] ds h = absurd (h refl)
met-early (c ∷ more) ds h = go c.met h (met-early more ds)
  where
    refusal : Refusal
    refusal = record { number = c.number; place = c.place }

    go : (b : Bool) → ((cond b refusal (first_met more)).number ≡ 0 → ⊥) → (((first_met more).number ≡ 0 → ⊥) → first_met (more ++ ds) ≡ first_met more)
        → cond b refusal (first_met (more ++ ds)) ≡ cond b refusal (first_met more)
    go true h r = refl
    go false h r = r h

pub met-late : (cs ds : List Condition) → NoneMet cs → first_met (cs ++ ds) ≡ first_met ds
unfolding first_met
met-late [] ds h = refl
met-late (c ∷ more) ds h = rw h.0 (met-late more ds h.1)

-- where none of a table is met, none of its first part is
pub early-accepts : (cs ds : List Condition) → (first_met (cs ++ ds)).number ≡ 0 → (first_met cs).number ≡ 0
early-accepts cs ds e = elim (ℕ_discrete (first_met cs).number 0) [
  | yes z ↦ z
  | no h ↦ ap (λ (r : Refusal). r.number) (sym (met-early cs ds h)) ∙ e
]

-- and of its second part none is either
pub late-accepts : (cs ds : List Condition) → Positive cs → (first_met (cs ++ ds)).number ≡ 0 → (first_met ds).number ≡ 0
late-accepts cs ds p e = ap (λ (r : Refusal). r.number) (sym (met-late cs ds (none-met cs p (early-accepts cs ds e)))) ∙ e

-- a table of one condition more
pub met-here : (c : Condition) (more : List Condition) → c.met ≡ true → first_met (c ∷ more) ≡ record { number = c.number; place = c.place }
unfolding first_met
met-here c more e = rw e

pub met-none : first_met [] ≡ record { number = 0; place = 0 }
unfolding first_met
met-none = refl

-- tables of the same numbers, met alike, decide by the same number, whatever the places
abbrev Alike : List Condition → List Condition → Type 0
Alike [] [] = Unit
Alike [] (d ∷ ds) = ⊥
Alike (c ∷ cs) [] = ⊥
Alike (c ∷ cs) (d ∷ ds) = (c.number ≡ d.number) × (c.met ≡ d.met) × Alike cs ds

pub alike-number : (cs ds : List Condition) → Alike cs ds → (first_met cs).number ≡ (first_met ds).number
unfolding first_met
alike-number [] [] h = refl
alike-number [] (d ∷ ds) h = absurd h
alike-number (c ∷ cs) [] h = absurd h
alike-number (c ∷ cs) (d ∷ ds) h = rw h.1 (go d.met (alike-number cs ds h.2))
  where
    go : (b : Bool) → (first_met cs).number ≡ (first_met ds).number
        → (cond b (record { number = c.number; place = c.place }) (first_met cs)).number ≡ (cond b (record { number = d.number; place = d.place }) (first_met ds)).number
    go true r = h.0
    go false r = r

-- tables that are the same up to the first condition that is met decide alike, whatever stands behind
abbrev pub Same : List Condition → List Condition → Type 0
Same [] [] = Unit
Same [] (d ∷ ds) = ⊥
Same (c ∷ cs) [] = ⊥
Same (c ∷ cs) (d ∷ ds) = (c ≡ d) × (d.met ≡ false → Same cs ds)

same_refl : (cs : List Condition) → Same cs cs
same_refl [] = tt
same_refl (c ∷ cs) = (refl, λ e. same_refl cs)

pub same-append : (cs ds bs es : List Condition) → Same cs ds → Same bs es → Same (cs ++ bs) (ds ++ es)
same-append [] [] bs es h r = r
same-append [] (d ∷ ds) bs es h r = absurd h
same-append (c ∷ cs) [] bs es h r = absurd h
same-append (c ∷ cs) (d ∷ ds) bs es h r = (h.0, λ e. same-append cs ds bs es (h.1 e) r)

pub same-decides : (cs ds : List Condition) → Same cs ds → first_met cs ≡ first_met ds
unfolding first_met
same-decides [] [] h = refl
same-decides [] (d ∷ ds) h = absurd h
same-decides (c ∷ cs) [] h = absurd h
same-decides (c ∷ cs) (d ∷ ds) h = rw h.0 (go d.met (λ e. same-decides cs ds (h.1 e)))
  where
    refusal : Refusal
    refusal = record { number = d.number; place = d.place }

    go : (b : Bool) → (b ≡ false → first_met cs ≡ first_met ds) → cond b refusal (first_met cs) ≡ cond b refusal (first_met ds)
    go true r = refl
    go false r = r refl

pub same-behind : (cs bs es : List Condition) → Same bs es → first_met (cs ++ bs) ≡ first_met (cs ++ es)
same-behind cs bs es h = same-decides (cs ++ bs) (cs ++ es) (same-append cs cs bs es (same_refl cs) h)

-- conditions of one place: the first that is met has it
abbrev pub Placed : ℕ → List Condition → Type 0
Placed at [] = Unit
Placed at (c ∷ more) = (c.place ≡ at) × Placed at more

pub met-placed : (at : ℕ) (cs : List Condition) → Placed at cs → ((first_met cs).number ≡ 0 → ⊥) → first_met cs ≡ record { number = (first_met cs).number; place = at }
unfolding first_met
met-placed at [] p h = absurd (h refl)
met-placed at (c ∷ more) p h = go c.met h (met-placed at more p.1)
  where
    refusal : Refusal
    refusal = record { number = c.number; place = c.place }

    go : (b : Bool) → ((cond b refusal (first_met more)).number ≡ 0 → ⊥)
        → (((first_met more).number ≡ 0 → ⊥) → first_met more ≡ record { number = (first_met more).number; place = at })
        → cond b refusal (first_met more) ≡ record { number = (cond b refusal (first_met more)).number; place = at }
    go true h r = λ i. record { number = c.number; place = p.0 i }
    go false h r = r h

-- a table that opens with a search, whose answer is r
module _ (number n : ℕ) (test : ℕ → Bool) (more : List Condition) (r : ℕ) (e : r ≡ first_below n test) where
  pub met_at : r < n → first_met (at_first number n test ∷ more) ≡ record { number = number; place = r }
  unfolding first_met at_first some_below
  met_at b = rw (← e, lt-ltb r n b)

  pub met-nowhere : n ≤ r → first_met (at_first number n test ∷ more) ≡ first_met more
  unfolding first_met at_first some_below
  met-nowhere b = rw (← e, le-ltb r n b)
