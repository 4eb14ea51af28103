-- Must be believed: what `run` and `report` promise rests on it.
-- Document 01, "Cells, rows, schedule": totals, under any ceiling. "Totals 0 to 65,534 are true. Total 65,535 is pinned: at least that much." A
-- total is an amount and whether it is saturated (document 01: pinned); the code declares it, in src/lib.rt.
-- Assumes nothing.
use Rattle.std.specs.Prelude.{ℕ, ◌+◌, min, Bool, not, ◌||◌, ◌&&◌, List, [], ◌∷◌, leb, eqb}
use Rattle.std.specs.Bool.{beq}
use Rattle.semantics.specs.declared.Total.{Total}
use Rattle.semantics.specs.Basics.{any_of}

-- an amount held at a ceiling: saturated if it reaches the ceiling, or if it was so before
unfoldable pub held_at : ℕ → ℕ → Bool → Total
held_at ceiling n was = record { amount = min n ceiling; saturated = was || leb ceiling n }

-- "Adding two totals gives their sum, or 65,535 if the sum is larger."
unfoldable pub plus_at : ℕ → Total → Total → Total
plus_at ceiling a b = held_at ceiling (a.amount + b.amount) (a.saturated || b.saturated)

-- "turns a true total into a pinned one" (document 02, "A1"): by whether a total was saturated, and whether it now is
unfoldable pub caps : Bool → Bool → Bool
caps was now = not was && now

-- "The sum of two totals must therefore also report whether a true first total became pinned". Of the two only the first is looked at:
-- 0 + 65,535 is capped, 65,535 + 0 is not.
unfoldable pub caps_at : ℕ → Total → Total → Bool
caps_at ceiling a b = caps a.saturated (plus_at ceiling a b).saturated

-- the whole-number sum of some totals, and whether one of them is saturated
unfoldable pub amounts : List Total → ℕ
amounts [] = 0
amounts (t ∷ ts) = t.amount + amounts ts

unfoldable pub any_saturated : List Total → Bool
any_saturated ts = any_of (λ t. t.saturated) ts

-- "they and the starting total are summed as whole numbers before the sum is held": a total with others added, in words of its own beside
-- `plus_at`; with none it stays as it is. "the sum is held at the width's ceiling, and the total is pinned exactly if the sum reaches it or the
-- starting total or an added amount was pinned" (document 02, "A4")
unfoldable pub sum_at : ℕ → Total → List Total → Total
sum_at ceiling t [] = t
sum_at ceiling t (a ∷ more) =
    let sum = t.amount + amounts (a ∷ more) in
    record { amount = min sum ceiling; saturated = t.saturated || any_saturated (a ∷ more) || leb ceiling sum }

-- whether two totals are equal
unfoldable pub same_total : Total → Total → Bool
same_total a b = eqb a.amount b.amount && beq a.saturated b.saturated
