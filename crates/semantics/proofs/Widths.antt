-- The two widths by a Boolean: what is shown of each holds of the one that is meant.
-- Assumes nothing.
use mathlib.Core.Path.{◌≡◌, refl, sym, ap, ◌∙◌}
use Prim.Native.Nat.{ℕ, ◌+◌, ◌≤◌, min}
use mathlib.Core.Bool.{Bool, true, false, cond, ◌||◌, beq, or-false}
use mathlib.Core.List.{List, [], ◌∷◌}
use native.Mathlib.Omega.{arith}
use lib.Dec.{T, eqb, leb, leb→le}
use borrow.Author.Tests.{eqb-false, lt-leb}
use Rattle.semantics.specs.Basics.{any_of}
use Rattle.semantics.specs.declared.Total.{Total}
use Rattle.semantics.specs.Totals.{held_at, amounts, any_saturated, sum_at}
use Rattle.semantics.specs.Words.{Width}
use Rattle.semantics.specs.Narrow.{narrow_ceiling, is_narrow_total, narrow_width}
use Rattle.semantics.specs.Wide.{wide_ceiling, is_wide_total, wide_width}
use Rattle.semantics.specs.Widths.{width_of, text_of, most_text_of}
use Rattle.semantics.proofs.Booleans.{compared, beq-sound, both}
use Rattle.semantics.proofs.Words.{Packing}
use Rattle.semantics.proofs.Narrow.{narrow-packing}
use Rattle.semantics.proofs.Wide.{wide-packing}
use Rattle.semantics.proofs.Lengths.{Short, narrow_short, wide_short, most_listing}

-- both pack
pub packing-of : (wide : Bool) → Packing (width_of wide)
packing-of false = narrow-packing
packing-of true = wide-packing

-- a field read by the layout that a test chose
module _ {A : Type 0} (field : Width → A) {wide : Bool} {r : A} where
  pub if-wide : wide ≡ true → r ≡ field wide_width → r ≡ field (width_of wide)
  if-wide is e = e ∙ ap (λ (b : Bool). field (width_of b)) (sym is)

  pub if-narrow : wide ≡ false → r ≡ field narrow_width → r ≡ field (width_of wide)
  if-narrow is e = e ∙ ap (λ (b : Bool). field (width_of b)) (sym is)

-- at either width an operation's amount and an answer's total lie where the total of a cell does
pub amount-there : (wide : Bool) (w : ℕ) → (width_of wide).total_in w ≡ (width_of wide).amount_in w
amount-there false w = refl
amount-there true w = refl

pub answer-there : (wide : Bool) (w : ℕ) → (width_of wide).total_in w ≡ (width_of wide).answer_total w
answer-there false w = refl
answer-there true w = refl

-- the longest text of a total, and of all
unfoldable pub longest : Bool → ℕ
longest false = 6
longest true = 18

pub short : (wide : Bool) → Short (width_of wide) (text_of wide) (longest wide)
unfolding longest
short false = narrow_short
short true = wide_short

pub most-text : (wide : Bool) → most_listing (longest wide) ≤ most_text_of wide
unfolding longest most_text_of
most-text false = omega arith
most-text true = omega arith

-- no file needs more room than a wide one
pub most-wide : (wide : Bool) → most_text_of wide ≤ most_text_of true
unfolding most_text_of
most-wide false = omega arith
most-wide true = omega arith

-- a total is held as it is
held-itself : (wide : Bool) (t : Total) → T ((width_of wide).is_total t) → held_at (width_of wide).ceiling t.amount t.saturated ≡ t
unfolding held_at is_narrow_total is_wide_total
held-itself false t h = let (most, flag) = both (leb t.amount narrow_ceiling) _ h in go (leb→le _ _ most) t.saturated flag
  where
    go : t.amount ≤ narrow_ceiling → (s : Bool) → T (beq s (eqb t.amount narrow_ceiling))
        → held_at narrow_ceiling t.amount s ≡ record { amount = t.amount; saturated = s }
    go b true q = let e : min t.amount narrow_ceiling ≡ t.amount = omega arith in λ i. record { amount = e i; saturated = true }
    go b false q =
        let e : min t.amount narrow_ceiling ≡ t.amount = omega arith in
        let f = eqb-false t.amount narrow_ceiling (sym (beq-sound false _ q)) in
        let g = lt-leb narrow_ceiling t.amount (omega arith) in
        λ i. record { amount = e i; saturated = g i }
held-itself true t h = go t.saturated h
  where
    go : (s : Bool) → T (cond s (leb t.amount wide_ceiling) (leb t.amount 4294967294))
        → held_at wide_ceiling t.amount s ≡ record { amount = t.amount; saturated = s }
    go true h = let e : min t.amount wide_ceiling ≡ t.amount = omega compared in λ i. record { amount = e i; saturated = true }
    go false h =
        let e : min t.amount wide_ceiling ≡ t.amount = omega compared in
        let g = lt-leb wide_ceiling t.amount (omega compared) in
        λ i. record { amount = e i; saturated = g i }

-- Demand 3 in the words of document 02, "A4", of whatever is added to a total, of none too: "the sum is held at the width's ceiling, and the total is
-- pinned exactly if the sum reaches it or the starting total or an added amount was pinned"
pub sum-held : (wide : Bool) (t : Total) (added : List Total) → T ((width_of wide).is_total t)
    → sum_at (width_of wide).ceiling t added
    ≡ record {
      amount = min (t.amount + amounts added) (width_of wide).ceiling;
      saturated = t.saturated || any_saturated added || leb (width_of wide).ceiling (t.amount + amounts added);
    }
unfolding sum_at held_at amounts any_saturated any_of
sum-held wide t [] h =
    let e : t.amount + 0 ≡ t.amount = omega arith in
    sym (rw (e, or-false) (held-itself wide t h))
sum-held wide t (a ∷ more) h = refl
