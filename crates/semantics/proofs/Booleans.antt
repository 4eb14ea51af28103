-- Laws of tests: when two are equal, what one joined from two says of each, and the test of two cells.
-- Assumes nothing.
use mathlib.Core.Path.{◌≡◌, refl, sym, ap₂}
use Prim.Native.Nat.{ℕ}
use mathlib.Core.Bool.{Bool, true, false, ◌&&◌, ◌||◌, not, beq, true≢false}
use native.Mathlib.Omega.{arith}
use lib.Dec.{T, eqb, eqb→eq, eqb_refl, leb→le, le→leb}
use Rattle.semantics.specs.Cells.{Setting, Cell, empty, tombstone, live}
use Rattle.semantics.specs.Step.{same_cell}

pub eq→eqb : (m n : ℕ) → m ≡ n → T (eqb m n)
eq→eqb m n e = rw e (eqb_refl n)

-- `omega compared` reads and proves comparisons of numbers too
pub ruleset compared = (arith, eqb→eq, eq→eqb, leb→le, le→leb)

pub same_test : (p q : Bool) → (T p → T q) → (T q → T p) → p ≡ q
same_test true true f g = refl
same_test true false f g = absurd (f tt)
same_test false true f g = absurd (g tt)
same_test false false f g = refl

pub beq-refl : (p : Bool) → T (beq p p)
beq-refl true = tt
beq-refl false = tt

pub beq-sound : (p q : Bool) → T (beq p q) → p ≡ q
beq-sound true true h = refl
beq-sound true false h = absurd h
beq-sound false true h = absurd h
beq-sound false false h = refl

pub passed : (p : Bool) → T p → p ≡ true
passed p t = same_test p true (λ u. tt) (λ u. t)

pub true-T : (p : Bool) → p ≡ true → T p
true-T true e = tt
true-T false e = true≢false (sym e)

pub affirmed : (p : Bool) → not p ≡ false → T p
affirmed true e = tt
affirmed false e = true≢false e

pub neither : (p q : Bool) → (p || q) ≡ false → (p ≡ false) × (q ≡ false)
neither true q e = absurd (true≢false e)
neither false q e = (refl, e)

pub join : (p q : Bool) → T p → T q → T (p && q)
join true q t u = u
join false q t u = t

pub both : (p q : Bool) → T (p && q) → T p × T q
both true q t = (tt, t)
both false q t = absurd t

pub left : (p q : Bool) → T p → T (p || q)
left true q t = tt
left false q t = absurd t

pub right : (p q : Bool) → T q → T (p || q)
right true q t = tt
right false q t = t

pub either : {A : Type 0} (p q : Bool) → T (p || q) → (T p → A) → (T q → A) → A
either true q t f g = f tt
either false q t f g = g t

-- a test is nothing beside one that passes wherever it does
pub absorbs : (p q : Bool) → (T p → T q) → (p || q) ≡ q
absorbs p q f = same_test (p || q) q (λ t. either p q t f (λ u. u)) (right p q)

-- the test of two cells, by the test of two totals
pub same-cell-sound : (S : Setting) → ((t u : S.Total) → T (S.same t u) → t ≡ u) → (x y : Cell S.Total) → T (same_cell S x y) → x ≡ y
unfolding same_cell
same-cell-sound S h empty empty e = refl
same-cell-sound S h empty tombstone e = absurd e
same-cell-sound S h empty (live j u) e = absurd e
same-cell-sound S h tombstone empty e = absurd e
same-cell-sound S h tombstone tombstone e = refl
same-cell-sound S h tombstone (live j u) e = absurd e
same-cell-sound S h (live k t) empty e = absurd e
same-cell-sound S h (live k t) tombstone e = absurd e
same-cell-sound S h (live k t) (live j u) e = let (a, b) = both (eqb k j) (S.same t u) e in ap₂ live (eqb→eq k j a) (h t u b)
