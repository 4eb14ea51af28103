-- Letters, marks and exponents.
-- Assumes nothing.
use mathlib.Core.Path.{◌≡◌, refl, sym}
use Prim.Native.Nat.{ℕ, ◌+◌, ◌*◌, ◌^◌, ◌≤◌, ◌<◌}
use mathlib.Core.Bool.{Bool, true, false, true≢false, ◌&&◌}
use mathlib.Core.List.{List, [], ◌∷◌}
use native.Mathlib.Omega.{arith}
use lib.Dec.{eqb}
use lib.Pow.{pow_mono}
use borrow.Author.Tests.{eqb-true}
use Rattle.semantics.specs.declared.Mark.{Mark}
use Rattle.semantics.specs.declared.Mark.TheVariants.{Table, Cell, Operation, Schedule}
use Rattle.semantics.specs.RunFile.{layout_of, byte_at, has_mark, mark_in, mark_at}
use Rattle.semantics.specs.Text.{text}
use Rattle.semantics.specs.Words.{size_allowed}
use Rattle.semantics.proofs.Booleans.{compared, same_test, join, both}
use Rattle.semantics.proofs.Sizes.{allowed-bounds}

-- two letters each, the second the high byte
pub same_letters : (a b c d : ℕ) → a < 256 → c < 256 → eqb (b * 256 + a) (d * 256 + c) ≡ (eqb a c && eqb b d)
same_letters a b c d h k =
    same_test (eqb (b * 256 + a) (d * 256 + c)) (eqb a c && eqb b d)
    (λ t. join (eqb a c) (eqb b d) (omega compared) (omega compared))
    (λ t. let (low, high) = both (eqb a c) (eqb b d) t in omega compared)

both_true : (p q : Bool) → (p && q) ≡ true → (p ≡ true) × (q ≡ true)
both_true true q e = (refl, e)
both_true false q e = absurd (true≢false (sym e))

-- the letters of one mark are those of no other, so that a mark is known by its letters alone, in whatever order they are tried
marked : (flagged : Bool) (file : List ℕ) (a b : ℕ) (m : Mark) → mark_in (layout_of flagged) (Table ∷ Cell ∷ Operation ∷ Schedule ∷ []) (a ∷ b ∷ []) 0 ≡ m
    → has_mark file 0 (a ∷ b ∷ []) ≡ true → m ≡ mark_at (layout_of flagged) file 0
unfolding mark_at mark_in has_mark
marked flagged file a b m e h =
    let (first, second) = both_true (eqb (byte_at file 0) a) (eqb (byte_at file 1) b) h in
    rw (eqb-true (byte_at file 0) a first, eqb-true (byte_at file 1) b second) (sym e)

pub is-schedule : (flagged : Bool) (file : List ℕ) → has_mark file 0 (83 ∷ 67 ∷ []) ≡ true → Schedule ≡ mark_at (layout_of flagged) file 0
unfolding mark_in has_mark text
is-schedule true file h = marked true file 83 67 Schedule refl h
is-schedule false file h = marked false file 83 67 Schedule refl h

pub is-cell : (flagged : Bool) (file : List ℕ) → has_mark file 0 (67 ∷ 76 ∷ []) ≡ true → Cell ≡ mark_at (layout_of flagged) file 0
unfolding mark_in has_mark text
is-cell true file h = marked true file 67 76 Cell refl h
is-cell false file h = marked false file 67 76 Cell refl h

pub is-operation : (flagged : Bool) (file : List ℕ) → has_mark file 0 (79 ∷ 80 ∷ []) ≡ true → Operation ≡ mark_at (layout_of flagged) file 0
unfolding mark_in has_mark text
is-operation true file h = marked true file 79 80 Operation refl h
is-operation false file h = marked false file 79 80 Operation refl h

pub ruleset marks = (is-schedule, is-cell, is-operation)

pub too_large : (k : ℕ) → 63 < k → size_allowed (2 ^ k) ≡ false
too_large k h =
    same_test (size_allowed (2 ^ k)) false
    (λ t. let large : 2 ^ 64 ≤ 2 ^ k = pow_mono {i = 64} {j = k} (omega arith) in omega (arith, allowed-bounds (2 ^ k) t)) (λ t. absurd t)
