-- A part of a file that is read in its place: where its bytes are the file's, so are the numbers, the mark and the totals that they make.
-- Assumes nothing.
use mathlib.Core.Path.{◌≡◌, refl, sym, ap, ap₂, ◌∙◌}
use Prim.Native.Nat.{ℕ, ◌+◌, ◌-◌, ◌*◌, ◌≤◌, ◌<◌}
use mathlib.Core.Bool.{Bool, true, false}
use mathlib.Core.List.{List}
use native.Mathlib.Nat.{add_assoc, add-zero}
use native.Mathlib.Omega.{arith}
use lib.Dec.{eqb, ltb}
use lib.ListN.{take, drop}
use lib.Seq.{get_or-take, get_or-drop}
use Rattle.semantics.specs.Narrow.{narrow}
use Rattle.semantics.specs.RunFile.{Layout, layout_of, byte_at, pair_at, has_mark, mark_in, mark_at}

-- a total has two to five bytes
pub total-bytes : (flagged : Bool) → (2 ≤ (layout_of flagged).total_size) × ((layout_of flagged).total_size ≤ 5)
total-bytes true = (omega arith, omega arith)
total-bytes false = (omega arith, omega arith)

-- the first n bytes of a part are those of a file from an offset on
pub record Agrees (n : ℕ) (part file : List ℕ) (at : ℕ) : Type 0 where
  pub byte : (i : ℕ) → i < n → byte_at part i ≡ byte_at file (at + i)

-- all of the file from there on, and the part of n bytes from there
pub rest-agrees : (n : ℕ) (file : List ℕ) (at : ℕ) → Agrees n (drop at file) file at
rest-agrees n file at = record { byte = λ i h. get_or-drop at file i 0 }

pub part-agrees : (n : ℕ) (file : List ℕ) (at : ℕ) → Agrees n (take (at + n - at) (drop at file)) file at
part-agrees n file at = record { byte = λ i h. get_or-take (at + n - at) (drop at file) i 0 (omega arith) ∙ get_or-drop at file i 0 }

module _ {n : ℕ} {part file : List ℕ} {at : ℕ} (same : Agrees n part file at) where
  pub pair-agrees : (i : ℕ) → i + 2 ≤ n → pair_at part i ≡ pair_at file (at + i)
  pair-agrees i h = ap₂ (λ a b. a * 256 + b) (same.byte i (omega arith)) (same.byte (i + 1) (omega arith) ∙ ap (byte_at file) (sym (add_assoc at i 1)))

  pub mark-agrees : 2 ≤ n → (L : Layout) → mark_at L part 0 ≡ mark_at L file at
  unfolding mark_at mark_in has_mark
  mark-agrees h L = rw (same.byte 0 (omega arith), same.byte 1 (omega arith), add-zero)

  pub total-agrees : (flagged : Bool) (i : ℕ) → i < n → (layout_of flagged).is_total_wrong part i ≡ (layout_of flagged).is_total_wrong file (at + i)
  total-agrees true i h = ap (ltb 1) (same.byte i h)
  total-agrees false i h = refl

  pub total-there : (wide : Bool) (i : ℕ) → i + (layout_of wide).total_size ≤ n → (layout_of wide).total_at part i ≡ (layout_of wide).total_at file (at + i)
  total-there false i h = ap narrow (pair-agrees i h)
  total-there true i h =
      let high = pair-agrees (i + 1) (omega arith) ∙ ap (pair_at file) (sym (add_assoc at i 1)) in
      let low = pair-agrees (i + 3) (omega arith) ∙ ap (pair_at file) (sym (add_assoc at i 3)) in
      λ j. record { amount = high j * 65536 + low j; saturated = eqb (same.byte i (omega arith) j) 1 }
