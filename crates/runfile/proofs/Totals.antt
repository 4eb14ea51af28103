-- A total at some offset, by the bytes from there on.
-- Assumes nothing.
use mathlib.Core.Path.{◌≡◌, sym, ap, ◌∙◌}
use Prim.Native.Nat.{ℕ, ◌-◌}
use mathlib.Core.Bool.{Bool}
use mathlib.Core.List.{List}
use native.Mathlib.Nat.{add-zero}
use native.Mathlib.Omega.{arith}
use lib.ListN.{length, take, drop, length-drop}
use lib.Seq.{take_all}
use Rattle.semantics.specs.declared.Total.{Total}
use Rattle.semantics.specs.RunFile.{layout_of}
use Rattle.semantics.proofs.Parts.{rest-agrees, total-bytes, total-agrees, total-there}

-- the slice of a file from an offset on, as code has it
pub tail : (at : ℕ) (file : List ℕ) → take (length file - at) (drop at file) ≡ drop at file
tail at file = take_all (length file - at) (drop at file) (omega (arith, length-drop at file))

pub tail-length : (at : ℕ) (file : List ℕ) → length (take (length file - at) (drop at file)) ≡ length file - at
tail-length at file = ap (λ l. length l) (tail at file) ∙ length-drop at file

module _ (flagged : Bool) (file : List ℕ) (at : ℕ) where
  pub test-there : {b : Bool} → (layout_of flagged).is_total_wrong (take (length file - at) (drop at file)) 0 ≡ b → (layout_of flagged).is_total_wrong file at ≡ b
  test-there is =
      sym (ap (λ l. (layout_of flagged).is_total_wrong l 0) (tail at file)
      ∙ total-agrees (rest-agrees 5 file at) flagged 0 (omega arith) ∙ ap ((layout_of flagged).is_total_wrong file) (add-zero at)) ∙ is

  pub there : {t : Total} → t ≡ (layout_of flagged).total_at (take (length file - at) (drop at file)) 0 → t ≡ (layout_of flagged).total_at file at
  there is =
      is ∙ ap (λ l. (layout_of flagged).total_at l 0) (tail at file)
      ∙ total-there (rest-agrees 5 file at) flagged 0 (omega (arith, total-bytes flagged)) ∙ ap ((layout_of flagged).total_at file) (add-zero at)

pub ruleset totals = (test-there, there)
