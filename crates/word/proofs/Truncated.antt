-- A word keeps all of a total that is one of its width.
-- Assumes nothing.
use Rattle.std.proofs.Common.{◌≡◌, ℕ, suc, ◌+◌, ◌%◌, ◌≤◌, Bool, true, false, cond, leb, refl, sym, ap, subst, ◌∙◌, arith}
use Rattle.std.proofs.Math.Nat.{mod-eq_of_lt}
use lib.Dec.{T, leb→le}
use Rattle.std.proofs.Math.Option.{some}
use Rattle.semantics.specs.declared.Total.{Total}
use Rattle.semantics.specs.declared.values.Cell.{Cell}
use Rattle.semantics.specs.declared.values.Cell.TheVariants.{Empty, Tombstone, Live}
use Rattle.semantics.specs.declared.values.Answer.{Answer}
use Rattle.semantics.specs.Cells.{code_of, total_of}
use Rattle.semantics.specs.Words.{Width, carried, answer_word}
use Rattle.semantics.specs.Wide.{is_wide_total, wide_ceiling}
use Rattle.semantics.specs.Widths.{width_of}
use Rattle.semantics.proofs.Booleans.{true-T}
use Rattle.semantics.proofs.Narrow.{total-small}
use Rattle.word.specs.Fits.{FitsCell, FitsAnswer, truncated, truncated_cell}

-- no total of a width is above its ceiling
abbrev pub Within : Width → Type 0
Within W = (t : Total) → W.is_total t ≡ true → t.amount ≤ W.ceiling

wide-within : (t : Total) → is_wide_total t ≡ true → t.amount ≤ wide_ceiling
unfolding is_wide_total
wide-within t h = go t.saturated (true-T _ h)
  where
    go : (z : Bool) → T (cond z (leb t.amount 4294967295) (leb t.amount 4294967294)) → t.amount ≤ 4294967295
    go true e = leb→le t.amount 4294967295 e
    go false e = omega (arith, leb→le t.amount 4294967294 e)

pub within : (flagged : Bool) → Within (width_of flagged)
within false t h = total-small t (true-T _ h)
within true t h = wide-within t h

pub within-by : {W : Width} (flagged : Bool) → W ≡ width_of flagged → Within W
within-by {W} flagged is = subst Within (sym is) (within flagged)

module _ (W : Width) (within-it : Within W) where
  truncated-same : (t : Total) → W.is_total t ≡ true → truncated W t ≡ t
  truncated-same t h =
      let small = within-it t h in
      ap (λ (n : ℕ). record { amount = n; saturated = t.saturated }) (mod-eq_of_lt {n = t.amount} (omega (arith, small)))

  pub cell-same : (x : Cell Total) → FitsCell W x → truncated_cell W x ≡ x
  cell-same Empty h = refl
  cell-same Tombstone h = refl
  cell-same (Live k t) h = ap (Live k) (truncated-same t h)

  pub answer-same : (a : Answer Total) → FitsAnswer W a → W.packed_answer (code_of a) (truncated W (carried (total_of a))) ≡ answer_word W (some a)
  unfolding answer_word
  answer-same a h = ap (W.packed_answer (code_of a)) (truncated-same (carried (total_of a)) h)
