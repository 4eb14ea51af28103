-- Demands 1 to 3 of every call, at any width that packs: the theorem, of what is proved in proofs/WordsHold.antt.
-- Assumes nothing.
use Rattle.std.proofs.Common.{◌≡◌, ℕ, List, refl, sym, subst, ◌∙◌}
use Rattle.semantics.specs.Words.{Width}
use Rattle.semantics.specs.Run.{Result, run_result}
use Rattle.semantics.specs.Demands.{Demands}
use Rattle.semantics.proofs.Words.{Packing}
use Rattle.semantics.proofs.WordsHold.{refused, number_is, accepted-call-is}

-- the theorem
module _ {W : Width} (P : Packing W) (cells operations schedule answers log : List ℕ) where
  pub demands : Demands W cells operations schedule answers log (run_result W cells operations schedule answers log)
  demands =
      let number = number_is W cells operations schedule answers log in
      record {
        result = refl;
        refused = λ h. refused W cells operations schedule answers log (λ e. h (number ∙ e));
        accepted = λ e. accepted-call-is P cells operations schedule answers log (sym number ∙ e);
      }

  -- of any result that equals it
  pub demands-of : (r : Result) → run_result W cells operations schedule answers log ≡ r → Demands W cells operations schedule answers log r
  demands-of r e = subst (Demands W cells operations schedule answers log) e demands
