-- What the clauses holds of `run::take` and `run::take_entry` rule out: of one run, after its third entry, slices in which something is missing or too much,
-- which are therefore those of no run under way. Were the claim loosened so that one passes, its line here would fail.
-- Assumes nothing.
use mathlib.Core.Path.{◌≡◌, refl, ap}
use Prim.Native.Nat.{ℕ}
use mathlib.Core.List.{List, [], ◌∷◌}
use native.Mathlib.Omega.{arith}
use lib.ListN.{get_or}
use Rattle.semantics.specs.Cases.{table, at}
use Rattle.semantics.specs.Narrow.{operation_word as operation, packed_answer as answer}
use Rattle.semantics.specs.Run.{Result}
use Rattle.semantics.proofs.Cases.{computed}
use Rattle.semantics.specs.Narrow.{narrow_width}
use Rattle.row.specs.declared.Row.{Row}
use Rattle.run.specs.Entry.{Standing, stands}
use Rattle.run.specs.Underway.{Call, ending_after, Underway}

-- The specification's fifth case, with room for an answer and a log byte more: two adds to room 1 race, and the first wins at the third entry.
abbrev racing : Call
racing =
    record {
      cells = table 8 (at 4 1 40 ∷ []);
      operations = operation 4 1 5 ∷ operation 4 1 7 ∷ [];
      schedule = 0 ∷ 1 ∷ 0 ∷ 1 ∷ 1 ∷ 1 ∷ [];
      answers = 9 ∷ 9 ∷ 9 ∷ [];
      log = 9 ∷ 9 ∷ 9 ∷ [];
    }

abbrev standing : List Row → List ℕ → List ℕ → Standing
standing rows answers log = stands (table 8 (at 4 1 45 ∷ [])) answers log 1 rows 0 0

-- what stands in the slices then
right : ((ending_after narrow_width racing 3).cells ≡ table 8 (at 4 1 45 ∷ []))
    × ((ending_after narrow_width racing 3).answers ≡ answer 4 40 ∷ 0 ∷ 9 ∷ [])
    × ((ending_after narrow_width racing 3).log ≡ 0 ∷ 9 ∷ 9 ∷ [])
unfolding computed
right = (refl, refl, refl)

-- the answer is written with the following entry, or gathered and written at the end
an-answer-late : (rows : List Row) → Underway narrow_width racing 3 (standing rows (0 ∷ 0 ∷ 9 ∷ []) (0 ∷ 9 ∷ 9 ∷ [])) → ⊥
unfolding computed
an-answer-late rows h = let e : answer 4 40 ≡ 0 = ap (λ (r : Result). get_or r.answers 0 0) h.holds in absurd (omega (arith, e))

-- an answer that is not there yet is not 0
an-answer-uncleared : (rows : List Row) → Underway narrow_width racing 3 (standing rows (answer 4 40 ∷ 9 ∷ 9 ∷ []) (0 ∷ 9 ∷ 9 ∷ [])) → ⊥
unfolding computed
an-answer-uncleared rows h = let e : ◌≡◌ {A = ℕ} 0 9 = ap (λ (r : Result). get_or r.answers 1 0) h.holds in absurd (omega (arith, e))

-- an element past the answers is cleared with them
a-later-element-cleared : (rows : List Row) → Underway narrow_width racing 3 (standing rows (answer 4 40 ∷ 0 ∷ 0 ∷ []) (0 ∷ 9 ∷ 9 ∷ [])) → ⊥
unfolding computed
a-later-element-cleared rows h = let e : ◌≡◌ {A = ℕ} 9 0 = ap (λ (r : Result). get_or r.answers 2 0) h.holds in absurd (omega (arith, e))

-- the log byte comes later than the answer
a-log-byte-late : (rows : List Row) → Underway narrow_width racing 3 (standing rows (answer 4 40 ∷ 0 ∷ 9 ∷ []) (9 ∷ 9 ∷ 9 ∷ [])) → ⊥
unfolding computed
a-log-byte-late rows h = let e : ◌≡◌ {A = ℕ} 0 9 = ap (λ (r : Result). get_or r.log 0 0) h.holds in absurd (omega (arith, e))
