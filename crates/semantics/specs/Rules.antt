-- Must be believed of the promises of this crate's own methods and of row alone: what `run` and `report` promise rests on the other files.
-- What the code of the step rules promises, in the words of Step.antt and Words.antt.
-- Assumes nothing.
use Rattle.std.specs.Prelude.{◌≡◌, ℕ, true, false, cond, Result, MatchResult, Option, Some, None}
use Rattle.semantics.specs.Cells.{Setting, Kind}
use Rattle.semantics.specs.Step.{Effect, effect}
use Rattle.semantics.specs.Words.{setting_at, is_kind, kind_of}
use Rattle.semantics.specs.declared.rules.Bounds.{Bounds}
use Rattle.semantics.specs.declared.rules.UnknownKind.{UnknownKind}

-- the setting of a table with these bounds
abbrev pub setting_in : Bounds → Setting
setting_in b = setting_at b.ceiling b.cells

-- A number is read as a kind if it is 1 to 5, and then as that number's kind; any other is handed back.
abbrev pub Decodes : ℕ → Result Kind UnknownKind → Type 0
Decodes n r = MatchResult r (λ kind. (is_kind n ≡ true) × (kind ≡ kind_of n)) (λ e. (is_kind n ≡ false) × (e.0 ≡ n))

-- What the kind of number n does to a total t of its key, and answers; and of any other number, nothing.
unfoldable pub effect_of : (S : Setting) → ℕ → S.Total → S.Total → Option (Effect S.Total)
effect_of S n t amount = cond (is_kind n) (Some (effect S (kind_of n) t amount)) None
