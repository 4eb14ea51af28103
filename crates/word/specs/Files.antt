-- Must be believed of the promise of word::Word::read_total alone: what `run` and `report` promise rests on semantics/specs.
-- What the bytes of a file say of a total, at either width.
-- Assumes nothing.
use Rattle.std.specs.Prelude.{◌≡◌, ℕ, ◌≤◌, Bool, true, false, List, Option, None, Some}
use Rattle.semantics.specs.declared.Total.{Total}
use Rattle.semantics.specs.RunFile.{layout_of}
use Rattle.semantics.specs.Widths.{width_of}

-- the total that bytes begin with, for which a word of the width has room; none if they are no total's
abbrev pub ReadsTotal : Bool → List ℕ → Option Total → Type 0
ReadsTotal flagged bytes None = (layout_of flagged).is_total_wrong bytes 0 ≡ true
ReadsTotal flagged bytes (Some t) =
    ((layout_of flagged).is_total_wrong bytes 0 ≡ false) × (t ≡ (layout_of flagged).total_at bytes 0) × (t.amount ≤ (width_of flagged).ceiling)
