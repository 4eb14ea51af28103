-- Must be believed: what `report` promises rests on it.
-- The two widths by a Boolean, which is whether totals have a flag: false is the narrow width, true the wide one. "`roomrun` lists either width,
-- a wide pinned total or amount as `atleast N`."
-- Assumes nothing.
use Rattle.std.specs.Prelude.{ℕ, Bool, true, false, List}
use Rattle.semantics.specs.declared.Total.{Total}
use Rattle.semantics.specs.Words.{Width}
use Rattle.semantics.specs.Narrow.{narrow_width}
use Rattle.semantics.specs.Wide.{wide_width}
use Rattle.semantics.specs.Text.{most_text}
use Rattle.semantics.specs.Listing.{narrow_text, wide_text}

abbrev pub width_of : Bool → Width
width_of false = narrow_width
width_of true = wide_width

-- of two tables, of narrow words and of wide ones, the one of the width
abbrev pub of_width : Bool → List ℕ → List ℕ → List ℕ
of_width false narrow wide = narrow
of_width true narrow wide = wide

-- and how each writes a total
abbrev pub text_of : Bool → Total → List ℕ
text_of false = narrow_text
text_of true = wide_text

-- and how long its text of a run or of a refusal is at most (proofs/Widths.antt)
unfoldable pub most_text_of : Bool → ℕ
most_text_of false = most_text
most_text_of true = 148228
