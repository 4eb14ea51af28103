-- The text of a total, at either width.
-- Assumes nothing.
use mathlib.Core.Path.{◌≡◌}
use mathlib.Core.Bool.{Bool, true, false}
use mathlib.Core.List.{◌++◌}
use Rattle.semantics.specs.declared.Total.{Total}
use Rattle.semantics.specs.Text.{text, decimal}
use Rattle.semantics.specs.Listing.{narrow_text, wide_text}
use Rattle.semantics.specs.Widths.{text_of}

-- a total is saturated, and then each width has a word for it, or true
module _ (t : Total) (wide : Bool) where
  pub at_least : t.saturated ≡ true → wide ≡ true → text "atleast " ++ decimal t.amount ≡ text_of wide t
  unfolding wide_text
  at_least is w = rw (w, is)

  pub pinned-is : t.saturated ≡ true → wide ≡ false → text "pinned" ≡ text_of wide t
  unfolding narrow_text
  pinned-is is w = rw (w, is)

  pub true-is : t.saturated ≡ false → decimal t.amount ≡ text_of wide t
  unfolding narrow_text wide_text
  true-is is = go wide
    where
      go : (b : Bool) → decimal t.amount ≡ text_of b t
      go true = rw is
      go false = rw is

pub ruleset totals_told = (at_least, pinned-is, true-is)
