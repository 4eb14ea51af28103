-- What the theorems ask of a setting and of the starting cells. Sizes.antt shows the first of every allowed table size, and Start.antt the
-- second of all cells that the run's checks accept, so that neither is left as an assumption.
-- Assumes nothing.
use mathlib.Core.Path.{◌≡◌}
use Prim.Native.Nat.{ℕ, ◌<◌}
use mathlib.Core.Bool.{false}
use mathlib.Core.List.{List, [], ◌∷◌}
use mathlib.Core.Option.{some}
use lib.Dec.{T}
use lib.ListN.{length, get_or}
use Rattle.semantics.specs.Cells.{Setting, Cell, empty, keyed, is_empty}
use Rattle.semantics.specs.Step.{place_of}

-- totals are added in any order, are the same where the test says so, and are summed one by one; each home is a cell
pub record Lawful (S : Setting) : Type 0 where
  pub same-sound : (t u : S.Total) → T (S.same t u) → t ≡ u
  pub plus_comm : (t u : S.Total) → S.plus t u ≡ S.plus u t
  pub plus_assoc : (t u v : S.Total) → S.plus (S.plus t u) v ≡ S.plus t (S.plus u v)
  pub sum-none : (t : S.Total) → S.sum t [] ≡ t
  pub sum_more : (t a : S.Total) (more : List S.Total) → S.sum t (a ∷ more) ≡ S.sum (S.plus t a) more
  pub home_below : (k : ℕ) → S.home k < S.size

-- the cells are c, no key has two of them, and none is empty from a key's home up to the key's cell
pub record Accepted (S : Setting) (cells : List (Cell S.Total)) : Type 0 where
  pub long : length cells ≡ S.size
  pub distinct : (k i j : ℕ) (t u : S.Total) → keyed k (get_or cells i empty) ≡ some t → keyed k (get_or cells j empty) ≡ some u → i ≡ j
  pub reached : (k i : ℕ) (t : S.Total) → keyed k (get_or cells i empty) ≡ some t
      → (d : ℕ) × (d < S.size) × (place_of S k d ≡ i) × ((e : ℕ) → e < d → is_empty (get_or cells (place_of S k e) empty) ≡ false)
