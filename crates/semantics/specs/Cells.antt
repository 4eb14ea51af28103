-- Must be believed: what `run` and `report` promise rests on it.
-- Cells, operations and answers, over any type of totals. The types are the code's own, of src/values.rt.
-- Assumes nothing.
use Rattle.std.specs.Prelude.{ℕ, Bool, true, false, cond, not, List, [], ◌∷◌, eqb}
use Rattle.std.proofs.Math.Option.{Option, none, some, or_else}
use Rattle.semantics.specs.Basics.{count_of}
pub use Rattle.semantics.specs.declared.values.Cell.{Cell}
pub use Rattle.semantics.specs.declared.values.Cell.TheVariants.{Empty as empty, Tombstone as tombstone, Live as live}
pub use Rattle.semantics.specs.declared.values.Kind.{Kind}
pub use Rattle.semantics.specs.declared.values.Kind.TheVariants.{Find as find, Insert as insert, Update as update, Add as add, Remove as remove}
pub use Rattle.semantics.specs.declared.values.Operation.{Operation}
pub use Rattle.semantics.specs.declared.values.Answer.{Answer}
pub use Rattle.semantics.specs.declared.values.Answer.TheVariants.{Found as found, Present as present, Changed as changed, Removed as removed, Capped as capped, Retained as retained, Inserted as inserted, Absent as absent, Full as full}

-- Everything that the rules leave open: the type of totals, which are saturated, how two are added and compared, how one is summed with
-- others as whole numbers and then held, the number of cells c, and the home of a key.
pub record Setting : Type 1 where
  pub Total : Type 0
  pub saturated : Total → Bool
  pub plus : Total → Total → Total
  pub same : Total → Total → Bool
  pub sum : Total → List Total → Total
  pub size : ℕ
  pub home : ℕ → ℕ

-- The code of an answer is its number in a table's words. Code 0 is none of them: an operation that has not finished has it. Code 9 answers an
-- update that leaves a saturated total (the specification's word: held; retained here, since to hold is what an operation does with a word
-- before its swap).
unfoldable pub code_of : {T : Type 0} → Answer T → ℕ
code_of (found t) = 1
code_of inserted = 2
code_of (present t) = 3
code_of (changed t) = 4
code_of (removed t) = 5
code_of absent = 6
code_of full = 7
code_of (capped t) = 8
code_of (retained t) = 9

-- the total that an answer carries, if it carries one
unfoldable pub total_of : {T : Type 0} → Answer T → Option T
total_of (found t) = some t
total_of inserted = none
total_of (present t) = some t
total_of (changed t) = some t
total_of (removed t) = some t
total_of absent = none
total_of full = none
total_of (capped t) = some t
total_of (retained t) = some t

-- "A room .. is present in the starting or final cells if one of them has its key, and its total there is that cell's."
unfoldable pub keyed : {T : Type 0} → ℕ → Cell T → Option T
keyed k empty = none
keyed k tombstone = none
keyed k (live j t) = cond (eqb k j) (some t) none

unfoldable pub lookup : {T : Type 0} → ℕ → List (Cell T) → Option T
lookup k [] = none
lookup k (x ∷ xs) = or_else (keyed k x) (lookup k xs)

-- "the cells not empty": how many; a tombstone is not empty
unfoldable pub is_empty : {T : Type 0} → Cell T → Bool
is_empty empty = true
is_empty tombstone = false
is_empty (live k t) = false

unfoldable pub used_cells : {T : Type 0} → List (Cell T) → ℕ
used_cells cells = count_of (λ x. not (is_empty x)) cells
