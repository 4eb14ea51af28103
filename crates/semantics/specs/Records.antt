-- Must be believed: what `report` promises rests on it.
-- Files of records, whatever their marks and sizes: where the records of a file begin, and which is the first that is faulty.
-- Assumes nothing.
use Rattle.std.specs.Prelude.{ℕ, zero, suc, Bool, true, false, ◌&&◌, List, [], ◌∷◌, ◌++◌, eqb, ltb, length}
use Rattle.semantics.specs.Refusals.{Condition, first_met}

-- What the scan of a file leaves open: what a reader carries from record to record, the offset of the record that follows among it; the
-- conditions that turn that record away, in the order of the refusal table; and what is carried past it.
pub record Format : Type 1 where
  pub Place : Type 0
  pub offset : Place → ℕ
  pub conditions : List ℕ → Place → List Condition
  pub next : List ℕ → Place → Place

module _ (F : Format) (file : List ℕ) where
  -- the number of the first condition that turns a record away, 0 for none
  unfoldable pub fault_at : F.Place → ℕ
  fault_at p = (first_met (F.conditions file p)).number

  -- whether another record follows: this one is not faulty and the file is longer
  unfoldable pub goes_on : F.Place → Bool
  goes_on p = eqb (fault_at p) 0 && ltb (F.offset (F.next file p)) (length file)

  -- "The reader takes records in file order and reports the first faulty one": at most n records from p on, a faulty one the last
  unfoldable pub records_from : ℕ → F.Place → List F.Place
  records_from zero p = []
  records_from (suc n) p = p ∷ elim (goes_on p) [ true ↦ records_from n (F.next file p) | false ↦ [] ]

  -- a file has fewer records than bytes; an empty one has one, which is faulty
  unfoldable pub records : F.Place → List F.Place
  records start = records_from (suc (length file)) start

  -- the refusal table, a record after another
  unfoldable pub record_conditions : List F.Place → List Condition
  record_conditions [] = []
  record_conditions (p ∷ more) = F.conditions file p ++ record_conditions more
