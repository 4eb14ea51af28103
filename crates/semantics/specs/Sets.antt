-- Must be believed of the promises of bitset alone: what `run` promises of done is a count of rows, `done_count` of Step.antt.
-- Document 01, "What one step does": sets of places, each a number of 64 bits. "Finished rows are a set of 64 places, and the done count is
-- its size." The size is the number of ones, `ones` of the library.
-- Assumes nothing.
use Rattle.std.specs.Prelude.{ℕ, ◌+◌, ◌/◌, ◌%◌, ◌^◌, Bool, cond, ◌||◌, eqb, leb}

-- whether place i is in the set: its bit is set
unfoldable pub is_in : ℕ → ℕ → Bool
is_in set i = eqb (set / 2 ^ i % 2) 1

-- the set with place i; a number past 63 is no place, and leaves the set as it is
unfoldable pub including : ℕ → ℕ → ℕ
including set i = cond (is_in set i || leb 64 i) set (set + 2 ^ i)
