-- Must be believed of the promises of record, check_file and Loaded::from alone: what `load` and `report` promise rests on semantics/specs.
-- Why a file is turned away, by the number of its row in the table of refusals.
-- Assumes nothing.
use Rattle.std.specs.Prelude.{ℕ, Result, Ok, Err}
use Rattle.semantics.specs.declared.Refusal.{Refusal}
use Rattle.runfile.specs.declared.record.Fault.{Fault}
use Rattle.runfile.specs.declared.record.Fault.TheVariants.{TooMany, TooShort, Mark, Cut, Body, TooLong}

abbrev pub number_of : Fault → ℕ
number_of (TooMany at) = 2
number_of TooShort = 3
number_of (Mark at) = 9
number_of (Cut at) = 10
number_of (Body at) = 11
number_of TooLong = 12

abbrev pub place_of : Fault → ℕ
place_of (TooMany at) = at
place_of TooShort = 0
place_of (Mark at) = at
place_of (Cut at) = at
place_of (Body at) = at
place_of TooLong = 0

-- "An accepted call gives number 0 and place 0."
abbrev pub refusal : {A : Type 0} → Result A Fault → Refusal
refusal (Ok a) = record { number = 0; place = 0 }
refusal (Err f) = record { number = number_of f; place = place_of f }
