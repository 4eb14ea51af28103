-- An aid, not to be believed: it stands in contracts of private functions alone.
-- Why a file is not converted, by the number of its row in the table of refusals.
-- Assumes nothing.
use Rattle.std.specs.Prelude.{◌≡◌, ℕ, ltb, Bool, cond, List, length, Result, Ok, Err, Option, Some, None}
use Rattle.semantics.specs.declared.Refusal.{Refusal}
use Rattle.semantics.specs.declared.Written.{Written}
use Rattle.semantics.specs.Convert.{converted, conversion_refusal}
use Rattle.runfile.specs.Faults.{number_of as fault_number, place_of as fault_place}
use Rattle.convert.specs.declared.Reason.{Reason}
use Rattle.convert.specs.declared.Reason.TheVariants.{Reader, Unfit, TooLong, TooShort}

abbrev pub number_of : Reason → ℕ
number_of (Reader f) = fault_number f
number_of (Unfit at) = 13
number_of TooLong = 22
number_of TooShort = 3

abbrev pub place_of : Reason → ℕ
place_of (Reader f) = fault_place f
place_of (Unfit at) = at
place_of TooLong = 0
place_of TooShort = 0

-- "An accepted call gives number 0 and place 0."
abbrev pub written : Result ℕ Reason → Written
written (Ok n) = record { number = 0; place = 0; length = n }
written (Err r) = record { number = number_of r; place = place_of r; length = 0 }

-- a record that is unfit decides, and else the length of the result
abbrev pub limits : Option ℕ → ℕ → Refusal
limits (Some at) n = record { number = 13; place = at }
limits None n = cond (ltb 65535 n) (record { number = 22; place = 0 }) (record { number = 0; place = 0 })

abbrev pub Limits : Option ℕ → ℕ → Result ℕ Reason → Type 0
Limits u n (Ok k) = (limits u n ≡ record { number = 0; place = 0 }) × (k ≡ n)
Limits u n (Err r) = limits u n ≡ record { number = number_of r; place = place_of r }

-- the length of the result, or the refusal
abbrev pub Measured : Bool → List ℕ → Result ℕ Reason → Type 0
Measured flagged file (Ok n) = ((conversion_refusal flagged file).number ≡ 0) × (n ≡ length (converted flagged file))
Measured flagged file (Err r) = conversion_refusal flagged file ≡ record { number = number_of r; place = place_of r }
