-- Must be believed of the promises of judge alone: what `run` and `report` promise rests on semantics/specs.
-- Why a call is turned away, by the number of its row in the table and its place; and the conditions of one width on the words of a type.
-- Assumes nothing.
use Rattle.std.specs.Prelude.{◌≡◌, ℕ, not, List, map, leb, get_or, Result, Ok, Err, length}
use Rattle.semantics.specs.declared.Refusal.{Refusal}
use Rattle.semantics.specs.Refusals.{Condition, Call, first_met, call_of, at_first}
use Rattle.semantics.specs.Keys.{is_repeated_key, is_unreachable_key}
use Rattle.semantics.specs.Words.{Width}
use Rattle.judge.specs.declared.Reason.{Reason}
use Rattle.judge.specs.declared.Reason.TheVariants.{Size, TooMany, TooShort, Cell, Row, Entry, Repeated, CutOff}

abbrev pub number_of : Reason → ℕ
number_of Size = 1
number_of TooMany = 2
number_of TooShort = 3
number_of (Cell i) = 4
number_of (Row i) = 5
number_of (Entry i) = 6
number_of (Repeated i) = 7
number_of (CutOff i) = 8

abbrev pub place_of : Reason → ℕ
place_of Size = 0
place_of TooMany = 0
place_of TooShort = 0
place_of (Cell i) = i
place_of (Row i) = i
place_of (Entry i) = i
place_of (Repeated i) = i
place_of (CutOff i) = i

-- "An accepted call gives number 0 and place 0."
abbrev pub refusal : {A : Type 0} → Result A Reason → Refusal
refusal (Ok a) = record { number = 0; place = 0 }
refusal (Err r) = record { number = number_of r; place = place_of r }

-- what some conditions say of a call is what a check answers
abbrev pub Judges : {A : Type 0} → Result A Reason → List Condition → Type 0
Judges r conditions = refusal r ≡ first_met conditions

-- the keys of some words
abbrev pub keys_of : {A : Type 0} → Width → (A → ℕ) → List A → List ℕ
keys_of W number cells = map W.key_of (map number cells)

abbrev pub called : {A : Type 0} → (A → ℕ) → List A → List ℕ → List ℕ → ℕ → ℕ → Call
called number cells operations schedule answers log = call_of (map number cells) operations schedule answers log

-- 7 and 8, by the keys alone
abbrev pub repeated : List ℕ → Condition
repeated keys = at_first 7 (length keys) (is_repeated_key keys)

abbrev pub cut_off : List ℕ → Condition
cut_off keys = at_first 8 (length keys) (is_unreachable_key keys)

-- 4 to 6
abbrev pub bad_word : Width → List ℕ → Condition
bad_word W words = at_first 4 (length words) (λ i. not (W.cell_allowed (get_or words i 0)))

abbrev pub bad_row : Width → List ℕ → Condition
bad_row W operations = at_first 5 (length operations) (λ i. not (W.operation_allowed (get_or operations i 0)))

abbrev pub bad_name : ℕ → List ℕ → Condition
bad_name rows schedule = at_first 6 (length schedule) (λ i. leb rows (get_or schedule i 0))
