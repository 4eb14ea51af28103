-- Must be believed of the wide width: what `run_wide` promises rests on it, and what `report` promises of wide files.
-- Document 02, "A4": the layouts of the wide width, whose totals have 32 bits and a flag.
-- Assumes nothing.
use Rattle.std.specs.Prelude.{ℕ, ◌+◌, ◌*◌, ◌/◌, ◌%◌, ◌^◌, Bool, cond, not, ◌&&◌, ◌||◌, eqb, leb}
use Rattle.semantics.specs.declared.Total.{Total}
use Rattle.semantics.specs.Words.{is_live_key, takes_amount, is_kind, Width}

-- "Adding sums the totals, holds at 4,294,967,295"
abbrev pub wide_ceiling : ℕ
wide_ceiling = 4294967295

-- a flag above thirty-two bits: the layout of a total in a cell, in an operation and in an answer
abbrev pub flagged_bits : Total → ℕ
flagged_bits t = cond t.saturated (2 ^ 32) 0 + t.amount

abbrev pub flagged_in : ℕ → Total
flagged_in w = record { amount = w % 2 ^ 32; saturated = eqb (w / 2 ^ 32 % 2) 1 }

-- "A true total is at most 4,294,967,294; a pinned one is any total with the flag."
unfoldable pub is_wide_total : Total → Bool
is_wide_total t = cond t.saturated (leb t.amount wide_ceiling) (leb t.amount 4294967294)

unfoldable pub is_nothing : Total → Bool
is_nothing t = not t.saturated && eqb t.amount 0

-- "A wide cell has 64 bits: key in bits 48 to 63, pinned flag in bit 32, total in bits 0 to 31, the rest 0."
abbrev pub wide_key_of : ℕ → ℕ
wide_key_of w = w / 2 ^ 48

abbrev pub stray_bits : ℕ → ℕ
stray_bits w = w / 2 ^ 33 % 2 ^ 15

abbrev pub wide_cell_word : ℕ → Total → ℕ
wide_cell_word key t = key * 2 ^ 48 + flagged_bits t

-- "It refuses an unflagged 4,294,967,295, a stray bit, or a flag where the total or amount must be 0, with 4 in a cell and 5 in a row"
unfoldable pub wide_cell_allowed : ℕ → Bool
wide_cell_allowed w =
    eqb (stray_bits w) 0 && is_wide_total (flagged_in w) && leb (wide_key_of w) 65535 && (is_live_key (wide_key_of w) || is_nothing (flagged_in w))

-- "A wide row has amount in bits 0 to 31, flag in 32, key in 33 to 48, kind in 49 to 56."
abbrev pub wide_operation_key : ℕ → ℕ
wide_operation_key w = w / 2 ^ 33 % 2 ^ 16

abbrev pub wide_kind_bits : ℕ → ℕ
wide_kind_bits w = w / 2 ^ 49 % 256

abbrev pub wide_bits_above_kind : ℕ → ℕ
wide_bits_above_kind w = w / 2 ^ 57

abbrev pub wide_operation_word : ℕ → ℕ → Total → ℕ
wide_operation_word kind key t = kind * 2 ^ 49 + key * 2 ^ 33 + flagged_bits t

unfoldable pub wide_operation_allowed : ℕ → Bool
wide_operation_allowed w =
    eqb (wide_bits_above_kind w) 0 && is_kind (wide_kind_bits w) && is_live_key (wide_operation_key w) && is_wide_total (flagged_in w)
    && (takes_amount (wide_kind_bits w) || is_nothing (flagged_in w))

-- "A wide answer is code × 2^33 + flag × 2^32 + total."
abbrev pub wide_answer_code : ℕ → ℕ
wide_answer_code w = w / 2 ^ 33

abbrev pub wide_packed_answer : ℕ → Total → ℕ
wide_packed_answer code t = code * 2 ^ 33 + flagged_bits t

abbrev pub wide_width : Width
wide_width =
    record {
      ceiling = wide_ceiling;
      is_total = is_wide_total;
      key_of = wide_key_of;
      total_in = flagged_in;
      cell_word = wide_cell_word;
      cell_allowed = wide_cell_allowed;
      kind_bits = wide_kind_bits;
      operation_key = wide_operation_key;
      amount_in = flagged_in;
      operation_word = wide_operation_word;
      operation_allowed = wide_operation_allowed;
      answer_code = wide_answer_code;
      answer_total = flagged_in;
      packed_answer = wide_packed_answer;
    }
