-- Must be believed: what `run` and `report` promise rests on it.
-- Document 01, "Cells, rows, schedule": the layouts of the narrow width, whose totals have sixteen bits.
-- Assumes nothing.
use Rattle.std.specs.Prelude.{ℕ, ◌+◌, ◌*◌, ◌/◌, ◌%◌, ◌^◌, Bool, cond, ◌&&◌, ◌||◌, eqb, leb}
use Rattle.std.specs.Bool.{beq}
use Rattle.semantics.specs.declared.Total.{Total}
use Rattle.semantics.specs.Totals.{plus_at, caps_at}
use Rattle.semantics.specs.Words.{size_allowed, home_in, is_live_key, tombstone_key, is_kind, takes_amount, Width}

-- "Total 65,535 is pinned": the narrow total has ceiling 65,535, and is saturated exactly where it equals that
abbrev pub narrow_ceiling : ℕ
narrow_ceiling = 65535

unfoldable pub narrow : ℕ → Total
narrow n = record { amount = n; saturated = eqb n narrow_ceiling }

unfoldable pub is_narrow_total : Total → Bool
is_narrow_total t = leb t.amount narrow_ceiling && beq t.saturated (eqb t.amount narrow_ceiling)

-- sixteen bits above sixteen: the layout of a cell and of an answer
abbrev pub upper_half : ℕ → ℕ
upper_half w = w / 65536

abbrev pub lower_half : ℕ → ℕ
lower_half w = w % 65536

abbrev pub joined : ℕ → ℕ → ℕ
joined upper lower = upper * 65536 + lower

-- "The key is the upper sixteen bits of the word, the total the lower sixteen."
abbrev pub key_of : ℕ → ℕ
key_of w = upper_half w

abbrev pub total_bits : ℕ → ℕ
total_bits w = lower_half w

abbrev pub cell_word : ℕ → ℕ → ℕ
cell_word key total = joined key total

unfoldable pub tombstone_word : ℕ
tombstone_word = cell_word tombstone_key 0

-- "Word 0 is an empty cell. Key 65,535 with total 0 is a tombstone": a word with another total under those keys is no cell (refusal 4)
unfoldable pub cell_allowed : ℕ → Bool
cell_allowed w = is_live_key (key_of w) || eqb w 0 || eqb w tombstone_word

-- "A row is one operation in a 64-bit word: kind × 2^32 + key × 65,536 + amount. The kind takes eight bits."
abbrev pub kind_bits : ℕ → ℕ
kind_bits w = w / 2 ^ 32 % 256

abbrev pub bits_above_kind : ℕ → ℕ
bits_above_kind w = w / 2 ^ 40

abbrev pub operation_key : ℕ → ℕ
operation_key w = w / 65536 % 65536

abbrev pub amount_bits : ℕ → ℕ
amount_bits w = w % 65536

abbrev pub operation_word : ℕ → ℕ → ℕ → ℕ
operation_word kind key amount = kind * 2 ^ 32 + key * 65536 + amount

-- "The key is live. The amount may be 0 to 65,535, and is 0 for find and remove."
unfoldable pub operation_allowed : ℕ → Bool
operation_allowed w =
    eqb (bits_above_kind w) 0 && is_kind (kind_bits w) && is_live_key (operation_key w)
    && (takes_amount (kind_bits w) || eqb (amount_bits w) 0)

-- "Answers are 32-bit: code × 65,536 + total."
abbrev pub answer_code : ℕ → ℕ
answer_code w = upper_half w

abbrev pub answer_total : ℕ → ℕ
answer_total w = lower_half w

abbrev pub packed_answer : ℕ → ℕ → ℕ
packed_answer code total = joined code total

abbrev pub narrow_width : Width
narrow_width =
    record {
      ceiling = narrow_ceiling;
      is_total = is_narrow_total;
      key_of = key_of;
      total_in = λ w. narrow (total_bits w);
      cell_word = λ k t. cell_word k t.amount;
      cell_allowed = cell_allowed;
      kind_bits = kind_bits;
      operation_key = operation_key;
      amount_in = λ w. narrow (amount_bits w);
      operation_word = λ n k t. operation_word n k t.amount;
      operation_allowed = operation_allowed;
      answer_code = answer_code;
      answer_total = λ w. narrow (answer_total w);
      packed_answer = λ code t. packed_answer code t.amount;
    }

-- "The load module is C++ and calls two of these with plain numbers: the home of a key in c cells, giving 65,535 where c or the key is not
-- allowed, and the sum of two totals, which never fails."
unfoldable pub room_home : ℕ → ℕ → ℕ
room_home k c = cond (size_allowed c && is_live_key k) (home_in c k) 65535

-- and "the C++ caller gets 65,536 more" if a true first total became pinned (document 02, "A1")
unfoldable pub room_sum : ℕ → ℕ → ℕ
room_sum a b = let sum = (plus_at narrow_ceiling (narrow a) (narrow b)).amount in cond (caps_at narrow_ceiling (narrow a) (narrow b)) (sum + 65536) sum
