-- Must be believed: what `run` and `report` promise rests on it.
-- Document 01, "Cells, rows, schedule": packed words of any width, table sizes and the home of a key. A width is a record of layouts; words meet
-- the rules of the other files through `decode` and `encode`, which proofs/Words.antt shows to be inverse on the words that the checks
-- accept. Narrow.antt has the width of document 01, Wide.antt that of document 02.
-- Assumes nothing.
use Rattle.std.specs.Prelude.{ℕ, zero, suc, ◌*◌, ◌/◌, ◌%◌, ◌^◌, Bool, false, cond, ◌&&◌, ◌||◌, eqb, ltb}
use Rattle.std.proofs.Math.Option.{Option, none, some}
use Rattle.semantics.specs.declared.Total.{Total}
use Rattle.semantics.specs.Totals.{plus_at, sum_at, same_total}
use Rattle.semantics.specs.Cells.{Setting, Cell, empty, tombstone, live, Kind, find, insert, update, add, remove, Operation, Answer, code_of, total_of}

-- whether c is one of n powers of two, 2^k the lowest
unfoldable pub is_power_from : ℕ → ℕ → ℕ → Bool
is_power_from k zero c = false
is_power_from k (suc n) c = eqb c (2 ^ k) || is_power_from (suc k) n c

-- "Their number c is a power of two .. to 4,096", from 1 on by document 02, "A2": "Refusals 1 and 11 now begin below 1 cell and below k = 0."
unfoldable pub size_allowed : ℕ → Bool
size_allowed c = is_power_from 0 13 c

-- "Home of a key: (key × 40,503) mod 65,536, divided by (65,536 / c), rounded down."
abbrev pub hash_of : ℕ → ℕ
hash_of k = k * 40503 % 65536

unfoldable pub home_in : ℕ → ℕ → ℕ
home_in c k = hash_of k / (65536 / c)

-- The hash of a key scaled to c. For an allowed c it is the home; code computes it with no division by a number that is handed in, and it says
-- what a c gets for which the document gives no home.
unfoldable pub scaled_home : ℕ → ℕ → ℕ
scaled_home c k = hash_of k * c / 65536

-- the setting of a table of c cells whose totals are held at a ceiling
abbrev pub setting_at : ℕ → ℕ → Setting
setting_at ceiling c =
    record {
      Total = Total;
      saturated = λ t. t.saturated;
      plus = plus_at ceiling;
      same = same_total;
      sum = sum_at ceiling;
      size = c;
      home = home_in c;
    }

-- "Keys 1 to 65,534 are live." Key 0 is an empty cell's, and key 65,535 a tombstone's.
unfoldable pub is_live_key : ℕ → Bool
is_live_key k = ltb 0 k && ltb k 65535

abbrev pub tombstone_key : ℕ
tombstone_key = 65535

-- total 0
abbrev pub nothing : Total
nothing = record { amount = 0; saturated = false }

-- "The kind is 1 find, 2 insert, 3 update, 4 add, 5 remove." Any other number is refused (refusal 5), so it
-- does not matter that it stands for the last.
unfoldable pub kind_of : ℕ → Kind
kind_of n = cond (eqb n 1) find (cond (eqb n 2) insert (cond (eqb n 3) update (cond (eqb n 4) add remove)))

unfoldable pub kind_number : Kind → ℕ
kind_number find = 1
kind_number insert = 2
kind_number update = 3
kind_number add = 4
kind_number remove = 5

unfoldable pub is_kind : ℕ → Bool
is_kind n = ltb 0 n && ltb n 6

-- "The amount .. is 0 for find and remove."
unfoldable pub takes_amount : ℕ → Bool
takes_amount n = eqb n 2 || eqb n 3 || eqb n 4

-- All that differs between widths: the ceiling and the totals under it; and of a cell, an operation and an answer where their fields lie in a
-- word, how a word is packed of them, and which words are allowed.
pub record Width : Type 0 where
  pub ceiling : ℕ
  pub is_total : Total → Bool
  pub key_of : ℕ → ℕ
  pub total_in : ℕ → Total
  pub cell_word : ℕ → Total → ℕ
  pub cell_allowed : ℕ → Bool
  pub kind_bits : ℕ → ℕ
  pub operation_key : ℕ → ℕ
  pub amount_in : ℕ → Total
  pub operation_word : ℕ → ℕ → Total → ℕ
  pub operation_allowed : ℕ → Bool
  pub answer_code : ℕ → ℕ
  pub answer_total : ℕ → Total
  pub packed_answer : ℕ → Total → ℕ

-- the cell of a key and a total: "Word 0 is an empty cell. Key 65,535 with total 0 is a tombstone" (another total under those keys is refused,
-- refusal 4, so it does not matter that their cell is the same)
unfoldable pub cell_from : ℕ → Total → Cell Total
cell_from k t = cond (is_live_key k) (live k t) (cond (eqb k 0) empty tombstone)

-- "Codes 0, 2, 6 and 7 carry total 0."
unfoldable pub carried : Option Total → Total
carried none = nothing
carried (some t) = t

module _ (W : Width) where
  -- the cell that a word is, and the word of a cell
  unfoldable pub decode : ℕ → Cell Total
  decode w = cell_from (W.key_of w) (W.total_in w)

  unfoldable pub encode : Cell Total → ℕ
  encode empty = 0
  encode tombstone = W.cell_word tombstone_key nothing
  encode (live k t) = W.cell_word k t

  -- the same of an operation
  unfoldable pub decode_operation : ℕ → Operation Total
  decode_operation w = record { kind = kind_of (W.kind_bits w); key = W.operation_key w; amount = W.amount_in w }

  unfoldable pub encode_operation : Operation Total → ℕ
  encode_operation o = W.operation_word (kind_number o.kind) o.key o.amount

  -- the word of an answer, 0 while there is none
  unfoldable pub answer_word : Option (Answer Total) → ℕ
  answer_word none = 0
  answer_word (some a) = W.packed_answer (code_of a) (carried (total_of a))

  -- the setting of a table of c cells
  abbrev pub setting_of : ℕ → Setting
  setting_of c = setting_at W.ceiling c
