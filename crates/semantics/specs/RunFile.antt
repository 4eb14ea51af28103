-- Must be believed: what `load` and `report` promise rests on it.
-- Document 01, "The run file": marks, bodies and order of the records, the reader's refusals, and what it writes, for every call. What a mark
-- stands for is a row of one table, `row`; what differs between the files of two widths is a `Layout`.
-- Assumes nothing.
use Rattle.std.specs.Prelude.{ℕ, ◌+◌, ◌*◌, ◌/◌, ◌%◌, ◌^◌, Bool, true, false, cond, not, ◌&&◌, ◌||◌, eqb, ltb, leb, length, get_or, set, take, drop, replicate}
use mathlib.Core.List.{List, [], ◌∷◌, ◌++◌, foldl}
use Rattle.semantics.specs.declared.Refusal.{Refusal}
use Rattle.semantics.specs.declared.Mark.{Mark}
use Rattle.semantics.specs.declared.Mark.TheVariants.{Table, Cell, Operation, Schedule, Unknown}
use Rattle.semantics.specs.declared.Position.{Position}
use Rattle.semantics.specs.declared.Judged.{Judged}
use Rattle.semantics.specs.declared.Loaded.{Loaded}
use Rattle.semantics.specs.declared.Total.{Total}
use Rattle.semantics.specs.Words.{size_allowed}
use Rattle.semantics.specs.Narrow.{narrow, cell_word, operation_word}
use Rattle.semantics.specs.Wide.{wide_cell_word, wide_operation_word}
use Rattle.semantics.specs.Refusals.{Condition, first_met, most_operations, most_entries}
use Rattle.semantics.specs.Run.{over}
use Rattle.semantics.specs.Text.{text}
use Rattle.semantics.specs.Records.{Format, fault_at, records, record_conditions}

-- "Numbers of several bytes have the high byte first."
abbrev pub byte_at : List ℕ → ℕ → ℕ
byte_at file i = get_or file i 0

abbrev pub pair_at : List ℕ → ℕ → ℕ
pair_at file i = byte_at file i * 256 + byte_at file (i + 1)

-- and written
abbrev pub pair_bytes : ℕ → List ℕ
pair_bytes n = n / 256 % 256 ∷ n % 256 ∷ []

-- What differs between the files of two widths: the letters of the table's mark; how many bytes a total or an amount has, whether those at an
-- offset are none, which is 11, the total that they are, and the bytes of a total; the words of a cell and of an operation whose total or
-- amount stands at an offset.
pub record Layout : Type 0 where
  pub table_letters : List ℕ
  pub total_size : ℕ
  pub is_total_wrong : List ℕ → ℕ → Bool
  pub total_at : List ℕ → ℕ → Total
  pub total_bytes : Total → List ℕ
  pub cell_with : ℕ → List ℕ → ℕ → ℕ
  pub operation_with : ℕ → ℕ → List ℕ → ℕ → ℕ

-- "CL: cell number, key, total, two bytes each."; "OP: kind (one byte), key, amount (two bytes each)."
abbrev pub narrow_file : Layout
narrow_file =
    record {
      table_letters = text "TB";
      total_size = 2;
      is_total_wrong = λ file at. false;
      total_at = λ file at. narrow (pair_at file at);
      total_bytes = λ t. pair_bytes t.amount;
      cell_with = λ key file at. cell_word key (pair_at file at);
      operation_with = λ kind key file at. operation_word kind key (pair_at file at);
    }

-- document 02, "A4": "totals and amounts become a flag byte, 0 or 1, then four bytes"
abbrev pub flagged_at : List ℕ → ℕ → Total
flagged_at file at = record { amount = pair_at file (at + 1) * 65536 + pair_at file (at + 3); saturated = eqb (byte_at file at) 1 }

abbrev pub flagged_bytes : Total → List ℕ
flagged_bytes t = cond t.saturated 1 0 ∷ (pair_bytes (t.amount / 65536) ++ pair_bytes t.amount)

-- "Wide files begin with TW for TB"; "another flag byte with 11"
abbrev pub wide_file : Layout
wide_file =
    record {
      table_letters = text "TW";
      total_size = 5;
      is_total_wrong = λ file at. ltb 1 (byte_at file at);
      total_at = flagged_at;
      total_bytes = flagged_bytes;
      cell_with = λ key file at. wide_cell_word key (flagged_at file at);
      operation_with = λ kind key file at. wide_operation_word kind key (flagged_at file at);
    }

-- the layout of a width, which is told by whether its totals have a flag
abbrev pub layout_of : Bool → Layout
layout_of true = wide_file
layout_of false = narrow_file

-- what a file holds
pub record Contents : Type 0 where
  pub cells : List ℕ
  pub operations : List ℕ
  pub schedule : List ℕ

-- "fills lent slices for at least 4,096 cells"
abbrev pub most_cells : ℕ
most_cells = 4096

-- "file over 65,535 bytes" is refused
abbrev pub longest_file : ℕ
longest_file = 65535

-- where the first record stands: at offset 0, with nothing read
abbrev pub start : Position
start = record { at = 0; part = 0; size = 0; lowest = 0; operations = 0; entries = 0 }

-- what is carried to a record, with another number of cells, lowest cell number that may follow, number of rows and of entries
abbrev pub counting : Position → ℕ → ℕ → ℕ → ℕ → Position
counting p size lowest operations entries =
    record { at = p.at; part = p.part; size = size; lowest = lowest; operations = operations; entries = entries }

-- A row of the table of marks: the letters of the mark; its part of the file, 0 for no mark; how many bytes its records have, whether the
-- byte behind the mark counts others that follow, and whether the last ones are a total or an amount; whether a body is wrong, which is 11; whether the record is one too many, which is 2; what is
-- carried past it; and what the record at an offset adds to what was read.
pub record Form : Type 0 where
  pub letters : List ℕ
  pub part : ℕ
  pub size : ℕ
  pub counted : Bool
  pub holds_total : Bool
  pub is_wrong : List ℕ → Position → Bool
  pub is_too_many : List ℕ → Position → Bool
  pub carried : List ℕ → Position → Position
  pub added : List ℕ → ℕ → Contents → Contents

module _ (L : Layout) where
  -- what the bodies at an offset hold, as the words of a width
  abbrev pub cell_word_at : List ℕ → ℕ → ℕ
  cell_word_at file at = L.cell_with (pair_at file (at + 4)) file (at + 6)

  abbrev pub operation_word_at : List ℕ → ℕ → ℕ
  operation_word_at file at = L.operation_with (byte_at file (at + 2)) (pair_at file (at + 3)) file (at + 5)

-- "then that many row numbers"
abbrev pub entries_at : List ℕ → ℕ → List ℕ
entries_at file at = take (byte_at file (at + 2)) (drop (at + 3) file)

-- The table of marks. "Order: one TB, then CL records, OP records, SC records, any of the last three none."
abbrev pub row : Layout → Mark → Form
-- "TB: one byte k, 3 to 12; c is 2^k." A k is judged by the sizes that a table may have, and so begins at 0 by document 02, "A2". "Cells not
-- named are empty."
row L Table =
    record {
      letters = L.table_letters;
      part = 1;
      size = 3;
      counted = false;
      holds_total = false;
      is_wrong = λ file p. not (size_allowed (2 ^ byte_at file (p.at + 2)));
      is_too_many = λ file p. false;
      carried = λ file p. counting p (2 ^ byte_at file (p.at + 2)) p.lowest p.operations p.entries;
      added = λ file at h.
          record { cells = replicate (2 ^ byte_at file (at + 2)) 0; operations = h.operations; schedule = h.schedule };
    }
-- "CL: cell number, key, total, two bytes each. Cell numbers ascend, none twice, and are below c; the key is not 0."
row L Cell =
    record {
      letters = text "CL";
      part = 2;
      size = L.total_size + 6;
      counted = false;
      holds_total = true;
      is_wrong = λ file p.
          L.is_total_wrong file (p.at + 6) || ltb (pair_at file (p.at + 2)) p.lowest || leb p.size (pair_at file (p.at + 2))
          || eqb (pair_at file (p.at + 4)) 0;
      is_too_many = λ file p. false;
      carried = λ file p. counting p p.size (pair_at file (p.at + 2) + 1) p.operations p.entries;
      added = λ file at h.
          record {
            cells = set h.cells (pair_at file (at + 2)) (cell_word_at L file at);
            operations = h.operations;
            schedule = h.schedule;
          };
    }
-- "OP: kind (one byte), key, amount (two bytes each)." 2: "the 65th row"
row L Operation =
    record {
      letters = text "OP";
      part = 3;
      size = L.total_size + 5;
      counted = false;
      holds_total = true;
      is_wrong = λ file p. L.is_total_wrong file (p.at + 5);
      is_too_many = λ file p. leb most_operations p.operations;
      carried = λ file p. counting p p.size p.lowest (p.operations + 1) p.entries;
      added = λ file at h.
          record {
            cells = h.cells;
            operations = h.operations ++ (operation_word_at L file at ∷ []);
            schedule = h.schedule;
          };
    }
-- "SC: count (one byte, 1 to 255), then that many row numbers." 2: "or more than 16,384 entries"
row L Schedule =
    record {
      letters = text "SC";
      part = 4;
      size = 3;
      counted = true;
      holds_total = false;
      is_wrong = λ file p. eqb (byte_at file (p.at + 2)) 0;
      is_too_many = λ file p. ltb most_entries (p.entries + byte_at file (p.at + 2));
      carried = λ file p. counting p p.size p.lowest p.operations (p.entries + byte_at file (p.at + 2));
      added = λ file at h.
          record { cells = h.cells; operations = h.operations; schedule = h.schedule ++ entries_at file at };
    }
-- no mark: it belongs to no part, and so may follow nothing
row L Unknown =
    record {
      letters = [];
      part = 0;
      size = 2;
      counted = false;
      holds_total = false;
      is_wrong = λ file p. false;
      is_too_many = λ file p. false;
      carried = λ file p. p;
      added = λ file at h. h;
    }

-- "Every record opens with a mark of two letters."
unfoldable pub has_mark : List ℕ → ℕ → List ℕ → Bool
has_mark file at mark = eqb (byte_at file at) (byte_at mark 0) && eqb (byte_at file (at + 1)) (byte_at mark 1)

-- the first of some marks whose letters stand at an offset
unfoldable pub mark_in : Layout → List Mark → List ℕ → ℕ → Mark
mark_in L [] file at = Unknown
mark_in L (m ∷ more) file at = cond (has_mark file at (row L m).letters) m (mark_in L more file at)

unfoldable pub mark_at : Layout → List ℕ → ℕ → Mark
mark_at L file at = mark_in L (Table ∷ Cell ∷ Operation ∷ Schedule ∷ []) file at

-- whether a record of a part may follow one of the part before, which is 0 before the first
unfoldable pub may_follow : ℕ → ℕ → Bool
may_follow before part = cond (eqb before 0) (eqb part 1) (ltb 1 part && leb before part)

module _ (L : Layout) (file : List ℕ) where
  -- how many bytes the record at an offset has
  abbrev pub size_of : ℕ → Mark → ℕ
  size_of at m = cond (row L m).counted (byte_at file (at + 2) + (row L m).size) (row L m).size

  -- the position past a record, with what is carried there
  unfoldable pub past : Position → Mark → Position
  past p m =
      let q = (row L m).carried file p in
      record {
        at = p.at + size_of p.at m;
        part = (row L m).part;
        size = q.size;
        lowest = q.lowest;
        operations = q.operations;
        entries = q.entries;
      }

  -- "reader, each record", in table order. 10: "empty file, or fewer than two bytes of a mark"
  unfoldable pub mark_cut : Position → Condition
  mark_cut p = record { number = 10; met = ltb (length file) (p.at + 2); place = p.at }

  -- then what turns a record with a whole mark away
  module _ (p : Position) (m : Mark) where
    -- 9: "unknown mark, or mark out of order"
    unfoldable pub mark_wrong : Condition
    mark_wrong = record { number = 9; met = not (may_follow p.part (row L m).part); place = p.at }

    -- 10: "body incomplete"
    unfoldable pub body_cut : Condition
    body_cut = record { number = 10; met = ltb (length file) (p.at + size_of p.at m); place = p.at }

    -- 11: "TB, CL or SC body not as above"
    unfoldable pub body_wrong : Condition
    body_wrong = record { number = 11; met = (row L m).is_wrong file p; place = p.at }

    -- 2: "the 65th row, or more than 16,384 entries"
    unfoldable pub one_too_many : Condition
    one_too_many = record { number = 2; met = (row L m).is_too_many file p; place = p.at }

    abbrev pub conditions_of : List Condition
    conditions_of = mark_wrong ∷ body_cut ∷ body_wrong ∷ one_too_many ∷ []

  module _ (p : Position) where
    unfoldable pub conditions_at : List Condition
    conditions_at = mark_cut p ∷ conditions_of p (mark_at L file p.at)

    unfoldable pub next_of : Position
    next_of = past p (mark_at L file p.at)

abbrev pub run_file : Layout → Format
run_file L = record { Place = Position; offset = λ p. p.at; conditions = conditions_at L; next = next_of L }

-- what a scan makes of the record at a position, whatever the position: it is judged, and passed unless it is turned away
unfoldable pub judged : Layout → List ℕ → Position → Judged
judged L file p =
    let number = fault_at (run_file L) file p in
    record { number = number; next = cond (eqb number 0) (next_of L file p) p }

-- The reader's refusals. Those of the slices, whose lengths are given: 3: "a lent slice too short"
module _ (cells operations schedule : ℕ) where
  unfoldable pub slice_too_short : Condition
  slice_too_short =
      record { number = 3; met = ltb cells most_cells || ltb operations most_operations || ltb schedule most_entries; place = 0 }

  abbrev pub slice_conditions : List Condition
  slice_conditions = slice_too_short ∷ []

-- those of the file, whatever is done with it: 12: "file over 65,535 bytes", then the records'
unfoldable pub file_too_long : List ℕ → Condition
file_too_long file = record { number = 12; met = ltb longest_file (length file); place = 0 }

module _ (L : Layout) (file : List ℕ) where
  unfoldable pub file_conditions : List Condition
  file_conditions = file_too_long file ∷ record_conditions (run_file L) file (records (run_file L) file start)

  unfoldable pub file_refusal : Refusal
  file_refusal = first_met file_conditions

  unfoldable pub reader_refusal : ℕ → ℕ → ℕ → Refusal
  reader_refusal cells operations schedule = first_met (slice_conditions cells operations schedule ++ file_conditions)

  -- what has come of the records before p, and then of the one there too
  unfoldable pub load : Contents → Position → Contents
  load h p = (row L (mark_at L file p.at)).added file p.at h

  unfoldable pub contents : Contents
  contents = foldl load (record { cells = []; operations = []; schedule = [] }) (records (run_file L) file start)

-- what the reader leaves: the returned record, and each lent slice
pub record Reading : Type 0 where
  pub loaded : Loaded
  pub cells : List ℕ
  pub operations : List ℕ
  pub schedule : List ℕ

-- "returns how many of each it wrote; elements past those keep their contents"
unfoldable pub accepted_reading : Contents → List ℕ → List ℕ → List ℕ → Reading
accepted_reading h cells operations schedule =
    record {
      loaded =
          record { number = 0; place = 0; cells = length h.cells; operations = length h.operations; entries = length h.schedule };
      cells = over h.cells cells;
      operations = over h.operations operations;
      schedule = over h.schedule schedule;
    }

-- "all counts are 0 and nothing lent is altered"
unfoldable pub refused_reading : Refusal → List ℕ → List ℕ → List ℕ → Reading
refused_reading r cells operations schedule =
    record {
      loaded = record { number = r.number; place = r.place; cells = 0; operations = 0; entries = 0 };
      cells = cells;
      operations = operations;
      schedule = schedule;
    }

unfoldable pub reading : Layout → List ℕ → List ℕ → List ℕ → List ℕ → Reading
reading L file cells operations schedule =
    let refusal : Refusal = reader_refusal L file (length cells) (length operations) (length schedule) in
    cond (eqb refusal.number 0) (accepted_reading (contents L file) cells operations schedule) (refused_reading refusal cells operations schedule)
