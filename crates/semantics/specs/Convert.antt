-- Must be believed: what `widen` and `narrow` promise rests on it.
-- Document 02, "A5": old run files to wide ones and back. A file is the list of its records, whose totals and amounts are the same at both
-- widths; converting takes each record of a file in turn and writes it in the layout of the other width.
-- Assumes nothing.
use Rattle.std.specs.Prelude.{◌≡◌, ℕ, ◌+◌, ◌-◌, Bool, true, false, cond, not, List, [], ◌∷◌, ◌++◌, map, eqb, leb, ltb, length, take, drop}
use Rattle.std.proofs.Math.Option.{Option, none, some}
use Rattle.semantics.specs.declared.Mark.{Mark}
use Rattle.semantics.specs.declared.Position.{Position}
use Rattle.semantics.specs.declared.Refusal.{Refusal}
use Rattle.semantics.specs.declared.Total.{Total}
use Rattle.semantics.specs.Refusals.{Condition, first_met}
use Rattle.semantics.specs.Records.{records}
use Rattle.semantics.specs.RunFile.{Layout, layout_of, row, mark_at, size_of, start, run_file, longest_file, file_conditions, file_refusal, Contents, contents}
use Rattle.semantics.specs.Text.{Handed, handed}
use Rattle.semantics.specs.Listing.{refusal_text}
use Rattle.semantics.specs.Widths.{width_of}

-- A record of a file, whatever its width: its mark, the bytes behind the mark, and the total or amount at its end if it has one.
pub record FileRecord : Type 0 where
  pub mark : Mark
  pub body : List ℕ
  pub total : Option Total

module _ (L : Layout) where
  module _ (file : List ℕ) where
    -- how many bytes of a record stand before its total
    abbrev pub head_of : ℕ → Mark → ℕ
    head_of at m = size_of L file at m - cond (row L m).holds_total L.total_size 0

    unfoldable pub record_of : ℕ → Mark → FileRecord
    record_of at m =
        record {
          mark = m;
          body = take (head_of at m - 2) (drop (at + 2) file);
          total = cond (row L m).holds_total (some (L.total_at file (at + head_of at m))) none;
        }

    unfoldable pub record_at : Position → FileRecord
    record_at p = record_of p.at (mark_at L file p.at)

    -- the records of a file, in order
    unfoldable pub file_records : List FileRecord
    file_records = map record_at (records (run_file L) file start)

  -- the bytes of a record, and of a file
  unfoldable pub total_bytes_of : Option Total → List ℕ
  total_bytes_of none = []
  total_bytes_of (some t) = L.total_bytes t

  unfoldable pub bytes_of : FileRecord → List ℕ
  bytes_of r = (row L r.mark).letters ++ (r.body ++ total_bytes_of r.total)

  unfoldable pub file_of : List FileRecord → List ℕ
  file_of [] = []
  file_of (r ∷ more) = bytes_of r ++ file_of more

-- The width of the file that is read is told by whether its totals have a flag: false converts up, and true down.
module _ (flagged : Bool) where
  abbrev pub source : Layout
  source = layout_of flagged

  abbrev pub target : Layout
  target = layout_of (not flagged)

  -- "Converting up keeps every record in order, a narrow 65,535 becoming flagged 65,535": a narrow total is read with its flag (`Narrow.narrow`)
  unfoldable pub converted : List ℕ → List ℕ
  converted file = file_of target (file_records source file)

-- "down refuses an unflagged total or amount of 65,535 or more, or a flagged one other than 65,535"
unfoldable pub is_unfit : Bool → Total → Bool
is_unfit false t = false
is_unfit true t = cond t.saturated (not (eqb t.amount 65535)) (leb 65535 t.amount)

unfoldable pub is_unfit_in : Bool → Option Total → Bool
is_unfit_in flagged none = false
is_unfit_in flagged (some t) = is_unfit flagged t

module _ (flagged : Bool) (file : List ℕ) where
  -- "with 13 at the first such record"
  unfoldable pub unfit_at : Position → Condition
  unfit_at p = record { number = 13; met = is_unfit_in flagged (record_at (source flagged) file p).total; place = p.at }

  -- "then each refuses a result above 65,535 bytes with 22 at 0"
  unfoldable pub result_too_long : Condition
  result_too_long = record { number = 22; met = ltb longest_file (length (converted flagged file)); place = 0 }

  -- "After the reader's own refusals", but 3, since a converter is lent no cells, rows or entries
  unfoldable pub conversion_conditions : List Condition
  conversion_conditions =
      file_conditions (source flagged) file ++ map unfit_at (records (run_file (source flagged)) file start) ++ (result_too_long ∷ [])

  unfoldable pub conversion_refusal : Refusal
  conversion_refusal = first_met conversion_conditions

  -- "then an output slice shorter than the result with 3 at 0 .. returns how many it wrote, and bytes past those keep what they held" (`Text.handed`)
  unfoldable pub conversion_if : Bool → List ℕ → Handed
  conversion_if true out = handed (converted flagged file) out
  conversion_if false out =
      record { written = record { number = conversion_refusal.number; place = conversion_refusal.place; length = 0 }; out = out }

  unfoldable pub conversion : List ℕ → Handed
  conversion out = conversion_if (eqb conversion_refusal.number 0) out

  -- what a program that converts standard input writes: the result, or the line of the refusal
  unfoldable pub conversion_text : List ℕ
  conversion_text =
      cond (eqb conversion_refusal.number 0) (converted flagged file) (refusal_text conversion_refusal.number conversion_refusal.place)

-- the word of a cell and of an operation at the other width, field by field
module _ (flagged : Bool) where
  abbrev pub other_cell : ℕ → ℕ
  other_cell w = (width_of (not flagged)).cell_word ((width_of flagged).key_of w) ((width_of flagged).total_in w)

  abbrev pub other_operation : ℕ → ℕ
  other_operation w =
      (width_of (not flagged)).operation_word ((width_of flagged).kind_bits w) ((width_of flagged).operation_key w) ((width_of flagged).amount_in w)

  abbrev pub other_contents : Contents → Contents
  other_contents h =
      record { cells = map other_cell h.cells; operations = map other_operation h.operations; schedule = h.schedule }

-- What is promised of a file that is converted: the reader of the other width takes the result and finds the same records in it, and in its cells,
-- rows and entries the same keys, totals and numbers; and "Converting down gives back the same file if it came from one", as converting up does.
pub record Faithful (flagged : Bool) (file : List ℕ) : Type 0 where
  pub accepted : (file_refusal (target flagged) (converted flagged file)).number ≡ 0
  pub same-records : file_records (target flagged) (converted flagged file) ≡ file_records (source flagged) file
  pub same-contents : contents (target flagged) (converted flagged file) ≡ other_contents flagged (contents (source flagged) file)
  pub back-accepted : (conversion_refusal (not flagged) (converted flagged file)).number ≡ 0
  pub back : converted (not flagged) (converted flagged file) ≡ file
