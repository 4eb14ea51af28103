-- Must be believed: what `report` promises rests on it.
-- Document 01, "A run in full": what the program writes for a file, whatever the file. "`roomrun` lists either width" (document 02, "A4").
-- Assumes nothing.
use Rattle.std.specs.Prelude.{ℕ, Bool, true, cond, List, eqb, replicate}
use Rattle.semantics.specs.declared.Refusal.{Refusal}
use Rattle.semantics.specs.Refusals.{most_operations, most_entries}
use Rattle.semantics.specs.declared.Total.{Total}
use Rattle.semantics.specs.Words.{Width}
use Rattle.semantics.specs.Run.{Result, run_result}
use Rattle.semantics.specs.RunFile.{Layout, Contents, layout_of, has_mark, contents, reader_refusal, most_cells}
use Rattle.semantics.specs.Listing.{listing, refusal_text}
use Rattle.semantics.specs.Widths.{width_of, text_of}

-- the run of what a file holds, with slices for 64 answers and 64 log bytes
unfoldable pub run_of : Width → Contents → Result
run_of W h = run_result W h.cells h.operations h.schedule (replicate most_operations 0) (replicate most_operations 0)

-- the text of a run of operations
unfoldable pub listed : Width → (Total → List ℕ) → List ℕ → Result → List ℕ
listed W total_text operations r = listing W total_text r.outcome operations r.answers r.log r.cells

-- The reader has slices for 4,096 cells, 64 rows and 16,384 entries. A file that it turns away, or a run that is, gives the line of the refusal.
unfoldable pub response_in : Bool → List ℕ → List ℕ
response_in wide file =
    let L : Layout = layout_of wide in
    let refusal : Refusal = reader_refusal L file most_cells most_operations most_entries in
    cond (eqb refusal.number 0) (listed (width_of wide) (text_of wide) (contents L file).operations (run_of (width_of wide) (contents L file)))
    (refusal_text refusal.number refusal.place)

-- "Wide files begin with TW for TB": any other file, also one that begins with neither, is read as a narrow one
unfoldable pub is_wide : List ℕ → Bool
is_wide file = has_mark file 0 (layout_of true).table_letters

unfoldable pub response : List ℕ → List ℕ
response file = response_in (is_wide file) file
