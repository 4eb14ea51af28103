-- An aid, not to be believed: what the definitions come to on examples, computed by the prover.
-- Document 01, "Worked in the room table": its starred cases, with document 02 where a request has moved one; then those of document 02, request
-- by request; then further ones: the rows of one list. proofs/Cases.antt covers them by one claim, that each holds; and it shows four runs
-- of which all that demand 3 asks is true.
-- Tables have 8 cells where no other number stands. Slices for answers and log are as long as the operations where no length stands, and
-- lent slices hold 9 before a call.
-- Assumes nothing.
use Rattle.std.specs.Prelude.{◌≡◌, ℕ, zero, suc, ◌+◌, ◌-◌, ◌^◌, ◌/◌, ◌%◌, Bool, true, false, cond, ◌&&◌, List, [], ◌∷◌, ◌++◌, T, eqb, length, set, replicate}
use Prim.Native.String.{String}
use Rattle.std.specs.Bool.{beq}
use Rattle.semantics.specs.declared.Total.{Total}
use Rattle.semantics.specs.Totals.{plus_at, caps_at, same_total}
use Rattle.semantics.specs.Words.{setting_of}
use Rattle.semantics.specs.Narrow.{narrow, narrow_ceiling}
use Rattle.semantics.specs.Wide.{wide_ceiling, wide_cell_word as wide_cell, wide_operation_word as wide_operation, wide_packed_answer as wide_answer}
use Rattle.semantics.specs.TotalsRule.{only_finds_and_adds, CellsSuffice}
use Rattle.semantics.specs.Narrow.{cell_word as cell, operation_word as operation, packed_answer as answer, room_home, room_sum}
use Rattle.semantics.specs.Run.{Result, run_result}
use Rattle.semantics.specs.Demands.{cells_of, operations_of}
use Rattle.semantics.specs.Text.{text, Handed}
use Rattle.semantics.specs.declared.Refusal.{Refusal}
use Rattle.semantics.specs.declared.Position.{Position}
use Rattle.semantics.specs.Records.{fault_at}
use Rattle.semantics.specs.RunFile.{Contents, Reading, layout_of, reading, reader_refusal, run_file, next_of}
use Rattle.semantics.specs.Widths.{width_of}
use Rattle.semantics.specs.Response.{response}
use Rattle.semantics.specs.Convert.{conversion, conversion_text}

-- c cells, empty but for those named by number, key and total
pub record Placed : Type 0 where
  pub number : ℕ
  pub word : ℕ

abbrev pub at : ℕ → ℕ → ℕ → Placed
at n k t = record { number = n; word = cell k t }

abbrev pub table : ℕ → List Placed → List ℕ
table c [] = replicate c 0
table c (p ∷ more) = set (table c more) p.number p.word

-- the same of the wide width, whose totals are true or pinned
abbrev pub plain : ℕ → Total
plain n = record { amount = n; saturated = false }

abbrev pub flagged : ℕ → Total
flagged n = record { amount = n; saturated = true }

abbrev pub wide_at : ℕ → ℕ → Total → Placed
wide_at n k t = record { number = n; word = wide_cell k t }

-- a list n times over
abbrev rounds : ℕ → List ℕ → List ℕ
rounds zero l = []
rounds (suc n) l = l ++ rounds n l

-- the records of a run file
abbrev pair : ℕ → List ℕ
pair n = n / 256 ∷ n % 256 ∷ []

abbrev pub table_record : ℕ → List ℕ
table_record k = text "TB" ++ (k ∷ [])

abbrev cell_record : ℕ → ℕ → ℕ → List ℕ
cell_record n k t = text "CL" ++ pair n ++ pair k ++ pair t

abbrev pub operation_record : ℕ → ℕ → ℕ → List ℕ
operation_record kind k amount = text "OP" ++ (kind ∷ []) ++ pair k ++ pair amount

abbrev pub schedule_record : List ℕ → List ℕ
schedule_record entries = text "SC" ++ (length entries ∷ entries)

-- what a run leaves
pub record Left : Type 0 where
  pub cells : List ℕ
  pub answers : List ℕ
  pub log : List ℕ
  pub done : ℕ
  pub lost : ℕ
  pub idle : ℕ

-- what a run is made of
abbrev pub job : List ℕ → List ℕ → List ℕ → Contents
job cells operations schedule = record { cells = cells; operations = operations; schedule = schedule }

abbrev left : List ℕ → List ℕ → List ℕ → ℕ → ℕ → ℕ → Left
left cells answers log done lost idle = record { cells = cells; answers = answers; log = log; done = done; lost = lost; idle = idle }

abbrev nothing : Contents
nothing = job [] [] []

-- at a width, which is told by whether its totals have a flag, with slices for so many answers and so many log bytes
unfoldable pub result_with : Bool → ℕ → ℕ → Contents → Result
result_with wide answers log j = run_result (width_of wide) j.cells j.operations j.schedule (replicate answers 9) (replicate log 9)

unfoldable pub result_of : Bool → Contents → Result
result_of wide j = result_with wide (length j.operations) (length j.operations) j

pub data Case : Type 0 where
  -- the home of a key in c cells
  home_is : ℕ → ℕ → ℕ → Case
  -- what the C++ caller gets for the sum of two totals, and whether the sum is saturated
  sum_is : ℕ → ℕ → ℕ → Bool → Case
  -- what a run leaves
  leaves : Contents → Left → Case
  -- the number and the place of a refusal of cells, with no operations
  refused : List ℕ → ℕ → ℕ → Case
  -- what is written for a file
  writes : List ℕ → List ℕ → Case
  -- what a run leaves in slices for so many answers and so many log bytes
  leaves_in : ℕ → ℕ → Contents → Left → Case
  -- the number and the place of a refusal of any call, whose slices have room for so many answers and so many log bytes
  turned_away : ℕ → ℕ → Contents → ℕ → ℕ → Case
  -- a call that is not refused, of cells and operations with no entries
  begins : List ℕ → List ℕ → Case
  -- what the reader makes of a file; its refusal, with slices for so many cells, operations and entries
  reads : List ℕ → Contents → Case
  unread : List ℕ → ℕ → ℕ → ℕ → ℕ → ℕ → Case
  -- the number and the place of a file's refusal alone, with slices as before; 0 and 0 where the file is read
  judged_in : ℕ → ℕ → ℕ → List ℕ → ℕ → ℕ → Case
  -- the number that turns away an SC record of n entries where so many came before it, and how many there are after it
  counted : ℕ → ℕ → ℕ → ℕ → Case
  -- the number that turns away the first record of some bytes where so many operations came before it
  after_rows : ℕ → List ℕ → ℕ → Case
  -- the sum of two wide totals, and whether a true first one became pinned
  sums_to : Total → Total → Total → Bool → Case
  -- what converting a file writes into a slice for so many bytes, and the number and the place of its refusal: a narrow file to a wide one, and of the
  -- wide width a wide one to a narrow one
  converts_in : ℕ → List ℕ → List ℕ → Case
  unconverted_in : ℕ → List ℕ → ℕ → ℕ → Case
  -- a narrow file and a wide one that are converted into each other, in a slice that is a byte longer
  exchanged : List ℕ → List ℕ → Case
  -- what a program that converts a file writes
  converted_text : List ℕ → List ℕ → Case
  -- any of these of the wide width
  in_wide : Case → Case

unfoldable pub same_list : List ℕ → List ℕ → Bool
same_list [] [] = true
same_list [] (y ∷ ys) = false
same_list (x ∷ xs) [] = false
same_list (x ∷ xs) (y ∷ ys) = eqb x y && same_list xs ys

unfoldable pub left_by : ℕ → ℕ → Left → Result → Bool
left_by number place l r =
    eqb number r.outcome.number && eqb place r.outcome.place
    && same_list l.cells r.cells && same_list l.answers r.answers && same_list l.log r.log
    && eqb l.done r.outcome.done && eqb l.lost r.outcome.lost && eqb l.idle r.outcome.idle

-- a reader's result: its number and place, how many of each it wrote, and each slice
unfoldable pub read_by : ℕ → ℕ → Contents → Contents → Reading → Bool
read_by number place written h r =
    eqb number r.loaded.number && eqb place r.loaded.place && eqb (length written.cells) r.loaded.cells
    && eqb (length written.operations) r.loaded.operations && eqb (length written.schedule) r.loaded.entries
    && same_list h.cells r.cells && same_list h.operations r.operations && same_list h.schedule r.schedule

unfoldable pub refused_by : ℕ → ℕ → Refusal → Bool
refused_by number place r = eqb number r.number && eqb place r.place

-- n elements of a lent slice, with some written over its front
unfoldable pub lent : ℕ → List ℕ → List ℕ
lent n written = written ++ replicate (n - length written) 9

unfoldable pub lent_as : ℕ → ℕ → ℕ → Contents → Contents
lent_as cells operations entries h =
    job (lent cells h.cells) (lent operations h.operations) (lent entries h.schedule)

unfoldable pub reading_of : Bool → List ℕ → Contents → Reading
reading_of wide file slices = reading (layout_of wide) file slices.cells slices.operations slices.schedule

-- what a call that writes bytes leaves: its number and place, how many it wrote, and the slice
unfoldable pub handed_by : ℕ → ℕ → List ℕ → List ℕ → Handed → Bool
handed_by number place bytes out h =
    eqb number h.written.number && eqb place h.written.place && eqb (length bytes) h.written.length && same_list out h.out

unfoldable pub converts_by : Bool → ℕ → List ℕ → List ℕ → Bool
converts_by wide n file result = handed_by 0 0 result (lent n result) (conversion wide file (lent n []))

unfoldable pub holds_at : Bool → Case → Bool
holds_at wide (home_is k c h) = eqb (room_home k c) h
holds_at wide (sum_is a b s p) = eqb (room_sum a b) s && beq (plus_at narrow_ceiling (narrow a) (narrow b)).saturated p
holds_at wide (leaves j l) = left_by 0 0 l (result_of wide j)
holds_at wide (refused cells number place) = left_by number place (left cells [] [] 0 0 0) (result_of wide (job cells [] []))
holds_at wide (writes file expected) = same_list (response file) expected
holds_at wide (leaves_in answers log j l) = left_by 0 0 l (result_with wide answers log j)
-- "all counts are 0 and nothing lent is altered"
holds_at wide (turned_away answers log j number place) =
    left_by number place (left j.cells (replicate answers 9) (replicate log 9) 0 0 0) (result_with wide answers log j)
-- "Rows without entries: all answers written as 0, no cell or log byte altered."
holds_at wide (begins cells operations) =
    left_by 0 0 (left cells (replicate (length operations) 0) (replicate (length operations) 9) 0 0 0) (result_of wide (job cells operations []))
holds_at wide (reads file h) = read_by 0 0 h (lent_as 4096 64 16384 h) (reading_of wide file (lent_as 4096 64 16384 nothing))
holds_at wide (unread file cells operations entries number place) =
    read_by number place nothing (lent_as cells operations entries nothing) (reading_of wide file (lent_as cells operations entries nothing))
holds_at wide (judged_in cells operations entries file number place) =
    refused_by number place (reader_refusal (layout_of wide) file cells operations entries)
holds_at wide (counted before n number after) =
    let file = schedule_record (replicate n 0) in
    let p : Position = record { at = 0; part = 4; size = 8; lowest = 0; operations = 1; entries = before } in
    eqb number (fault_at (run_file (layout_of wide)) file p) && eqb after (next_of (layout_of wide) file p).entries
holds_at wide (after_rows before file number) =
    eqb number (fault_at (run_file (layout_of wide)) file (record { at = 0; part = 3; size = 8; lowest = 0; operations = before; entries = 0 }))
holds_at wide (sums_to a b s c) = same_total (plus_at wide_ceiling a b) s && beq (caps_at wide_ceiling a b) c
-- "bytes past those keep what they held"
holds_at wide (converts_in n file result) = converts_by wide n file result
holds_at wide (unconverted_in n file number place) = handed_by number place [] (lent n []) (conversion wide file (lent n []))
holds_at wide (exchanged a b) = converts_by false (length b + 1) a b && converts_by true (length a + 1) b a
holds_at wide (converted_text file bytes) = same_list (conversion_text wide file) bytes
holds_at wide (in_wide x) = holds_at true x

unfoldable pub holds : Case → Bool
holds = holds_at false

-- files: how they are judged with slices just long enough, and the lines that are written for them
abbrev judged : List ℕ → ℕ → ℕ → Case
judged file = judged_in 4096 64 16384 file

abbrev says : List ℕ → String → Case
says file lines = writes file (text lines)

-- "A run in full": OP records of kind 4 and the rows of the one SC record
unfoldable pub in_full : Contents
in_full =
    job (table 8 []) (operation 4 1 40 ∷ operation 4 9 25 ∷ operation 4 1 65500 ∷ []) (0 ∷ 1 ∷ 2 ∷ 0 ∷ 1 ∷ 2 ∷ 1 ∷ 1 ∷ 2 ∷ 2 ∷ 1 ∷ 0 ∷ [])

-- "Input, in hexadecimal"
unfoldable pub in_full_file : List ℕ
in_full_file =
    (0x54 ∷ 0x42 ∷ 0x03 ∷ [])
    ++ (0x4F ∷ 0x50 ∷ 0x04 ∷ 0x00 ∷ 0x01 ∷ 0x00 ∷ 0x28 ∷ [])
    ++ (0x4F ∷ 0x50 ∷ 0x04 ∷ 0x00 ∷ 0x09 ∷ 0x00 ∷ 0x19 ∷ [])
    ++ (0x4F ∷ 0x50 ∷ 0x04 ∷ 0x00 ∷ 0x01 ∷ 0xFF ∷ 0xDC ∷ [])
    ++ (0x53 ∷ 0x43 ∷ 0x0C ∷ 0x00 ∷ 0x01 ∷ 0x02 ∷ 0x00 ∷ 0x01 ∷ 0x02 ∷ 0x01 ∷ 0x01 ∷ 0x02 ∷ 0x02 ∷ 0x01 ∷ 0x00 ∷ [])

-- "It writes exactly"; "In the run in full, row 2 now ends `capped 40`." (document 02, "A1")
unfoldable pub in_full_text : List ℕ
in_full_text =
    text "rows 3 done 3 lost 2 idle 1\n"
    ++ text "row 0 add 1 40 inserted 0\n"
    ++ text "row 1 add 9 25 inserted 0\n"
    ++ text "row 2 add 1 65500 capped 40\n"
    ++ text "log 0 2 1\n"
    ++ text "cell 4 1 pinned\n"
    ++ text "cell 5 9 25\n"

-- the fourth case and a refused one as files: "a tombstone as `cell 4 gone`", "A refusal is one line, `refused 8 at 5`"
unfoldable pub gone_file : List ℕ
gone_file =
    table_record 3 ++ cell_record 4 1 40 ++ cell_record 5 9 25 ++ operation_record 5 1 0 ++ operation_record 2 9 7
    ++ schedule_record (0 ∷ 0 ∷ 1 ∷ 1 ∷ [])

unfoldable pub gone_text : List ℕ
gone_text =
    text "rows 2 done 2 lost 0 idle 0\n"
    ++ text "row 0 remove 1 0 removed 40\n"
    ++ text "row 1 insert 9 7 present 25\n"
    ++ text "log 0 1\n"
    ++ text "cell 4 gone\n"
    ++ text "cell 5 9 25\n"

-- "Keys 1 to 8 each at home fill the table." Their totals are left open: 10 times the key here.
abbrev pub full_table : List ℕ
full_table =
    table 8 (at 4 1 10 ∷ at 1 2 20 ∷ at 6 3 30 ∷ at 3 4 40 ∷ at 0 5 50 ∷ at 5 6 60 ∷ at 2 7 70 ∷ at 7 8 80 ∷ [])

-- the starred cases
unfoldable pub starred : List Case
starred =
    -- "Homes in 8 cells: keys 1, 9 and 17 at 4; 2 and 10 at 1; 5 at 0; 8 and 16 at 7."
    home_is 1 8 4 ∷ home_is 9 8 4 ∷ home_is 17 8 4 ∷ home_is 2 8 1 ∷ home_is 10 8 1 ∷ home_is 5 8 0 ∷ home_is 8 8 7 ∷ home_is 16 8 7
    -- "65,534 + 0 is true; 65,534 + 1 and 65,535 + 0 are pinned." The second is capped.
    ∷ sum_is 65534 0 65534 false ∷ sum_is 65534 1 (65536 + 65535) true ∷ sum_is 65535 0 65535 true
    -- "The run in full."
    ∷ leaves in_full
    (left (table 8 (at 4 1 65535 ∷ at 5 9 25 ∷ [])) (answer 2 0 ∷ answer 2 0 ∷ answer 8 40 ∷ []) (0 ∷ 2 ∷ 1 ∷ []) 3 2 1)
    ∷ writes in_full_file in_full_text
    -- "Cells 4 = (1, 40), 5 = (9, 25); rows remove 1, insert (9, 7); schedule 0 0 1 1: removed 40, present 25, cell 4 gone."
    ∷ leaves (job (table 8 (at 4 1 40 ∷ at 5 9 25 ∷ [])) (operation 5 1 0 ∷ operation 2 9 7 ∷ []) (0 ∷ 0 ∷ 1 ∷ 1 ∷ []))
    (left (table 8 (at 4 65535 0 ∷ at 5 9 25 ∷ [])) (answer 5 40 ∷ answer 3 25 ∷ []) (0 ∷ 1 ∷ []) 2 0 0)
    ∷ writes gone_file gone_text
    -- "Cell 4 = (1, 40); rows add (1, 5), add (1, 7); schedule 0 1 0 1 1 1: changed 40, changed 45, total 52, lost 1."
    ∷ leaves (job (table 8 (at 4 1 40 ∷ [])) (operation 4 1 5 ∷ operation 4 1 7 ∷ []) (0 ∷ 1 ∷ 0 ∷ 1 ∷ 1 ∷ 1 ∷ []))
    (left (table 8 (at 4 1 52 ∷ [])) (answer 4 40 ∷ answer 4 45 ∷ []) (0 ∷ 1 ∷ []) 2 1 0)
    -- "Keys 1 to 8 each at home fill the table." The homes of 1, 2, 5 and 8 stand above.
    ∷ home_is 3 8 6 ∷ home_is 4 8 3 ∷ home_is 6 8 5 ∷ home_is 7 8 2
    -- "Add of key 9 is unfinished after 7 steps and full at the 8th; find of 9 is absent at the 8th." The amount is left open: 1 here.
    ∷ leaves (job full_table (operation 4 9 1 ∷ []) (replicate 7 0)) (left full_table (answer 0 0 ∷ []) (9 ∷ []) 0 0 0)
    ∷ leaves (job full_table (operation 4 9 1 ∷ []) (replicate 8 0)) (left full_table (answer 7 0 ∷ []) (0 ∷ []) 1 0 0)
    ∷ leaves (job full_table (operation 1 9 0 ∷ []) (replicate 7 0)) (left full_table (answer 0 0 ∷ []) (9 ∷ []) 0 0 0)
    ∷ leaves (job full_table (operation 1 9 0 ∷ []) (replicate 8 0)) (left full_table (answer 6 0 ∷ []) (0 ∷ []) 1 0 0)
    -- "Cell 7 = (8, 1), add (16, 3), three steps: cell 0 = (16, 3)."
    ∷ leaves (job (table 8 (at 7 8 1 ∷ [])) (operation 4 16 3 ∷ []) (0 ∷ 0 ∷ 0 ∷ []))
    (left (table 8 (at 7 8 1 ∷ at 0 16 3 ∷ [])) (answer 2 0 ∷ []) (0 ∷ []) 1 0 0)
    -- "Cell 4 empty, cell 5 = (9, 25): refused 8 at 5. Key 1 in cells 4 and 5: refused 7 at 5."
    ∷ refused (table 8 (at 5 9 25 ∷ [])) 8 5
    ∷ refused (table 8 (at 4 1 40 ∷ at 5 1 40 ∷ [])) 7 5
    ∷ writes (table_record 3 ++ cell_record 5 9 25) (text "refused 8 at 5\n")
    -- "4 or 12 cells: refused 1." The second still is, as are 0 and 3; the first runs by document 02, "A2", as does 1.
    ∷ refused (table 12 []) 1 0 ∷ refused (table 0 []) 1 0 ∷ refused (table 3 []) 1 0
    ∷ begins (table 4 []) (operation 1 1 0 ∷ []) ∷ begins (table 1 []) (operation 1 1 0 ∷ [])
    ∷ []

-- Document 02, "A1": room 1 alone in the table, in cell 4 with total t
abbrev room_at : ℕ → List ℕ
room_at t = table 8 (at 4 1 t ∷ [])

-- one operation on such a room or on an empty table, in two steps: the total that room 1 then has, and the answer
abbrev on_room : List ℕ → ℕ → ℕ → ℕ → Case
on_room cells op total answered = leaves (job cells (op ∷ []) (0 ∷ 0 ∷ [])) (left (room_at total) (answered ∷ []) (0 ∷ []) 1 0 0)

unfoldable pub capped : List Case
capped =
    -- "An add that turns a true total into a pinned one now finishes capped (code 8) with the old total, where it finished changed.": one below the
    -- ceiling, at it, above it, and by a pinned amount
    on_room (room_at 40) (operation 4 1 65494) 65534 (answer 4 40)
    ∷ on_room (room_at 40) (operation 4 1 65495) 65535 (answer 8 40)
    ∷ on_room (room_at 40) (operation 4 1 65496) 65535 (answer 8 40)
    ∷ on_room (room_at 0) (operation 4 1 65535) 65535 (answer 8 0)
    ∷ on_room (room_at 65534) (operation 4 1 1) 65535 (answer 8 65534)
    -- from a pinned total nothing is turned, and an update and an insertion are no adds that turn one: "on an empty cell, the key and the amount
    -- (inserted)"
    ∷ on_room (room_at 65535) (operation 4 1 0) 65535 (answer 4 65535)
    ∷ on_room (room_at 65535) (operation 4 1 65535) 65535 (answer 4 65535)
    ∷ on_room (room_at 40) (operation 3 1 65535) 65535 (answer 4 40)
    ∷ on_room (table 8 []) (operation 4 1 65535) 65535 (answer 2 0)
    ∷ on_room (table 8 []) (operation 2 1 65535) 65535 (answer 2 0)
    -- whose swap is won decides: the second add loses its swap, reads again, and is capped by what it then reads; or finds the total pinned
    ∷ leaves (job (room_at 40) (operation 4 1 5 ∷ operation 4 1 65490 ∷ []) (0 ∷ 1 ∷ 0 ∷ 1 ∷ 1 ∷ 1 ∷ []))
    (left (room_at 65535) (answer 4 40 ∷ answer 8 45 ∷ []) (0 ∷ 1 ∷ []) 2 1 0)
    ∷ leaves (job (room_at 65530) (operation 4 1 10 ∷ operation 4 1 10 ∷ []) (0 ∷ 1 ∷ 1 ∷ 0 ∷ 0 ∷ 0 ∷ []))
    (left (room_at 65535) (answer 4 65535 ∷ answer 8 65530 ∷ []) (1 ∷ 0 ∷ []) 2 1 0)
    -- "The sum of two totals must therefore also report whether a true first total became pinned; the C++ caller gets 65,536 more if so."
    ∷ sum_is 0 65535 131071 true ∷ sum_is 65535 65535 65535 true ∷ sum_is 65534 65534 131071 true
    ∷ []

-- Document 02, "A2": a job of one room, whose table is full with it. The second add holds the empty cell that the first then fills, loses its
-- swap and reads again.
unfoldable pub one_room : Contents
one_room =
    job (table 1 []) (operation 4 1 40 ∷ operation 1 2 0 ∷ operation 4 2 25 ∷ operation 4 1 5 ∷ []) (0 ∷ 2 ∷ 0 ∷ 2 ∷ 1 ∷ 2 ∷ 3 ∷ 3 ∷ [])

unfoldable pub one_room_file : List ℕ
one_room_file =
    table_record 0 ++ operation_record 4 1 40 ++ operation_record 1 2 0 ++ operation_record 4 2 25 ++ operation_record 4 1 5
    ++ schedule_record one_room.schedule

unfoldable pub one_room_text : List ℕ
one_room_text =
    text "rows 4 done 4 lost 1 idle 0\n"
    ++ text "row 0 add 1 40 inserted 0\n"
    ++ text "row 1 find 2 0 absent 0\n"
    ++ text "row 2 add 2 25 full 0\n"
    ++ text "row 3 add 1 5 changed 40\n"
    ++ text "log 0 1 2 3\n"
    ++ text "cell 0 1 45\n"

-- keys 2, 4, 1 and 3 each at home fill a table of 4 cells, and one operation on it takes some steps
abbrev four_full : List ℕ
four_full = table 4 (at 0 2 20 ∷ at 1 4 40 ∷ at 2 1 10 ∷ at 3 3 30 ∷ [])

abbrev on_four : ℕ → ℕ → ℕ → List ℕ → ℕ → Case
on_four op steps answered log done = leaves (job four_full (op ∷ []) (replicate steps 0)) (left four_full (answered ∷ []) log done 0 0)

unfoldable pub small_tables : List Case
small_tables =
    -- "Tables of 1, 2 and 4 cells.": homes. Keys 34,937, 32,768 and 2,169 have hashes at the ends of shares: 65,535, 32,768 and 32,767.
    home_is 1 1 0 ∷ home_is 34937 1 0 ∷ home_is 65534 1 0
    ∷ home_is 1 2 1 ∷ home_is 34937 2 1 ∷ home_is 32768 2 1 ∷ home_is 2169 2 0 ∷ home_is 2 2 0
    ∷ home_is 1 4 2 ∷ home_is 34937 4 3 ∷ home_is 32768 4 2 ∷ home_is 2169 4 1 ∷ home_is 2 4 0
    -- one cell: an add, a find of another room, and a full
    ∷ leaves one_room
    (left (table 1 (at 0 1 45 ∷ [])) (answer 2 0 ∷ answer 6 0 ∷ answer 7 0 ∷ answer 4 40 ∷ []) (0 ∷ 1 ∷ 2 ∷ 3 ∷ []) 4 1 0)
    ∷ writes one_room_file one_room_text
    -- two cells: 9 has the home of 1, passes the end of the table and is put into cell 0; 17 then finds no empty cell
    ∷ leaves (job (table 2 (at 1 1 40 ∷ [])) (operation 4 9 25 ∷ operation 4 17 1 ∷ operation 1 9 0 ∷ []) (0 ∷ 0 ∷ 0 ∷ 1 ∷ 2 ∷ 1 ∷ 2 ∷ []))
    (left (table 2 (at 0 9 25 ∷ at 1 1 40 ∷ [])) (answer 2 0 ∷ answer 7 0 ∷ answer 1 25 ∷ []) (0 ∷ 1 ∷ 2 ∷ []) 3 0 0)
    -- four cells, full: a fifth room is not there after 4 steps, and not before
    ∷ on_four (operation 4 5 1) 3 (answer 0 0) (9 ∷ []) 0 ∷ on_four (operation 4 5 1) 4 (answer 7 0) (0 ∷ []) 1
    ∷ on_four (operation 1 5 0) 3 (answer 0 0) (9 ∷ []) 0 ∷ on_four (operation 1 5 0) 4 (answer 6 0) (0 ∷ []) 1
    -- "Refusals 1 and 11 now begin below 1 cell and below k = 0.", so that there is no k that is too small
    ∷ judged (table_record 0) 0 0 ∷ judged (table_record 1) 0 0 ∷ judged (table_record 2) 0 0
    -- the other refusals, in 1 and in 2 cells
    ∷ refused (table 1 (at 0 0 1 ∷ [])) 4 0 ∷ begins (table 1 (at 0 65535 0 ∷ [])) [] ∷ begins (table 1 (at 0 65534 1 ∷ [])) []
    ∷ refused (table 2 (at 0 1 1 ∷ at 1 1 2 ∷ [])) 7 1 ∷ refused (table 2 (at 0 1 1 ∷ [])) 8 0 ∷ refused (table 2 (at 1 2 1 ∷ [])) 8 1
    ∷ begins (table 2 (at 0 1 1 ∷ at 1 65535 0 ∷ [])) []
    ∷ says (table_record 0 ++ cell_record 1 1 1) "refused 11 at 3\n" ∷ judged (table_record 0 ++ cell_record 0 1 1) 0 0
    ∷ []

-- Document 02, "A4": the records of a wide file, where they differ
abbrev flagged_bytes : Total → List ℕ
flagged_bytes t = cond t.saturated 1 0 ∷ pair (t.amount / 65536) ++ pair (t.amount % 65536)

abbrev pub wide_table_record : ℕ → List ℕ
wide_table_record k = text "TW" ++ (k ∷ [])

abbrev wide_cell_record : ℕ → ℕ → Total → List ℕ
wide_cell_record n k t = text "CL" ++ pair n ++ pair k ++ flagged_bytes t

abbrev pub wide_operation_record : ℕ → ℕ → Total → List ℕ
wide_operation_record kind k t = text "OP" ++ (kind ∷ []) ++ pair k ++ flagged_bytes t

-- A run in full, file in and text out: the document's own with totals round the wide ceiling, then an add to a pinned total below it, and an add of
-- a pinned amount
unfoldable pub wide_in_full : Contents
wide_in_full =
    job (table 8 (wide_at 7 8 (flagged 3) ∷ []))
    (wide_operation 4 1 (plain 40)
    ∷ wide_operation 4 9 (plain 25)
    ∷ wide_operation 4 1 (plain 4294967260)
    ∷ wide_operation 4 8 (plain 4)
    ∷ wide_operation 4 9 (flagged 5)
    ∷ [])
    (0 ∷ 1 ∷ 2 ∷ 0 ∷ 1 ∷ 2 ∷ 1 ∷ 1 ∷ 2 ∷ 2 ∷ 1 ∷ 0 ∷ 3 ∷ 3 ∷ 4 ∷ 4 ∷ 4 ∷ [])

unfoldable pub wide_in_full_file : List ℕ
wide_in_full_file =
    (0x54 ∷ 0x57 ∷ 0x03 ∷ [])
    ++ (0x43 ∷ 0x4C ∷ 0x00 ∷ 0x07 ∷ 0x00 ∷ 0x08 ∷ 0x01 ∷ 0x00 ∷ 0x00 ∷ 0x00 ∷ 0x03 ∷ [])
    ++ (0x4F ∷ 0x50 ∷ 0x04 ∷ 0x00 ∷ 0x01 ∷ 0x00 ∷ 0x00 ∷ 0x00 ∷ 0x00 ∷ 0x28 ∷ [])
    ++ (0x4F ∷ 0x50 ∷ 0x04 ∷ 0x00 ∷ 0x09 ∷ 0x00 ∷ 0x00 ∷ 0x00 ∷ 0x00 ∷ 0x19 ∷ [])
    ++ (0x4F ∷ 0x50 ∷ 0x04 ∷ 0x00 ∷ 0x01 ∷ 0x00 ∷ 0xFF ∷ 0xFF ∷ 0xFF ∷ 0xDC ∷ [])
    ++ (0x4F ∷ 0x50 ∷ 0x04 ∷ 0x00 ∷ 0x08 ∷ 0x00 ∷ 0x00 ∷ 0x00 ∷ 0x00 ∷ 0x04 ∷ [])
    ++ (0x4F ∷ 0x50 ∷ 0x04 ∷ 0x00 ∷ 0x09 ∷ 0x01 ∷ 0x00 ∷ 0x00 ∷ 0x00 ∷ 0x05 ∷ [])
    ++ schedule_record wide_in_full.schedule

-- "`roomrun` lists either width, a wide pinned total or amount as `atleast N`."
unfoldable pub wide_in_full_text : List ℕ
wide_in_full_text =
    text "rows 5 done 5 lost 2 idle 1\n"
    ++ text "row 0 add 1 40 inserted 0\n"
    ++ text "row 1 add 9 25 inserted 0\n"
    ++ text "row 2 add 1 4294967260 capped 40\n"
    ++ text "row 3 add 8 4 changed atleast 3\n"
    ++ text "row 4 add 9 atleast 5 capped 25\n"
    ++ text "log 0 2 1 3 4\n"
    ++ text "cell 4 1 atleast 4294967295\n"
    ++ text "cell 5 9 atleast 30\n"
    ++ text "cell 7 8 atleast 7\n"

abbrev room_with : Total → List ℕ
room_with t = table 8 (wide_at 4 1 t ∷ [])

-- one operation on such a room or on an empty table, as above
abbrev on_wide : List ℕ → ℕ → Total → ℕ → Case
on_wide cells op t answered = in_wide (leaves (job cells (op ∷ []) (0 ∷ 0 ∷ [])) (left (room_with t) (answered ∷ []) (0 ∷ []) 1 0 0))

-- one word as cell 4, and the words of rows, that are turned away, these at a place
abbrev no_cell : ℕ → Case
no_cell w = in_wide (refused (table 8 (record { number = 4; word = w } ∷ [])) 4 4)

abbrev no_row : List ℕ → ℕ → Case
no_row operations place = in_wide (turned_away (length operations) (length operations) (job (table 8 []) operations []) 5 place)

unfoldable pub wide_tables : List Case
wide_tables =
    -- "Adding sums the totals, holds at 4,294,967,295, and sets the flag if either had it or the ceiling is reached.": below the ceiling, at it and
    -- past it, and with flags
    sums_to (plain 4294967293) (plain 1) (plain 4294967294) false ∷ sums_to (plain 65535) (plain 65535) (plain 131070) false
    ∷ sums_to (plain 4294967294) (plain 1) (flagged 4294967295) true ∷ sums_to (plain 4294967294) (plain 2) (flagged 4294967295) true
    ∷ sums_to (plain 4294967294) (plain 4294967294) (flagged 4294967295) true
    ∷ sums_to (flagged 3) (plain 4) (flagged 7) false ∷ sums_to (plain 3) (flagged 4) (flagged 7) true ∷ sums_to (flagged 3) (flagged 4) (flagged 7) false
    ∷ sums_to (flagged 0) (plain 0) (flagged 0) false ∷ sums_to (plain 0) (flagged 0) (flagged 0) true
    ∷ sums_to (flagged 4294967294) (plain 1) (flagged 4294967295) false ∷ sums_to (flagged 4294967295) (flagged 4294967295) (flagged 4294967295) false
    -- "key in bits 48 to 63, pinned flag in bit 32, total in bits 0 to 31"; "amount in bits 0 to 31, flag in 32, key in 33 to 48, kind in 49 to 56";
    -- "code × 2^33 + flag × 2^32 + total": words as numbers, in which add (1, 5), add (1, pinned 2) and remove 1 change a cell
    ∷ in_wide
    (leaves
    (job (0 ∷ 0 ∷ 0 ∷ 0 ∷ 0x0001000000000028 ∷ 0 ∷ 0 ∷ 0 ∷ []) (0x0008000200000005 ∷ 0x0008000300000002 ∷ 0x000A000200000000 ∷ []) (0 ∷ 0 ∷ 1 ∷ 1 ∷ []))
    (left (0 ∷ 0 ∷ 0 ∷ 0 ∷ 0x000100010000002F ∷ 0 ∷ 0 ∷ 0 ∷ []) (0x0000000800000028 ∷ 0x000000100000002D ∷ 0 ∷ []) (0 ∷ 1 ∷ 9 ∷ []) 2 0 0))
    ∷ in_wide
    (leaves (job (0 ∷ 0 ∷ 0 ∷ 0 ∷ 0x000100010000002F ∷ 0 ∷ 0 ∷ 0 ∷ []) (0x000A000200000000 ∷ []) (0 ∷ 0 ∷ []))
    (left (0 ∷ 0 ∷ 0 ∷ 0 ∷ 0xFFFF000000000000 ∷ 0 ∷ 0 ∷ 0 ∷ []) (0x0000000B0000002F ∷ []) (0 ∷ []) 1 0 0))
    -- the wide run in full
    ∷ in_wide
    (leaves wide_in_full
    (left (table 8 (wide_at 4 1 (flagged 4294967295) ∷ wide_at 5 9 (flagged 30) ∷ wide_at 7 8 (flagged 7) ∷ []))
    (wide_answer 2 (plain 0) ∷ wide_answer 2 (plain 0) ∷ wide_answer 8 (plain 40) ∷ wide_answer 4 (flagged 3) ∷ wide_answer 8 (plain 25) ∷ [])
    (0 ∷ 2 ∷ 1 ∷ 3 ∷ 4 ∷ []) 5 2 1))
    ∷ writes wide_in_full_file wide_in_full_text
    -- "An add that turns a true total into a pinned one now finishes capped" ("A1"): at the ceiling, and by a pinned amount; from a pinned total none
    -- does, and no update or insertion
    ∷ on_wide (room_with (plain 40)) (wide_operation 4 1 (plain 4294967254)) (plain 4294967294) (wide_answer 4 (plain 40))
    ∷ on_wide (room_with (plain 40)) (wide_operation 4 1 (plain 4294967255)) (flagged 4294967295) (wide_answer 8 (plain 40))
    ∷ on_wide (room_with (plain 3)) (wide_operation 4 1 (flagged 4)) (flagged 7) (wide_answer 8 (plain 3))
    ∷ on_wide (room_with (flagged 3)) (wide_operation 4 1 (plain 4)) (flagged 7) (wide_answer 4 (flagged 3))
    ∷ on_wide (room_with (plain 40)) (wide_operation 3 1 (flagged 4)) (flagged 4) (wide_answer 4 (plain 40))
    ∷ on_wide (table 8 []) (wide_operation 4 1 (flagged 4)) (flagged 4) (wide_answer 2 (plain 0))
    -- a flag is part of the word that a swap compares: room 1 has 7 before the second add and after it, true and then pinned
    ∷ in_wide
    (leaves (job (room_with (plain 7)) (wide_operation 4 1 (plain 1) ∷ wide_operation 4 1 (flagged 0) ∷ []) (0 ∷ 1 ∷ 1 ∷ 0 ∷ 0 ∷ 0 ∷ []))
    (left (room_with (flagged 8)) (wide_answer 4 (flagged 7) ∷ wide_answer 8 (plain 7) ∷ []) (1 ∷ 0 ∷ []) 2 1 0))
    -- "It refuses an unflagged 4,294,967,295, a stray bit, or a flag where the total or amount must be 0, with 4 in a cell and 5 in a row"
    ∷ no_cell (wide_cell 1 (plain 4294967295)) ∷ no_cell (wide_cell 1 (plain 5) + 2 ^ 33) ∷ no_cell (wide_cell 1 (plain 5) + 2 ^ 47)
    ∷ no_cell (wide_cell 65535 (flagged 0)) ∷ no_cell (wide_cell 0 (flagged 0)) ∷ no_cell (wide_cell 65535 (plain 1)) ∷ no_cell (wide_cell 0 (plain 1))
    ∷ no_cell (2 ^ 33) ∷ no_cell (2 ^ 47)
    ∷ in_wide (begins (table 8 (wide_at 4 1 (flagged 4294967295) ∷ wide_at 5 9 (flagged 0) ∷ wide_at 6 65534 (plain 4294967294) ∷ wide_at 0 65535 (plain 0) ∷ [])) [])
    ∷ no_row (wide_operation 4 1 (plain 4294967295) ∷ []) 0 ∷ no_row (wide_operation 1 1 (flagged 0) ∷ []) 0 ∷ no_row (wide_operation 5 1 (flagged 0) ∷ []) 0
    ∷ no_row (wide_operation 1 1 (plain 1) ∷ []) 0 ∷ no_row (wide_operation 5 1 (plain 1) ∷ []) 0
    ∷ no_row (wide_operation 1 1 (plain 0) ∷ wide_operation (2 ^ 8 + 1) 1 (plain 0) ∷ []) 1 ∷ no_row (wide_operation (2 ^ 14 + 1) 1 (plain 0) ∷ []) 0
    ∷ no_row (wide_operation 0 1 (plain 0) ∷ []) 0 ∷ no_row (wide_operation 6 1 (plain 0) ∷ []) 0
    ∷ no_row (wide_operation 4 0 (plain 1) ∷ []) 0 ∷ no_row (wide_operation 4 65535 (plain 1) ∷ []) 0
    ∷ in_wide
    (begins (table 8 [])
    (wide_operation 2 1 (flagged 0) ∷ wide_operation 3 1 (flagged 4294967295) ∷ wide_operation 4 65534 (plain 4294967294) ∷ wide_operation 5 1 (plain 0) ∷ []))
    -- the other refusals, and two at once
    ∷ in_wide (refused (table 12 []) 1 0) ∷ in_wide (turned_away 0 1 (job (table 8 []) (wide_operation 1 1 (plain 0) ∷ []) []) 3 0)
    ∷ in_wide (turned_away 0 0 (job (room_with (plain 1)) [] (0 ∷ [])) 6 0) ∷ in_wide (turned_away 1 1 (job (room_with (plain 4294967295)) (0 ∷ []) []) 4 4)
    ∷ in_wide (refused (table 8 (wide_at 4 1 (plain 40) ∷ wide_at 5 1 (flagged 40) ∷ [])) 7 5) ∷ in_wide (refused (table 8 (wide_at 5 9 (flagged 25) ∷ [])) 8 5)
    -- "Wide files begin with TW for TB, and totals and amounts become a flag byte, 0 or 1, then four bytes."
    ∷ in_wide
    (reads
    (wide_table_record 1 ++ wide_cell_record 0 258 (flagged 0x03040506) ++ wide_cell_record 1 65535 (plain 4294967295)
    ++ wide_operation_record 255 258 (flagged 0x03040506) ++ schedule_record (7 ∷ []))
    (job (0x0102000103040506 ∷ 0xFFFF0000FFFFFFFF ∷ []) (0x01FE020503040506 ∷ []) (7 ∷ [])))
    ∷ in_wide (judged (table_record 3) 9 0) ∷ judged (wide_table_record 3) 9 0
    -- "another flag byte with 11": in a cell and in a row, where the record is whole (10), and before it is one too many (2)
    ∷ says (wide_table_record 3 ++ text "CL" ++ (0 ∷ 4 ∷ 0 ∷ 1 ∷ 2 ∷ 0 ∷ 0 ∷ 0 ∷ 5 ∷ [])) "refused 11 at 3\n"
    ∷ says (wide_table_record 3 ++ wide_operation_record 1 1 (plain 0) ++ text "OP" ++ (4 ∷ 0 ∷ 1 ∷ 255 ∷ 0 ∷ 0 ∷ 0 ∷ 5 ∷ [])) "refused 11 at 13\n"
    ∷ says (wide_table_record 3 ++ text "OP" ++ (4 ∷ 0 ∷ 1 ∷ 2 ∷ 0 ∷ 0 ∷ 0 ∷ [])) "refused 10 at 3\n"
    ∷ in_wide (after_rows 64 (text "OP" ++ (4 ∷ 0 ∷ 1 ∷ 2 ∷ 0 ∷ 0 ∷ 0 ∷ 5 ∷ [])) 11)
    ∷ in_wide (after_rows 64 (wide_operation_record 1 1 (plain 0)) 2) ∷ in_wide (after_rows 63 (wide_operation_record 1 1 (plain 0)) 0)
    -- what the run refuses is passed on to it
    ∷ says (wide_table_record 3 ++ wide_cell_record 6 1 (plain 4294967295)) "refused 4 at 6\n"
    ∷ says (wide_table_record 3 ++ wide_cell_record 6 65535 (flagged 0)) "refused 4 at 6\n"
    ∷ says (wide_table_record 3 ++ wide_operation_record 4 1 (plain 0) ++ wide_operation_record 1 1 (flagged 0)) "refused 5 at 1\n"
    ∷ says (wide_table_record 3 ++ wide_operation_record 4 1 (plain 4294967295)) "refused 5 at 0\n"
    -- "a wide pinned total or amount as `atleast N`", and any other as its number
    ∷ says (wide_table_record 3 ++ wide_cell_record 4 1 (plain 65535) ++ wide_cell_record 5 65535 (plain 0) ++ wide_cell_record 6 65534 (flagged 0) ++ wide_operation_record 3 1 (plain 65535))
    "rows 1 done 0 lost 0 idle 0\nrow 0 update 1 65535 unfinished 0\nlog\ncell 4 1 65535\ncell 5 gone\ncell 6 65534 atleast 0\n"
    ∷ []

-- Document 02, "A5": the run in full as a wide file
unfoldable pub in_full_widened : List ℕ
in_full_widened =
    (0x54 ∷ 0x57 ∷ 0x03 ∷ [])
    ++ (0x4F ∷ 0x50 ∷ 0x04 ∷ 0x00 ∷ 0x01 ∷ 0x00 ∷ 0x00 ∷ 0x00 ∷ 0x00 ∷ 0x28 ∷ [])
    ++ (0x4F ∷ 0x50 ∷ 0x04 ∷ 0x00 ∷ 0x09 ∷ 0x00 ∷ 0x00 ∷ 0x00 ∷ 0x00 ∷ 0x19 ∷ [])
    ++ (0x4F ∷ 0x50 ∷ 0x04 ∷ 0x00 ∷ 0x01 ∷ 0x00 ∷ 0x00 ∷ 0x00 ∷ 0xFF ∷ 0xDC ∷ [])
    ++ (0x53 ∷ 0x43 ∷ 0x0C ∷ 0x00 ∷ 0x01 ∷ 0x02 ∷ 0x00 ∷ 0x01 ∷ 0x02 ∷ 0x01 ∷ 0x01 ∷ 0x02 ∷ 0x02 ∷ 0x01 ∷ 0x00 ∷ [])

-- and a file with every mark twice but the table's: true totals and pinned ones, and what the run turns away, which are a tombstone with a total, no
-- kind, a find with an amount, and entries that are no rows
unfoldable pub mixed_file : List ℕ
mixed_file =
    (0x54 ∷ 0x42 ∷ 0x04 ∷ [])
    ++ (0x43 ∷ 0x4C ∷ 0x00 ∷ 0x02 ∷ 0x01 ∷ 0x02 ∷ 0x03 ∷ 0x04 ∷ [])
    ++ (0x43 ∷ 0x4C ∷ 0x00 ∷ 0x0F ∷ 0xFF ∷ 0xFF ∷ 0xFF ∷ 0xFF ∷ [])
    ++ (0x4F ∷ 0x50 ∷ 0xC8 ∷ 0x01 ∷ 0x02 ∷ 0xFF ∷ 0xFF ∷ [])
    ++ (0x4F ∷ 0x50 ∷ 0x01 ∷ 0x01 ∷ 0x02 ∷ 0xFF ∷ 0xFE ∷ [])
    ++ (0x53 ∷ 0x43 ∷ 0x01 ∷ 0x07 ∷ [])
    ++ (0x53 ∷ 0x43 ∷ 0x02 ∷ 0xFF ∷ 0x00 ∷ [])

unfoldable pub mixed_widened : List ℕ
mixed_widened =
    (0x54 ∷ 0x57 ∷ 0x04 ∷ [])
    ++ (0x43 ∷ 0x4C ∷ 0x00 ∷ 0x02 ∷ 0x01 ∷ 0x02 ∷ 0x00 ∷ 0x00 ∷ 0x00 ∷ 0x03 ∷ 0x04 ∷ [])
    ++ (0x43 ∷ 0x4C ∷ 0x00 ∷ 0x0F ∷ 0xFF ∷ 0xFF ∷ 0x01 ∷ 0x00 ∷ 0x00 ∷ 0xFF ∷ 0xFF ∷ [])
    ++ (0x4F ∷ 0x50 ∷ 0xC8 ∷ 0x01 ∷ 0x02 ∷ 0x01 ∷ 0x00 ∷ 0x00 ∷ 0xFF ∷ 0xFF ∷ [])
    ++ (0x4F ∷ 0x50 ∷ 0x01 ∷ 0x01 ∷ 0x02 ∷ 0x00 ∷ 0x00 ∷ 0x00 ∷ 0xFF ∷ 0xFE ∷ [])
    ++ (0x53 ∷ 0x43 ∷ 0x01 ∷ 0x07 ∷ [])
    ++ (0x53 ∷ 0x43 ∷ 0x02 ∷ 0xFF ∷ 0x00 ∷ [])

-- files of one cell and of one row, of either width
abbrev pub cell_file : ℕ → List ℕ
cell_file t = table_record 3 ++ cell_record 4 1 t

abbrev pub row_file : ℕ → List ℕ
row_file amount = table_record 3 ++ operation_record 4 1 amount

abbrev pub wide_cell_file : Total → List ℕ
wide_cell_file t = wide_table_record 3 ++ wide_cell_record 4 1 t

abbrev pub wide_row_file : Total → List ℕ
wide_row_file t = wide_table_record 3 ++ wide_operation_record 4 1 t

-- a number as the total of a cell and as the amount of a row, in narrow files and in wide ones
abbrev same_cell : ℕ → Total → Case
same_cell n t = exchanged (cell_file n) (wide_cell_file t)

abbrev same_row : ℕ → Total → Case
same_row n t = exchanged (row_file n) (wide_row_file t)

-- a row of any kind, key and amount below 65,535
abbrev any_row : ℕ → ℕ → ℕ → Case
any_row kind k n = exchanged (table_record 3 ++ operation_record kind k n) (wide_table_record 3 ++ wide_operation_record kind k (plain n))

-- Files that are turned away, up and down: their slice is shorter than any result, so that 3 would be met as well
abbrev not_up : List ℕ → ℕ → ℕ → Case
not_up file number place = unconverted_in 2 file number place

abbrev not_down : List ℕ → ℕ → ℕ → Case
not_down file number place = in_wide (unconverted_in 2 file number place)

abbrev unfit_cell : Total → Case
unfit_cell t = not_down (wide_cell_file t) 13 3

abbrev unfit_row : Total → Case
unfit_row t = not_down (wide_row_file t) 13 3

unfoldable pub conversions : List Case
conversions =
    -- "Converting up keeps every record in order, a narrow 65,535 becoming flagged 65,535. Converting down gives back the same file if it came from
    -- one."
    exchanged in_full_file in_full_widened ∷ exchanged mixed_file mixed_widened
    ∷ exchanged (table_record 0) (wide_table_record 0) ∷ exchanged (table_record 12) (wide_table_record 12)
    -- of all numbers 65,535 alone is flagged
    ∷ same_cell 65535 (flagged 65535) ∷ same_cell 65534 (plain 65534) ∷ same_cell 65280 (plain 65280) ∷ same_cell 255 (plain 255)
    ∷ same_cell 1 (plain 1) ∷ same_cell 0 (plain 0)
    ∷ same_row 65535 (flagged 65535) ∷ same_row 65534 (plain 65534) ∷ same_row 65280 (plain 65280) ∷ same_row 255 (plain 255)
    ∷ same_row 1 (plain 1) ∷ same_row 0 (plain 0)
    -- nothing that the run judges is judged: kinds, keys and amounts of rows; a tombstone with a total, a key twice and one that is not reached;
    -- entries that are no rows
    ∷ any_row 0 1 0 ∷ any_row 6 1 0 ∷ any_row 200 1 0 ∷ any_row 1 1 7 ∷ any_row 5 1 65534 ∷ any_row 4 0 1 ∷ any_row 4 65535 1
    ∷ exchanged (table_record 3 ++ cell_record 5 65535 7) (wide_table_record 3 ++ wide_cell_record 5 65535 (plain 7))
    ∷ exchanged (table_record 3 ++ cell_record 6 1 1 ++ cell_record 7 1 1)
    (wide_table_record 3 ++ wide_cell_record 6 1 (plain 1) ++ wide_cell_record 7 1 (plain 1))
    ∷ exchanged (table_record 3 ++ schedule_record (0 ∷ [])) (wide_table_record 3 ++ schedule_record (0 ∷ []))
    -- SC records stay as they are: two of them two, and one of them one
    ∷ exchanged (row_file 5 ++ schedule_record (0 ∷ []) ++ schedule_record (0 ∷ 0 ∷ [])) (wide_row_file (plain 5) ++ schedule_record (0 ∷ []) ++ schedule_record (0 ∷ 0 ∷ []))
    ∷ exchanged (row_file 5 ++ schedule_record (0 ∷ 0 ∷ 0 ∷ [])) (wide_row_file (plain 5) ++ schedule_record (0 ∷ 0 ∷ 0 ∷ []))
    ∷ exchanged (row_file 5 ++ schedule_record (replicate 255 0)) (wide_row_file (plain 5) ++ schedule_record (replicate 255 0))
    -- "down refuses an unflagged total or amount of 65,535 or more"
    ∷ unfit_cell (plain 65535) ∷ unfit_cell (plain 65536) ∷ unfit_cell (plain 65537) ∷ unfit_cell (plain 16777216) ∷ unfit_cell (plain 4294967295)
    ∷ unfit_row (plain 65535) ∷ unfit_row (plain 65536) ∷ unfit_row (plain 65537) ∷ unfit_row (plain 16777216) ∷ unfit_row (plain 4294967295)
    -- "or a flagged one other than 65,535"
    ∷ unfit_cell (flagged 65534) ∷ unfit_cell (flagged 7) ∷ unfit_cell (flagged 0) ∷ unfit_cell (flagged 65536) ∷ unfit_cell (flagged 131071)
    ∷ unfit_cell (flagged 4294967295)
    ∷ unfit_row (flagged 65534) ∷ unfit_row (flagged 7) ∷ unfit_row (flagged 0) ∷ unfit_row (flagged 65536) ∷ unfit_row (flagged 131071)
    ∷ unfit_row (flagged 4294967295)
    -- "with 13 at the first such record": before another, and behind one that fits
    ∷ not_down (wide_cell_file (flagged 7) ++ wide_cell_record 5 9 (plain 65535)) 13 3
    ∷ not_down (wide_cell_file (flagged 7) ++ wide_operation_record 4 1 (plain 65535)) 13 3
    ∷ not_down (wide_cell_file (flagged 65535) ++ wide_cell_record 5 9 (plain 65535) ++ wide_cell_record 6 17 (flagged 7)) 13 14
    ∷ not_down (wide_cell_file (plain 65534) ++ wide_operation_record 4 1 (plain 5) ++ wide_operation_record 4 1 (flagged 0) ++ schedule_record (0 ∷ [])) 13 24
    -- "After the reader's own refusals": of a later record, a mark or a body, and of the number of rows
    ∷ not_down (wide_cell_file (flagged 7) ++ text "XX") 9 14 ∷ not_down (wide_row_file (plain 65535) ++ text "CL") 9 13
    ∷ not_down (wide_row_file (plain 65535) ++ text "S") 10 13 ∷ not_down (wide_row_file (plain 65535) ++ text "SC" ++ (2 ∷ 0 ∷ [])) 10 13
    ∷ not_down (wide_row_file (plain 65535) ++ schedule_record []) 11 13
    ∷ not_down (wide_cell_file (flagged 7) ++ text "OP" ++ (4 ∷ 0 ∷ 1 ∷ 2 ∷ 0 ∷ 0 ∷ 0 ∷ 5 ∷ [])) 11 14
    ∷ not_down (wide_table_record 3 ++ rounds 65 (wide_operation_record 4 1 (flagged 7))) 2 643
    ∷ not_down (wide_table_record 3 ++ rounds 64 (wide_operation_record 4 1 (flagged 7))) 13 3
    ∷ not_up (row_file 5 ++ text "XX") 9 10 ∷ not_up (row_file 5 ++ schedule_record []) 11 10 ∷ not_up (table_record 13) 11 0
    ∷ not_up (table_record 3 ++ rounds 65 (operation_record 1 1 0)) 2 451
    -- a file of the other width, none at all, and one that is too long
    ∷ not_up in_full_widened 9 0 ∷ not_down in_full_file 9 0 ∷ not_up [] 10 0 ∷ not_down [] 10 0
    ∷ not_up (replicate 65536 0) 12 0 ∷ not_down (replicate 65536 0) 12 0 ∷ not_up (replicate 65535 0) 9 0
    -- "then each refuses a result above 65,535 bytes with 22 at 0" is not computed here: cells and rows alone grow, by three bytes each, and there are
    -- at most 4,096 and 64, so that it takes a file of 53,056 bytes, which is dear to compute. The tests run such files.
    -- "then an output slice shorter than the result with 3 at 0": by one byte, and by all; one that is just long enough
    ∷ unconverted_in 47 in_full_file 3 0 ∷ converts_in 48 in_full_file in_full_widened ∷ unconverted_in 0 in_full_file 3 0
    ∷ in_wide (unconverted_in 38 in_full_widened 3 0) ∷ in_wide (converts_in 39 in_full_widened in_full_file) ∷ in_wide (unconverted_in 0 in_full_widened 3 0)
    -- "returns how many it wrote, and bytes past those keep what they held"
    ∷ converts_in 100 in_full_file in_full_widened ∷ in_wide (converts_in 100 in_full_widened in_full_file)
    -- as programs: the result, or the line of the refusal
    ∷ converted_text mixed_file mixed_widened ∷ in_wide (converted_text mixed_widened mixed_file)
    ∷ converted_text [] (text "refused 10 at 0\n") ∷ in_wide (converted_text (wide_row_file (plain 65535)) (text "refused 13 at 3\n"))
    ∷ []

-- Document 02, "A6": one operation at one entry, by which it finishes and leaves the room as it was; an update whose swap an add comes before
abbrev at_once : List ℕ → ℕ → ℕ → Case
at_once cells op answered = leaves (job cells (op ∷ []) (0 ∷ [])) (left cells (answered ∷ []) (0 ∷ []) 1 0 0)

abbrev at_once_wide : Total → ℕ → ℕ → Case
at_once_wide t op answered = in_wide (at_once (room_with t) op answered)

abbrev overtaken : List ℕ
overtaken = 0 ∷ 1 ∷ 1 ∷ 0 ∷ 0 ∷ []

unfoldable pub retained : List Case
retained =
    -- "An update that reads a pinned total of its room finishes at that read as held (code 9) with that total, and nothing is written.": whatever the
    -- amount is
    at_once (room_at 65535) (operation 3 1 50) (answer 9 65535)
    ∷ at_once (room_at 65535) (operation 3 1 0) (answer 9 65535)
    ∷ at_once (room_at 65535) (operation 3 1 65535) (answer 9 65535)
    -- a true total is typed over as before, by a pinned amount too, and that one then stays
    ∷ on_room (room_at 65534) (operation 3 1 50) 50 (answer 4 65534)
    ∷ leaves (job (room_at 40) (operation 3 1 65535 ∷ operation 3 1 50 ∷ []) (0 ∷ 0 ∷ 1 ∷ []))
    (left (room_at 65535) (answer 4 40 ∷ answer 9 65535 ∷ []) (0 ∷ 1 ∷ []) 2 0 0)
    -- the read decides: the update holds a true word, which an add pins meanwhile, loses its swap and reads again; or is before the add
    ∷ leaves (job (room_at 40) (operation 3 1 50 ∷ operation 4 1 65500 ∷ []) overtaken)
    (left (room_at 65535) (answer 9 65535 ∷ answer 8 40 ∷ []) (1 ∷ 0 ∷ []) 2 1 0)
    ∷ leaves (job (room_at 40) (operation 3 1 50 ∷ operation 4 1 65500 ∷ []) (0 ∷ 1 ∷ 0 ∷ 1 ∷ 1 ∷ 1 ∷ []))
    (left (room_at 65535) (answer 4 40 ∷ answer 8 50 ∷ []) (0 ∷ 1 ∷ []) 2 1 0)
    -- the other kinds are as they were: an insert, a find and a remove of a pinned room
    ∷ at_once (room_at 65535) (operation 2 1 50) (answer 3 65535) ∷ at_once (room_at 65535) (operation 1 1 0) (answer 1 65535)
    ∷ leaves (job (room_at 65535) (operation 5 1 0 ∷ []) (0 ∷ 0 ∷ [])) (left (table 8 (at 4 65535 0 ∷ [])) (answer 5 65535 ∷ []) (0 ∷ []) 1 0 0)
    -- "in both widths": by the flag and not by the number, whether the ceiling is reached or not
    ∷ at_once_wide (flagged 3) (wide_operation 3 1 (plain 50)) (wide_answer 9 (flagged 3))
    ∷ at_once_wide (flagged 0) (wide_operation 3 1 (flagged 0)) (wide_answer 9 (flagged 0))
    ∷ at_once_wide (flagged 65535) (wide_operation 3 1 (plain 50)) (wide_answer 9 (flagged 65535))
    ∷ at_once_wide (flagged 4294967295) (wide_operation 3 1 (plain 50)) (wide_answer 9 (flagged 4294967295))
    ∷ on_wide (room_with (plain 65535)) (wide_operation 3 1 (plain 50)) (plain 50) (wide_answer 4 (plain 65535))
    ∷ on_wide (room_with (plain 4294967294)) (wide_operation 3 1 (flagged 3)) (flagged 3) (wide_answer 4 (plain 4294967294))
    ∷ in_wide
    (leaves (job (room_with (plain 7)) (wide_operation 3 1 (plain 50) ∷ wide_operation 4 1 (flagged 0) ∷ []) overtaken)
    (left (room_with (flagged 7)) (wide_answer 9 (flagged 7) ∷ wide_answer 8 (plain 7) ∷ []) (1 ∷ 0 ∷ []) 2 1 0))
    ∷ at_once_wide (flagged 3) (wide_operation 2 1 (plain 50)) (wide_answer 3 (flagged 3))
    -- `held pinned`, which `every_text` has too, and `held atleast N`
    ∷ says (table_record 3 ++ cell_record 4 1 65535 ++ operation_record 3 1 50 ++ schedule_record (0 ∷ 0 ∷ []))
    "rows 1 done 1 lost 0 idle 1\nrow 0 update 1 50 held pinned\nlog 0\ncell 4 1 pinned\n"
    ∷ says (wide_table_record 3 ++ wide_cell_record 4 1 (flagged 3) ++ wide_operation_record 3 1 (plain 50) ++ schedule_record (0 ∷ 0 ∷ []))
    "rows 1 done 1 lost 0 idle 1\nrow 0 update 1 50 held atleast 3\nlog 0\ncell 4 1 atleast 3\n"
    ∷ []

-- FURTHER CASES, which the document does not work out. Each stands at an edge of one of its sentences, so that a definition that says
-- another thing there has a row against it, whatever the code does. Five lists: numbers, calls of the run, files, texts and whole runs.

-- The homes are those of keys for which another modulus, or a multiplier beside 40,503, gives another home.
unfoldable pub further_numbers : List Case
further_numbers =
    -- "Home of a key: (key × 40,503) mod 65,536, divided by (65,536 / c), rounded down."
    home_is 65534 8 6 ∷ home_is 65534 64 48 ∷ home_is 65534 4096 3129
    ∷ home_is 40000 8 0 ∷ home_is 40000 64 4 ∷ home_is 40000 4096 284
    ∷ home_is 12345 8 4 ∷ home_is 12345 64 34 ∷ home_is 12345 4096 2211
    ∷ home_is 32767 8 7 ∷ home_is 32767 64 56 ∷ home_is 32767 4096 3612
    ∷ home_is 257 16 13 ∷ home_is 1 4096 2531
    -- "giving 65,535 where c or the key is not allowed"
    ∷ home_is 0 8 65535 ∷ home_is 65535 8 65535 ∷ home_is 65536 8 65535
    ∷ home_is 1 0 65535 ∷ home_is 1 3 65535 ∷ home_is 1 12 65535 ∷ home_is 1 8192 65535
    -- "Adding two totals gives their sum, or 65,535 if the sum is larger."; "Total 65,535 is pinned"
    ∷ sum_is 0 0 0 false ∷ sum_is 0 65534 65534 false ∷ sum_is 40 25 65 false
    ∷ sum_is 32767 32767 65534 false ∷ sum_is 32768 32767 131071 true ∷ sum_is 32768 32768 131071 true ∷ sum_is 65535 1 65535 true
    -- "The key is the upper sixteen bits of the word, the total the lower sixteen."; "kind × 2^32 + key × 65,536 + amount"; "code × 65,536 +
    -- total"; "Key 65,535 with total 0 is a tombstone": words as numbers, in which add (1, 5) and then remove 1 change a cell
    ∷ leaves (job (0 ∷ 0 ∷ 0 ∷ 0 ∷ 0x00010028 ∷ 0 ∷ 0 ∷ 0 ∷ []) (0x0400010005 ∷ 0x0500010000 ∷ []) (0 ∷ 0 ∷ 1 ∷ 1 ∷ []))
    (left (0 ∷ 0 ∷ 0 ∷ 0 ∷ 0xFFFF0000 ∷ 0 ∷ 0 ∷ 0 ∷ []) (0x00040028 ∷ 0x0005002D ∷ []) (0 ∷ 1 ∷ []) 2 0 0)
    ∷ []

-- calls of the run, with slices as long as the operations
abbrev refused_call : List ℕ → List ℕ → List ℕ → ℕ → ℕ → Case
refused_call cells operations schedule =
    turned_away (length operations) (length operations) (job cells operations schedule)

abbrev refused_rows : List ℕ → ℕ → Case
refused_rows operations place = refused_call (table 8 []) operations [] 5 place

abbrev find1 : ℕ
find1 = operation 1 1 0

abbrev gone : ℕ → Placed
gone n = at n 65535 0

-- "Where a call is turned away", the rows of the run: each met, and just not met. Where a call that is taken would be dear to compute, one
-- that is turned away by a later row shows that the earlier is not met.
unfoldable pub further_calls : List Case
further_calls =
    -- 1: "c not allowed"
    refused (table 5 []) 1 0 ∷ refused (table 6 []) 1 0 ∷ refused (table 7 []) 1 0 ∷ refused (table 9 []) 1 0
    ∷ refused (table 24 []) 1 0 ∷ refused (table 63 []) 1 0 ∷ refused (table 8192 []) 1 0
    ∷ begins (table 8 []) [] ∷ begins (table 16 []) [] ∷ begins (table 32 []) [] ∷ begins (table 64 []) []
    ∷ refused_call (table 4096 []) (replicate 65 find1) [] 2 0
    -- 2: "over 64 rows or 16,384 entries", these with no room for the answer
    ∷ refused_call (table 8 []) (replicate 65 find1) [] 2 0
    ∷ begins (table 8 []) (replicate 64 find1)
    ∷ turned_away 0 0 (job (table 8 []) (find1 ∷ []) (replicate 16385 0)) 2 0
    ∷ turned_away 0 0 (job (table 8 []) (find1 ∷ []) (replicate 16384 0)) 3 0
    -- 3: "answers or log shorter than the rows". Longer ones: "later elements keep their contents"
    ∷ turned_away 1 2 (job (table 8 []) (find1 ∷ find1 ∷ []) (0 ∷ [])) 3 0
    ∷ turned_away 2 1 (job (table 8 []) (find1 ∷ find1 ∷ []) (0 ∷ [])) 3 0
    ∷ leaves (job (table 8 []) (find1 ∷ find1 ∷ []) (1 ∷ [])) (left (table 8 []) (0 ∷ answer 6 0 ∷ []) (1 ∷ 9 ∷ []) 1 0 0)
    ∷ leaves_in 4 3 (job (table 8 []) (find1 ∷ find1 ∷ []) (1 ∷ [])) (left (table 8 []) (0 ∷ answer 6 0 ∷ 9 ∷ 9 ∷ []) (1 ∷ 9 ∷ 9 ∷ []) 1 0 0)
    -- 4: "key 0 or 65,535 with a total other than 0", at the "first such cell"
    ∷ refused (table 8 (at 0 0 1 ∷ [])) 4 0 ∷ refused (table 8 (at 7 0 65535 ∷ [])) 4 7
    ∷ refused (table 8 (at 3 65535 1 ∷ [])) 4 3 ∷ refused (table 8 (at 6 0 1 ∷ at 2 65535 65535 ∷ gone 1 ∷ [])) 4 2
    ∷ begins (table 8 (gone 3 ∷ [])) [] ∷ begins (table 8 (at 4 1 0 ∷ at 6 65534 65535 ∷ [])) []
    -- 5: "a row not as above, or bits above the kind set", at the "first such row": kinds, keys, bits above the kind, amounts
    ∷ refused_rows (operation 0 1 0 ∷ []) 0 ∷ refused_rows (operation 6 1 0 ∷ []) 0 ∷ refused_rows (operation 129 1 0 ∷ []) 0
    ∷ refused_rows (operation 4 0 1 ∷ []) 0 ∷ refused_rows (operation 4 65535 1 ∷ []) 0
    ∷ refused_rows (operation (2 ^ 8 + 1) 1 0 ∷ []) 0 ∷ refused_rows (operation (2 ^ 31 + 1) 1 0 ∷ []) 0
    ∷ refused_rows (operation 1 1 1 ∷ []) 0 ∷ refused_rows (operation 1 1 65535 ∷ []) 0
    ∷ refused_rows (operation 5 1 1 ∷ []) 0 ∷ refused_rows (operation 5 1 65535 ∷ []) 0
    ∷ refused_rows (find1 ∷ operation 5 1 1 ∷ operation 0 1 0 ∷ []) 1
    ∷ begins (table 8 []) (operation 1 1 0 ∷ operation 2 1 0 ∷ operation 3 1 0 ∷ operation 4 1 0 ∷ operation 5 65534 0 ∷ [])
    ∷ begins (table 8 []) (operation 2 1 65535 ∷ operation 3 1 65535 ∷ operation 4 65534 65535 ∷ [])
    -- 6: "entry not below the number of rows", at the "first such entry"
    ∷ refused_call (table 8 []) [] (0 ∷ []) 6 0 ∷ refused_call (table 8 []) (find1 ∷ find1 ∷ []) (1 ∷ 0 ∷ 2 ∷ 255 ∷ []) 6 2
    ∷ leaves (job (table 8 []) (find1 ∷ find1 ∷ []) (1 ∷ 0 ∷ [])) (left (table 8 []) (answer 6 0 ∷ answer 6 0 ∷ []) (1 ∷ 0 ∷ []) 2 0 0)
    -- 7: "live key also in a lower cell", at the "lowest such cell": a third cell, a lower cell round the end, two keys; tombstones are not live
    ∷ refused (table 8 (at 4 1 1 ∷ at 5 1 2 ∷ at 6 1 3 ∷ [])) 7 5 ∷ refused (table 8 (at 0 8 1 ∷ at 7 8 1 ∷ [])) 7 7
    ∷ refused (table 8 (at 0 5 1 ∷ at 1 5 1 ∷ at 4 1 1 ∷ at 5 1 1 ∷ [])) 7 1
    ∷ begins (table 8 (gone 4 ∷ gone 5 ∷ gone 0 ∷ [])) []
    -- 8: "a live key's cell with an empty cell before it, counting from its home, home included", at the "lowest such live cell"; round the
    -- end too; a tombstone is not empty, and of the cells after its own none counts
    ∷ refused (table 8 (at 2 2 1 ∷ at 6 1 1 ∷ at 7 8 1 ∷ [])) 8 2 ∷ refused (table 8 (at 4 1 1 ∷ at 6 9 1 ∷ [])) 8 6
    ∷ refused (table 8 (at 0 16 3 ∷ [])) 8 0 ∷ refused (table 8 (at 7 8 1 ∷ at 1 16 3 ∷ [])) 8 1
    ∷ refused (table 8 (at 4 1 1 ∷ gone 5 ∷ gone 6 ∷ gone 0 ∷ gone 1 ∷ gone 2 ∷ at 3 9 1 ∷ [])) 8 3
    ∷ begins (table 8 (at 4 1 1 ∷ gone 5 ∷ gone 6 ∷ gone 7 ∷ gone 0 ∷ gone 1 ∷ gone 2 ∷ at 3 9 1 ∷ [])) []
    ∷ begins (table 8 (gone 4 ∷ at 5 9 25 ∷ at 7 8 1 ∷ at 0 16 3 ∷ [])) []
    -- "The first condition met, in table order within each entry point, decides.": calls that meet two or more
    ∷ refused_call (table 12 []) (replicate 65 find1) [] 1 0
    ∷ turned_away 0 0 (job (table 8 []) (replicate 65 find1) []) 2 0
    ∷ turned_away 0 0 (job (table 8 (at 1 0 1 ∷ [])) (find1 ∷ []) []) 3 0
    ∷ refused_call (table 8 (at 7 0 1 ∷ [])) (operation 0 1 0 ∷ []) (1 ∷ []) 4 7
    ∷ refused_call (table 8 (at 4 1 1 ∷ at 5 1 1 ∷ [])) (find1 ∷ operation 1 1 1 ∷ []) (2 ∷ []) 5 1
    ∷ refused_call (table 8 (at 0 1 1 ∷ at 4 1 1 ∷ at 5 1 1 ∷ [])) (find1 ∷ []) (0 ∷ 0 ∷ 0 ∷ 0 ∷ 0 ∷ 1 ∷ []) 6 5
    ∷ refused (table 8 (at 4 1 1 ∷ at 5 1 1 ∷ at 7 0 1 ∷ [])) 4 7
    ∷ refused (table 8 (at 5 1 1 ∷ at 6 1 1 ∷ [])) 7 6
    ∷ []

abbrev find1_record : List ℕ
find1_record = operation_record 1 1 0

-- "Where a call is turned away", the rows of the reader, and what it makes of a file
unfoldable pub further_files : List Case
further_files =
    -- "The reader fills lent slices for at least 4,096 cells, 64 rows and 16,384 entries, and returns how many of each it wrote; elements past
    -- those keep their contents."; "Cells not named are empty."; "Numbers of several bytes have the high byte first."
    reads
    (table_record 4 ++ cell_record 0 258 772 ++ cell_record 15 65535 65535 ++ operation_record 255 258 772 ++ find1_record
    ++ schedule_record (7 ∷ 255 ∷ []) ++ schedule_record (0 ∷ []))
    (job (0x01020304 ∷ replicate 14 0 ++ (0xFFFFFFFF ∷ [])) (0xFF01020304 ∷ 0x0100010000 ∷ []) (7 ∷ 255 ∷ 0 ∷ []))
    -- 3: "a lent slice too short", before any record
    ∷ judged_in 4095 64 16384 (table_record 3) 3 0 ∷ judged_in 4096 63 16384 (table_record 3) 3 0 ∷ judged_in 4096 64 16383 (table_record 3) 3 0
    ∷ judged_in 4096 64 16384 (table_record 3) 0 0 ∷ judged_in 4096 64 16383 [] 3 0 ∷ unread (table_record 3) 9 2 1 3 0
    -- 12: "file over 65,535 bytes" stands among the conversions, which judge a file as its reader does; it is dear to compute
    -- 10: "empty file, or fewer than two bytes of a mark", at "its offset"
    ∷ says [] "refused 10 at 0\n" ∷ says (text "T") "refused 10 at 0\n" ∷ says (text "X") "refused 10 at 0\n"
    ∷ says (table_record 3 ++ text "C") "refused 10 at 3\n"
    -- 9: "unknown mark, or mark out of order", before the body is looked at
    ∷ says (text "XX") "refused 9 at 0\n" ∷ says (text "BT") "refused 9 at 0\n" ∷ says (text "TL") "refused 9 at 0\n"
    ∷ says (table_record 3 ++ text "SP") "refused 9 at 3\n"
    ∷ says (text "CL") "refused 9 at 0\n" ∷ says (text "OP") "refused 9 at 0\n" ∷ says (text "SC") "refused 9 at 0\n"
    ∷ says (table_record 3 ++ text "TB") "refused 9 at 3\n"
    ∷ says (table_record 3 ++ cell_record 4 1 1 ++ text "TB") "refused 9 at 11\n"
    ∷ says (table_record 3 ++ find1_record ++ text "CL") "refused 9 at 10\n"
    ∷ says (table_record 3 ++ find1_record ++ schedule_record (0 ∷ []) ++ text "OP") "refused 9 at 14\n"
    ∷ says (table_record 3 ++ schedule_record (0 ∷ []) ++ text "CL") "refused 9 at 7\n"
    -- 10: "body incomplete"
    ∷ says (text "TB") "refused 10 at 0\n"
    ∷ says (table_record 3 ++ text "CL" ++ (0 ∷ 4 ∷ 0 ∷ 1 ∷ 0 ∷ [])) "refused 10 at 3\n"
    ∷ says (table_record 3 ++ text "OP" ++ (1 ∷ 0 ∷ 1 ∷ 0 ∷ [])) "refused 10 at 3\n"
    ∷ says (table_record 3 ++ find1_record ++ text "SC") "refused 10 at 10\n"
    ∷ says (table_record 3 ++ find1_record ++ text "SC" ++ (2 ∷ 0 ∷ [])) "refused 10 at 10\n"
    -- 11: "TB, CL or SC body not as above": "k, .. to 12". "TB 3 and 12 read; 2 and 13 give 11": 2 reads by document 02, "A2".
    ∷ says (table_record 13) "refused 11 at 0\n" ∷ says (table_record 64) "refused 11 at 0\n" ∷ says (table_record 255) "refused 11 at 0\n"
    ∷ says (table_record 2) "rows 0 done 0 lost 0 idle 0\nlog\n" ∷ judged (table_record 3) 0 0 ∷ judged (table_record 12) 0 0
    -- "Cell numbers ascend, none twice, and are below c; the key is not 0."
    ∷ says (table_record 3 ++ cell_record 8 1 1) "refused 11 at 3\n"
    ∷ says (table_record 12 ++ cell_record 4096 1 1) "refused 11 at 3\n"
    ∷ judged (table_record 12 ++ cell_record 4095 1 1) 0 0
    ∷ says (table_record 3 ++ cell_record 5 9 1 ++ cell_record 4 1 1) "refused 11 at 11\n"
    ∷ says (table_record 3 ++ cell_record 4 1 1 ++ cell_record 4 1 1) "refused 11 at 11\n"
    ∷ says (table_record 3 ++ cell_record 4 1 1 ++ cell_record 5 0 0) "refused 11 at 11\n"
    ∷ judged (table_record 3 ++ cell_record 0 5 1 ++ cell_record 7 8 1) 0 0
    -- "count (one byte, 1 to 255)"
    ∷ says (table_record 3 ++ find1_record ++ schedule_record []) "refused 11 at 10\n"
    ∷ says (table_record 3 ++ find1_record ++ schedule_record (replicate 255 0))
    "rows 1 done 1 lost 0 idle 254\nrow 0 find 1 0 absent 0\nlog 0\n"
    -- 2: "the 65th row, or more than 16,384 entries". Both are counted here at one record: files of 65 are dear to compute, and those of 65 rows
    -- stand among the conversions.
    ∷ after_rows 64 find1_record 2 ∷ after_rows 63 find1_record 0
    ∷ counted 0 255 0 255 ∷ counted 16320 64 0 16384 ∷ counted 16320 65 2 16385 ∷ counted 16384 1 2 16385
    -- "It leaves checks 4 to 8 to the run.": their places are cells, rows and entries
    ∷ says (table_record 3 ++ cell_record 6 65535 1) "refused 4 at 6\n"
    ∷ says (table_record 3 ++ find1_record ++ operation_record 5 1 1) "refused 5 at 1\n"
    ∷ says (table_record 3 ++ schedule_record (0 ∷ [])) "refused 6 at 0\n"
    ∷ says (table_record 3 ++ cell_record 4 1 1 ++ cell_record 6 1 1) "refused 7 at 6\n"
    -- "The reader takes records in file order and reports the first faulty one."
    ∷ says (table_record 3 ++ cell_record 8 1 1 ++ text "XX") "refused 11 at 3\n"
    ∷ []

-- Every kind and every answer in one run: the kinds on their own keys, update on a true total and on a pinned one; then on missing ones; the last
-- two rows have too few entries or none.
unfoldable pub every_file : List ℕ
every_file =
    table_record 3
    ++ cell_record 0 5 65534 ++ cell_record 1 2 20 ++ cell_record 2 7 65535 ++ cell_record 3 4 40 ++ cell_record 4 1 10 ++ cell_record 5 6 60
    ++ cell_record 6 3 30
    ++ operation_record 1 5 0 ++ operation_record 2 8 65535 ++ operation_record 2 2 7 ++ operation_record 3 6 65534 ++ operation_record 3 7 65534
    ++ operation_record 4 4 65534 ++ operation_record 5 1 0 ++ operation_record 1 9 0 ++ operation_record 4 9 1 ++ operation_record 3 10 65535
    ++ operation_record 5 17 0 ++ operation_record 2 65534 0
    ++ schedule_record (0 ∷ 1 ∷ 1 ∷ 2 ∷ 3 ∷ 3 ∷ 4 ∷ 5 ∷ 5 ∷ 6 ∷ 6 ∷ [])
    ++ schedule_record (replicate 8 9) ++ schedule_record (replicate 8 8) ++ schedule_record (replicate 8 7) ++ schedule_record (replicate 7 10)

unfoldable pub every_text : List ℕ
every_text =
    text "rows 12 done 10 lost 0 idle 0\n"
    ++ text "row 0 find 5 0 found 65534\n"
    ++ text "row 1 insert 8 pinned inserted 0\n"
    ++ text "row 2 insert 2 7 present 20\n"
    ++ text "row 3 update 6 65534 changed 60\n"
    ++ text "row 4 update 7 65534 held pinned\n"
    ++ text "row 5 add 4 65534 capped 40\n"
    ++ text "row 6 remove 1 0 removed 10\n"
    ++ text "row 7 find 9 0 absent 0\n"
    ++ text "row 8 add 9 1 full 0\n"
    ++ text "row 9 update 10 pinned absent 0\n"
    ++ text "row 10 remove 17 0 unfinished 0\n"
    ++ text "row 11 insert 65534 0 unfinished 0\n"
    ++ text "log 0 1 2 3 4 5 6 9 8 7\n"
    ++ text "cell 0 5 65534\n"
    ++ text "cell 1 2 20\n"
    ++ text "cell 2 7 pinned\n"
    ++ text "cell 3 4 pinned\n"
    ++ text "cell 4 gone\n"
    ++ text "cell 5 6 65534\n"
    ++ text "cell 6 3 30\n"
    ++ text "cell 7 8 pinned\n"

unfoldable pub further_texts : List Case
further_texts =
    -- "row number, kind, key, amount, answer, its total"; "A total or amount of 65,535 is written pinned."
    writes every_file every_text
    -- "the log (the word alone if nobody finished); then each non-empty cell with key and total, a tombstone as `cell 4 gone`"
    ∷ says (table_record 3) "rows 0 done 0 lost 0 idle 0\nlog\n"
    ∷ says (table_record 4 ++ cell_record 10 65535 0 ++ cell_record 12 65534 65535 ++ find1_record)
    "rows 1 done 0 lost 0 idle 0\nrow 0 find 1 0 unfinished 0\nlog\ncell 10 gone\ncell 12 65534 pinned\n"
    ∷ []

-- A longer run than the document's: 16 cells with a tombstone and a saturated total, ten operations that take turns eight times. Rooms 9 and 17
-- begin at the tombstone, 55 and 42 pass the end of the table, and four swaps are lost.
unfoldable pub longer : Contents
longer =
    job (table 16 (at 8 65535 0 ∷ at 9 1 40 ∷ at 14 16 5 ∷ at 15 8 65535 ∷ []))
    (operation 4 1 100
    ∷ operation 4 9 25
    ∷ operation 4 17 7
    ∷ operation 4 1 65500
    ∷ operation 1 9 0
    ∷ operation 4 8 3
    ∷ operation 4 55 1
    ∷ operation 1 16 0
    ∷ operation 4 9 0
    ∷ operation 4 42 2
    ∷ [])
    (rounds 8 (0 ∷ 1 ∷ 2 ∷ 3 ∷ 4 ∷ 5 ∷ 6 ∷ 7 ∷ 8 ∷ 9 ∷ []))

-- A run with no cell to spare: four of 8 cells are not empty, one of them a tombstone, and four missing rooms are added, 9 by two rows. Adds to
-- 1 and 2, which are present, make no room, and nor does the find; 2 is saturated by what is added, 5 from the start; two swaps are lost,
-- and entries are idle. At the end no cell is empty.
unfoldable pub edge : Contents
edge =
    job (table 8 (at 0 5 65535 ∷ at 1 2 65530 ∷ at 4 65535 0 ∷ at 5 1 40 ∷ []))
    (operation 4 9 25
    ∷ operation 4 9 7
    ∷ operation 4 1 5
    ∷ operation 4 17 1
    ∷ operation 4 10 2
    ∷ operation 1 9 0
    ∷ operation 4 2 10
    ∷ operation 4 16 3
    ∷ [])
    (rounds 11 (0 ∷ 1 ∷ 2 ∷ 3 ∷ 4 ∷ 5 ∷ 6 ∷ 7 ∷ []))

-- what they leave
unfoldable pub further_runs : List Case
further_runs =
    leaves longer
    (left (table 16 (at 0 55 1 ∷ at 1 42 2 ∷ at 8 65535 0 ∷ at 9 1 65535 ∷ at 10 9 25 ∷ at 11 17 7 ∷ at 14 16 5 ∷ at 15 8 65535 ∷ []))
    (answer 4 40 ∷ answer 2 0 ∷ answer 2 0 ∷ answer 8 140 ∷ answer 6 0 ∷ answer 4 65535 ∷ answer 2 0 ∷ answer 1 5 ∷ answer 4 25 ∷ answer 2 0 ∷ [])
    (7 ∷ 0 ∷ 5 ∷ 4 ∷ 6 ∷ 1 ∷ 3 ∷ 8 ∷ 9 ∷ 2 ∷ []) 10 4 42)
    ∷ leaves edge
    (left (table 8 (at 0 5 65535 ∷ at 1 2 65535 ∷ at 2 10 2 ∷ at 3 17 1 ∷ at 4 65535 0 ∷ at 5 1 45 ∷ at 6 9 32 ∷ at 7 16 3 ∷ []))
    (answer 2 0 ∷ answer 4 25 ∷ answer 4 40 ∷ answer 2 0 ∷ answer 2 0 ∷ answer 6 0 ∷ answer 8 65530 ∷ answer 2 0 ∷ [])
    (6 ∷ 7 ∷ 2 ∷ 4 ∷ 5 ∷ 0 ∷ 1 ∷ 3 ∷ []) 8 2 54)
    ∷ []

unfoldable pub cases : List Case
cases =
    starred ++ capped ++ small_tables ++ wide_tables ++ conversions ++ retained ++ further_numbers ++ further_calls ++ further_files ++ further_texts ++ further_runs

-- all that demand 3 asks of a run
pub record Meets (wide : Bool) (j : Contents) : Type 0 where
  pub accepted : (result_of wide j).outcome.number ≡ 0
  pub only : T (only_finds_and_adds (operations_of (width_of wide) j.operations))
  pub finished : (result_of wide j).outcome.done ≡ length j.operations
  pub suffice : CellsSuffice (setting_of (width_of wide) (length j.cells)) (cells_of (width_of wide) j.cells) (operations_of (width_of wide) j.operations)
