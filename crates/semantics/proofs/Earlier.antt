-- Document 02, "A2": "Runs accepted before give the same results." By a test of sizes that agrees with `size_allowed` on a call's own, the call
-- gives what it gives, turned away or not; and the test before that request agrees from 8 cells on.
-- Assumes nothing.
use mathlib.Core.Path.{◌≡◌, refl, ap}
use Prim.Native.Nat.{ℕ, zero, suc, ◌+◌, ◌^◌, ◌≤◌}
use mathlib.Core.Bool.{Bool, true, false, cond, ◌&&◌}
use mathlib.Core.List.{List, [], ◌∷◌}
use native.Mathlib.Omega.{arith}
use lib.Dec.{eqb, eqb→eq, ltb}
use lib.ListN.{length, replicate}
use lib.Pow.{pow_mono}
use borrow.Author.Tests.{ne_eqb}
use Rattle.semantics.specs.declared.Refusal.{Refusal}
use Rattle.semantics.specs.declared.Mark.{Mark}
use Rattle.semantics.specs.declared.Mark.TheVariants.{Table, Cell, Operation, Schedule, Unknown}
use Rattle.semantics.specs.declared.Position.{Position}
use Rattle.semantics.specs.Words.{Width, is_power_from, size_allowed}
use Rattle.semantics.specs.Narrow.{room_home}
use Rattle.semantics.specs.Refusals.{size_not_allowed, run_conditions, run_refusal, most_operations, most_entries}
use Rattle.semantics.specs.Run.{machine, accepted_result, refused_result, refusal_of, result_if, run_result}
use Rattle.semantics.specs.Records.{fault_at, goes_on, records_from, records, record_conditions}
use Rattle.semantics.specs.RunFile.{Layout, layout_of, row, byte_at, mark_at, may_follow, next_of, run_file, start}
use Rattle.semantics.specs.RunFile.{mark_wrong, body_wrong, conditions_at, file_too_long, file_conditions, slice_too_short}
use Rattle.semantics.specs.RunFile.{Contents, contents, reader_refusal, reading, most_cells}
use Rattle.semantics.specs.Listing.{refusal_text}
use Rattle.semantics.specs.Widths.{width_of, text_of}
use Rattle.semantics.specs.Response.{run_of, listed, response_in, is_wide, response}
use Rattle.semantics.specs.Earlier.{earlier_size, home_by, refusal_by, result_by, body_wrong_by, conditions_by, file_by, reader_refusal_by, contents_by, reading_by, response_by}
use Rattle.semantics.proofs.Booleans.{true-T, passed, affirmed, both}
use Rattle.semantics.proofs.Records.{from-here}
use Rattle.semantics.proofs.Marks.{follows-start, sound-next, records-accepted, begins-with-table, cells-as-said}
use Rattle.semantics.proofs.Conditions.{Same, same-append, same-decides, same-behind}

-- sizes from 8 on are allowed as they were
pub size-kept : (c : ℕ) → 8 ≤ c → earlier_size c ≡ size_allowed c
unfolding earlier_size size_allowed is_power_from
size-kept c h = rw (ne_eqb c 1 (λ e. omega arith), ne_eqb c 2 (λ e. omega arith), ne_eqb c 4 (λ e. omega arith))

module _ (allowed : ℕ → Bool) where
  pub home_same : (k c : ℕ) → allowed c ≡ size_allowed c → home_by allowed k c ≡ room_home k c
  unfolding home_by room_home
  home_same k c e = rw e

  -- a call of the run
  module _ (W : Width) (cells operations schedule answers log : List ℕ) (e : allowed (length cells) ≡ size_allowed (length cells)) where
    refusal-same : refusal_by allowed W cells operations schedule answers log ≡ refusal_of W cells operations schedule answers log
    unfolding refusal_by run_refusal run_conditions size_not_allowed
    refusal-same = rw e

    pub result-same : result_by allowed W cells operations schedule answers log ≡ run_result W cells operations schedule answers log
    unfolding result_by run_result result_if
    result-same = rw refusal-same (go (eqb (refusal_of W cells operations schedule answers log).number 0))
      where
        go : (b : Bool)
            → cond b (accepted_result W (machine W cells operations schedule) answers log) (refused_result (refusal_of W cells operations schedule answers log) cells answers log)
            ≡ result_if W cells operations schedule answers log b
        go true = refl
        go false = refl

module _ (allowed : ℕ → Bool) (L : Layout) (file : List ℕ) where
  -- a TB that may stand at a position is judged alike
  abbrev pub Agrees : Position → Type 0
  Agrees p =
      mark_at L file p.at ≡ Table → p.part ≡ 0 → allowed (2 ^ byte_at file (p.at + 2)) ≡ size_allowed (2 ^ byte_at file (p.at + 2))

  body_same : (p : Position) → Agrees p → (m : Mark) → mark_at L file p.at ≡ m → may_follow p.part (row L m).part ≡ true
      → body_wrong_by allowed L file p m ≡ body_wrong L file p m
  unfolding body_wrong body_wrong_by
  body_same p h Table e f = rw (h e (follows-start p.part f))
  body_same p h Cell e f = refl
  body_same p h Operation e f = refl
  body_same p h Schedule e f = refl
  body_same p h Unknown e f = refl

  conditions-same : (p : Position) → Agrees p → Same (conditions_by allowed L file p) (conditions_at L file p)
  unfolding conditions_by conditions_at mark_wrong
  conditions-same p h =
      let m = mark_at L file p.at in
      let follows = may_follow p.part (row L m).part in
      (refl, λ whole. (refl, λ f. (refl, λ there. (body_same p h m refl (passed follows (affirmed follows f)), λ right. (refl, λ few. tt)))))

  goes_same : (p : Position) → Agrees p → goes_on (file_by allowed L) file p ≡ goes_on (run_file L) file p
  unfolding goes_on fault_at
  goes_same p h =
      ap (λ (r : Refusal). eqb r.number 0 && ltb (next_of L file p).at (length file))
      (same-decides (conditions_by allowed L file p) (conditions_at L file p) (conditions-same p h))

  next-agrees : (p : Position) → goes_on (run_file L) file p ≡ true → Agrees (next_of L file p)
  unfolding goes_on
  next-agrees p g mark first = absurd (sound-next L file p (eqb→eq _ 0 (both (eqb (fault_at (run_file L) file p) 0) _ (true-T _ g)).0) first)

  records-same : (n : ℕ) (p : Position) → Agrees p → records_from (file_by allowed L) file n p ≡ records_from (run_file L) file n p
  unfolding records_from
  records-same zero p h = refl
  records-same (suc n) p h = rw (goes_same p h) (go (goes_on (run_file L) file p) (λ g. records-same n (next_of L file p) (next-agrees p g)))
    where
      go : (b : Bool) → (b ≡ true → records_from (file_by allowed L) file n (next_of L file p) ≡ records_from (run_file L) file n (next_of L file p))
          → p ∷ elim b [ true ↦ records_from (file_by allowed L) file n (next_of L file p) | false ↦ [] ]
          ≡ p ∷ elim b [ true ↦ records_from (run_file L) file n (next_of L file p) | false ↦ [] ]
      go true r = ap (λ ps. p ∷ ps) (r refl)
      go false r = refl

  abbrev JudgedSame : List Position → Type 0
  JudgedSame ps = Same (record_conditions (file_by allowed L) file ps) (record_conditions (run_file L) file ps)

  one_more : (p : Position) (ps : List Position) → Agrees p → JudgedSame ps → JudgedSame (p ∷ ps)
  unfolding record_conditions
  one_more p ps h =
      same-append (conditions_by allowed L file p) (conditions_at L file p) (record_conditions (file_by allowed L) file ps)
      (record_conditions (run_file L) file ps) (conditions-same p h)

  none-judged : JudgedSame []
  unfolding record_conditions
  none-judged = tt

  judged-same : (n : ℕ) (p : Position) → Agrees p → JudgedSame (records_from (run_file L) file n p)
  unfolding records_from
  judged-same zero p h = none-judged
  judged-same (suc n) p h =
      from-here (run_file L) file JudgedSame n p
      (λ g. one_more p (records_from (run_file L) file n (next_of L file p)) h (judged-same n (next_of L file p) (next-agrees p g)))
      (one_more p [] h none-judged)

  module _ (h : Agrees start) where
    contents-same : contents_by allowed L file ≡ contents L file
    unfolding contents_by contents records
    contents-same = rw (records-same (suc (length file)) start h)

    reader-same : (cells operations schedule : ℕ) → reader_refusal_by allowed L file cells operations schedule ≡ reader_refusal L file cells operations schedule
    unfolding reader_refusal_by reader_refusal file_conditions records
    reader-same cells operations schedule =
        let ps = records_from (run_file L) file (suc (length file)) start in
        rw (records-same (suc (length file)) start h)
        (same-behind (slice_too_short cells operations schedule ∷ file_too_long file ∷ []) (record_conditions (file_by allowed L) file ps)
        (record_conditions (run_file L) file ps) (judged-same (suc (length file)) start h))

    pub reading-same : (cells operations schedule : List ℕ) → reading_by allowed L file cells operations schedule ≡ reading L file cells operations schedule
    unfolding reading_by reading
    reading-same cells operations schedule = rw (reader-same (length cells) (length operations) (length schedule), contents-same)

-- what is written for a file
module _ (allowed : ℕ → Bool) (wide : Bool) (file : List ℕ) (h : Agrees allowed (layout_of wide) file start) where
  abbrev refusal : Refusal
  refusal = reader_refusal (layout_of wide) file most_cells most_operations most_entries

  abbrev read : Contents
  read = contents (layout_of wide) file

  abbrev slice : List ℕ
  slice = replicate most_operations 0

  size-agrees : refusal.number ≡ 0 → allowed (length (contents (layout_of wide) file).cells) ≡ size_allowed (length (contents (layout_of wide) file).cells)
  size-agrees e =
      let accepted = records-accepted (layout_of wide) file most_cells most_operations most_entries e in
      rw (cells-as-said (layout_of wide) file accepted) (h (begins-with-table (layout_of wide) file accepted) refl)

  pub response-same : response_by allowed wide file ≡ response_in wide file
  unfolding response_by response_in run_of
  response-same =
      rw (reader-same allowed (layout_of wide) file h most_cells most_operations most_entries, contents-same allowed (layout_of wide) file h)
      (go (eqb refusal.number 0) refl)
    where
      go : (b : Bool) → eqb refusal.number 0 ≡ b
          → cond b (listed (width_of wide) (text_of wide) read.operations (result_by allowed (width_of wide) read.cells read.operations read.schedule slice slice))
          (refusal_text refusal.number refusal.place)
          ≡ cond b (listed (width_of wide) (text_of wide) read.operations (run_result (width_of wide) read.cells read.operations read.schedule slice slice))
          (refusal_text refusal.number refusal.place)
      go true e =
          ap (listed (width_of wide) (text_of wide) read.operations)
          (result-same allowed (width_of wide) read.cells read.operations read.schedule slice slice (size-agrees (eqb→eq _ 0 (true-T _ e))))
      go false e = refl

-- THE CLAIM. Calls with 8 cells or more give what they gave, and so do files that do not begin with a table of fewer.
pub home-kept : (k c : ℕ) → 8 ≤ c → home_by earlier_size k c ≡ room_home k c
home-kept k c h = home_same earlier_size k c (size-kept c h)

pub run-kept : (W : Width) (cells operations schedule answers log : List ℕ) → 8 ≤ length cells
    → result_by earlier_size W cells operations schedule answers log ≡ run_result W cells operations schedule answers log
run-kept W cells operations schedule answers log h = result-same earlier_size W cells operations schedule answers log (size-kept (length cells) h)

module _ (L : Layout) (file : List ℕ) where
  abbrev pub NotFewer : Type 0
  NotFewer = mark_at L file 0 ≡ Table → 3 ≤ byte_at file 2

  agrees : NotFewer → Agrees earlier_size L file start
  agrees h mark first = size-kept (2 ^ byte_at file 2) (pow_mono {i = 3} (h mark))

  pub reading-kept : NotFewer → (cells operations schedule : List ℕ)
      → reading_by earlier_size L file cells operations schedule ≡ reading L file cells operations schedule
  reading-kept h = reading-same earlier_size L file (agrees h)

pub response-kept : (file : List ℕ) → NotFewer (layout_of (is_wide file)) file → response_by earlier_size (is_wide file) file ≡ response file
unfolding response
response-kept file h = response-same earlier_size (is_wide file) file (agrees (layout_of (is_wide file)) file h)
