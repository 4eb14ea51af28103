-- From what the reader, the run and the listing leave to the response to a file.
-- Assumes nothing.
use mathlib.Core.Path.{◌≡◌, refl, sym, ap, subst, ◌∙◌}
use Prim.Native.Nat.{ℕ, ◌≤◌}
use mathlib.Core.Bool.{Bool, true, false, cond}
use mathlib.Core.List.{List, map}
use native.Mathlib.Omega.{arith}
use lib.Dec.{eqb, leb}
use lib.ListN.{length, take, drop, replicate, length-map, length-replicate}
use lib.Seq.{take_at}
use borrow.Author.Tests.{eqb-false, leb-true, leb-false}
use Rattle.std.proofs.lemmas.List.{take-map}
use Rattle.io.specs.Counts.{IsPrefixLen}
use Rattle.semantics.specs.declared.Refusal.{Refusal}
use Rattle.semantics.specs.declared.Loaded.{Loaded}
use Rattle.semantics.specs.Words.{Width}
use Rattle.semantics.specs.Refusals.{most_operations, most_entries}
use Rattle.semantics.specs.Run.{Result, over, run_result}
use Rattle.semantics.specs.Text.{Handed, handed}
use Rattle.semantics.specs.RunFile.{Layout, Contents, Reading, layout_of, contents, most_cells, reader_refusal, accepted_reading, refused_reading, reading}
use Rattle.semantics.specs.Listing.{listing, refusal_text}
use Rattle.semantics.specs.Widths.{width_of, text_of, most_text_of}
use Rattle.semantics.specs.Response.{run_of, listed, response_in, is_wide, response}
use Rattle.semantics.proofs.Over.{over-length}
use Rattle.semantics.proofs.Bounded.{bounded}
use Rattle.runfile.proofs.Filled.{counts-front}

take-over : (written old : List ℕ) → take (length written) (over written old) ≡ written
unfolding over
take-over written old = take_at written (drop (length written) old) (length written) refl

-- the parts of the slices that the reader wrote
abbrev parts : Reading → Contents
parts left =
    record {
      cells = take left.loaded.cells left.cells;
      operations = take left.loaded.operations left.operations;
      schedule = take left.loaded.entries left.schedule;
    }

parts-back : (h : Contents) (cells operations schedule : List ℕ) → parts (accepted_reading h cells operations schedule) ≡ h
unfolding accepted_reading
parts-back h cells operations schedule = λ i.
    record { cells = take-over h.cells cells i; operations = take-over h.operations operations i; schedule = take-over h.schedule schedule i }

-- the response to a file that was read by the layout of a width, into slices of the lengths that the reader asks for
module _ (wide : Bool) (file : List ℕ) where
  abbrev layout : Layout
  layout = layout_of wide

  -- the text of the run of what a file holds
  abbrev pub listed_in : Contents → List ℕ
  listed_in h = listed (width_of wide) (text_of wide) h.operations (run_of (width_of wide) h)

  abbrev refusal : Refusal
  refusal = reader_refusal layout file most_cells most_operations most_entries

  responds : (z : Bool) → eqb refusal.number 0 ≡ z
      → response_in wide file ≡ cond z (listed_in (contents layout file)) (refusal_text refusal.number refusal.place)
  unfolding response_in
  responds z e = ap (λ z. cond z (listed_in (contents layout file)) (refusal_text refusal.number refusal.place)) e

  -- what the response is, from what the reader left
  unfoldable Answers : Reading → Type 0
  Answers left =
      (left.loaded.number ≡ 0 → response_in wide file ≡ listed_in (parts left))
      × ((left.loaded.number ≡ 0 → ⊥) → response_in wide file ≡ refusal_text left.loaded.number left.loaded.place)

  after_reading : (cells operations schedule : List ℕ) → length cells ≡ most_cells → length operations ≡ most_operations → length schedule ≡ most_entries
      → Answers (reading layout file cells operations schedule)
  unfolding Answers reading accepted_reading refused_reading
  after_reading cells operations schedule a b d =
      let same : reader_refusal layout file (length cells) (length operations) (length schedule) ≡ refusal = λ i. reader_refusal layout file (a i) (b i) (d i) in
      subst (λ (r : Refusal). Answers (cond (eqb r.number 0) (accepted_reading (contents layout file) cells operations schedule) (refused_reading r cells operations schedule)))
      (sym same) (go (eqb refusal.number 0) refl)
    where
      go : (z : Bool) → eqb refusal.number 0 ≡ z
          → Answers (cond z (accepted_reading (contents layout file) cells operations schedule) (refused_reading refusal cells operations schedule))
      go true e = (
        λ n. responds true e ∙ ap listed_in (sym (parts-back (contents layout file) cells operations schedule)),
        λ n. absurd (n refl),
      )
      go false e = (λ n. absurd (eqb-false refusal.number 0 e n), λ n. responds false e)

-- of words, whatever their type, that the reader left in slices of the lengths that a response has
module _ {A : Type 0} (number : A → ℕ) (wide : Bool) {W : Width} (width : W ≡ width_of wide) (file out : List ℕ) (cells cells' answers : List A) {operations' schedule' : List ℕ}
    {loaded : Loaded} (whole : length cells ≡ most_cells) (fresh : map number answers ≡ replicate most_operations 0)
    (read : reading (layout_of wide) file (map number cells) (replicate most_operations 0) (replicate most_entries 0)
    ≡ record { loaded = loaded; cells = map number cells'; operations = operations'; schedule = schedule' }) where
  answered : Answers wide file (record { loaded = loaded; cells = map number cells'; operations = operations'; schedule = schedule' })
  answered =
      subst (Answers wide file) read
      (after_reading wide file _ _ _ (length-map cells number ∙ whole) (length-replicate {A = ℕ} most_operations 0) (length-replicate {A = ℕ} most_entries 0))

  -- the run of what was read, listed
  pub run-answered : {h : Handed} → loaded.number ≡ 0 → {r : Result}
      → run_result W (map number (take loaded.cells cells')) (take loaded.operations operations') (take loaded.entries schedule') (map number answers) (replicate most_operations 0) ≡ r
      → handed (listing W (text_of wide) r.outcome (take loaded.operations operations') r.answers r.log r.cells) out ≡ h
      → handed (response_in wide file) out ≡ h
  unfolding Answers run_of listed
  run-answered accepted {r} ran listed-is =
      let operations = take loaded.operations operations' in
      let schedule = take loaded.entries schedule' in
      let ran' = λ (V : Width) (cells answers : List ℕ). run_result V cells operations schedule answers (replicate most_operations 0) in
      let of_width : ran' (width_of wide) (take loaded.cells (map number cells')) (replicate most_operations 0) ≡ r =
      (λ i. ran' (sym width i) (take-map number loaded.cells cells' i) (sym fresh i)) ∙ ran in
      ap (λ (bytes : List ℕ). handed bytes out) (answered.0 accepted)
      ∙ (λ i. handed (listed (sym width i) (text_of wide) operations (of_width i)) out)
      ∙ listed-is

  -- or the refusal
  pub refusal-answered : {h : Handed} → (loaded.number ≡ 0 → ⊥) → handed (refusal_text loaded.number loaded.place) out ≡ h → handed (response_in wide file) out ≡ h
  unfolding Answers
  refusal-answered refused told = ap (λ (bytes : List ℕ). handed bytes out) (answered.1 refused) ∙ told

-- a text that was handed over: its bytes are inside the slice, and one that fits is not refused
module _ (bytes out : List ℕ) where
  unfoldable Hands : Handed → Type 0
  Hands h = (length bytes ≤ length out → h.written.number ≡ 0) × IsPrefixLen h.written.length h.out

  hands : Hands (handed bytes out)
  unfolding Hands handed
  hands = go (leb (length bytes) (length out)) refl
    where
      go : (z : Bool) → leb (length bytes) (length out) ≡ z
          → Hands (cond z (record { written = record { number = 0; place = 0; length = length bytes }; out = over bytes out })
          (record { written = record { number = 3; place = 0; length = 0 }; out = out }))
      go true e = let b = leb-true (length bytes) (length out) e in (λ h. refl, counts-front (length bytes) (over bytes out) (omega (arith, over-length bytes out b)))
      go false e = (λ h. absurd (omega (arith, leb-false (length bytes) (length out) e)), counts-front 0 out (omega arith))

-- every clause of the promise, of a file whose first mark was looked at
module _ (file out : List ℕ) where
  abbrev Promise : Handed → Type 0
  Promise h =
      (handed (response file) out ≡ h) × ((most_text_of (is_wide file) ≤ length out → h.written.number ≡ 0) × IsPrefixLen h.written.length h.out)

  pub kept : {wide : Bool} {h : Handed} → is_wide file ≡ wide → handed (response_in wide file) out ≡ h → Promise h
  unfolding response Hands
  kept is e =
      let (whole, inside) = hands (response file) out in
      subst Promise (ap (λ (w : Bool). handed (response_in w file) out) is ∙ e) (refl, (λ b. whole (omega (arith, bounded file)), inside))
