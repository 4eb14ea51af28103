-- What is promised of a file that is converted, and that a result is too long going up alone.
-- Assumes nothing.
use mathlib.Core.Path.{◌≡◌, refl, sym, ap, subst, ◌∙◌}
use Prim.Native.Nat.{ℕ, ◌+◌, ◌≤◌, ◌<◌}
use mathlib.Core.Bool.{Bool, true, false, cond, not}
use mathlib.Core.List.{List, [], ◌∷◌, ◌++◌, map, foldl}
use mathlib.Core.Option.{some, none}
use native.Mathlib.Decide.{ℕ_discrete}
use native.Mathlib.Omega.{arith}
use lib.ListN.{length, length-append}
use borrow.Author.Tests.{le-ltb, ltb-false}
use Rattle.semantics.specs.declared.Mark.{Mark}
use Rattle.semantics.specs.declared.Mark.TheVariants.{Table, Cell, Operation, Schedule, Unknown}
use Rattle.semantics.specs.declared.Position.{Position}
use Rattle.semantics.specs.declared.Refusal.{Refusal}
use Rattle.semantics.specs.declared.Total.{Total}
use Rattle.semantics.specs.Refusals.{Condition, first_met}
use Rattle.semantics.specs.Records.{fault_at, records, record_conditions}
use Rattle.semantics.specs.RunFile.{Layout, layout_of, row, mark_at, run_file, start, conditions_at, mark_cut, mark_wrong, body_cut, body_wrong, one_too_many}
use Rattle.semantics.specs.RunFile.{file_too_long, file_conditions, file_refusal, load, contents}
use Rattle.semantics.specs.Convert.{FileRecord, head_of, record_of, record_at, file_records, file_of, bytes_of, converted, is_unfit_in, unfit_at, result_too_long}
use Rattle.semantics.specs.Convert.{conversion_conditions, conversion_refusal, Faithful}
use Rattle.semantics.proofs.Conditions.{Positive, NoneMet, none-met, none-accepts, met-early, met-late, early-accepts, late-accepts}
use Rattle.semantics.proofs.Marks.{scannable}
use Rattle.semantics.proofs.Records.{judgement}
use Rattle.semantics.proofs.Convert.{Bytes, Fit, fits, fit-taken, part_of}
use Rattle.semantics.proofs.Converted.{Chain, ends, goes, accepted-chain, chain-records, chain-accepted, AllFit, Twins, alone, both, twins, twin-records, twin-contents, twin-record, file-again, size-of, bytes-long}

-- tables of conditions in parts: their numbers, and that none of them is met
positive-append : (cs ds : List Condition) → Positive cs → Positive ds → Positive (cs ++ ds)
positive-append [] ds p q = q
positive-append (c ∷ cs) ds p q = (p.0, positive-append cs ds p.1 q)

accepts-append : (cs ds : List Condition) → Positive cs → (first_met cs).number ≡ 0 → (first_met ds).number ≡ 0 → (first_met (cs ++ ds)).number ≡ 0
accepts-append cs ds p e f = ap (λ (r : Refusal). r.number) (met-late cs ds (none-met cs p e)) ∙ f

abbrev Below : ℕ → List Condition → Type 0
Below n [] = Unit
Below n (c ∷ more) = (c.number < n) × Below n more

below-append : (n : ℕ) (cs ds : List Condition) → Below n cs → Below n ds → Below n (cs ++ ds)
below-append n [] ds p q = q
below-append n (c ∷ cs) ds p q = (p.0, below-append n cs ds p.1 q)

met-below : (n : ℕ) (cs : List Condition) → 0 < n → Below n cs → (first_met cs).number < n
unfolding first_met
met-below n [] z b = z
met-below n (c ∷ cs) z b = go c.met (met-below n cs z b.1)
  where
    go : (m : Bool) → (first_met cs).number < n → (cond m (record { number = c.number; place = c.place }) (first_met cs)).number < n
    go true r = b.0
    go false r = r

module _ (L : Layout) (file : List ℕ) where
  positive-records : (ps : List Position) → Positive (record_conditions (run_file L) file ps)
  unfolding record_conditions
  positive-records [] = tt
  positive-records (p ∷ ps) = positive-append (conditions_at L file p) _ ((scannable L file).positive p) (positive-records ps)

  below-records : (ps : List Position) → Below 22 (record_conditions (run_file L) file ps)
  unfolding record_conditions conditions_at mark_cut mark_wrong body_cut body_wrong one_too_many
  below-records [] = tt
  below-records (p ∷ ps) = (omega arith, (omega arith, (omega arith, (omega arith, (omega arith, below-records ps)))))

  pub positive-file : Positive (file_conditions L file)
  unfolding file_conditions file_too_long
  positive-file = (omega arith, positive-records (records (run_file L) file start))

  below-file : Below 22 (file_conditions L file)
  unfolding file_conditions file_too_long
  below-file = (omega arith, below-records (records (run_file L) file start))

  -- what an accepted file says
  module _ (ok : (file_refusal L file).number ≡ 0) where
    pub short-file : length file ≤ 65535
    unfolding file_refusal file_conditions file_too_long
    short-file = ltb-false 65535 (length file) (none-met (file_conditions L file) positive-file ok).0

    pub records-sound : (judgement (run_file L) file (records (run_file L) file start)).number ≡ 0
    unfolding file_refusal file_conditions file_too_long
    records-sound = late-accepts (file_too_long file ∷ []) _ (omega arith) ok

    pub file-chain : Chain L file start (records (run_file L) file start)
    file-chain = accepted-chain L file records-sound

  pub file-accepted : length file ≤ 65535 → (judgement (run_file L) file (records (run_file L) file start)).number ≡ 0 → (file_refusal L file).number ≡ 0
  unfolding file_refusal file_conditions file_too_long
  file-accepted h e =
      accepts-append (file_too_long file ∷ []) _ (omega arith) (none-accepts (file_too_long file ∷ []) (le-ltb 65535 (length file) h, tt)) e

-- the conditions of a conversion, in their three parts
module _ (flagged : Bool) (file : List ℕ) where
  abbrev pub L : Layout
  L = layout_of flagged

  abbrev pub ps : List Position
  ps = records (run_file L) file start

  abbrev unfit : List Position → List Condition
  unfit qs = map (unfit_at flagged file) qs

  pub positive-unfit : (qs : List Position) → Positive (unfit qs)
  unfolding unfit_at
  positive-unfit [] = tt
  positive-unfit (q ∷ qs) = (omega arith, positive-unfit qs)

  below-unfit : (qs : List Position) → Below 22 (unfit qs)
  unfolding unfit_at
  below-unfit [] = tt
  below-unfit (q ∷ qs) = (omega arith, below-unfit qs)

  pub conversion-accepted : (file_refusal L file).number ≡ 0 → (first_met (unfit ps)).number ≡ 0 → length (converted flagged file) ≤ 65535
      → (conversion_refusal flagged file).number ≡ 0
  unfolding conversion_refusal conversion_conditions file_refusal result_too_long
  conversion-accepted e f h =
      accepts-append (file_conditions L file ++ unfit ps) (result_too_long flagged file ∷ [])
      (positive-append (file_conditions L file) (unfit ps) (positive-file L file) (positive-unfit ps))
      (accepts-append (file_conditions L file) (unfit ps) (positive-file L file) e f)
      (none-accepts (result_too_long flagged file ∷ []) (le-ltb 65535 (length (converted flagged file)) h, tt))

  pub record Accepted : Type 0 where
    pub file-accepted : (file_refusal L file).number ≡ 0
    pub none-unfit : NoneMet (unfit ps)
    pub short : length (converted flagged file) ≤ 65535

  pub accepted-parts : (conversion_refusal flagged file).number ≡ 0 → Accepted
  unfolding conversion_refusal conversion_conditions file_refusal result_too_long
  accepted-parts ok =
      let front = early-accepts (file_conditions L file ++ unfit ps) (result_too_long flagged file ∷ []) ok in
      let all = positive-append (file_conditions L file) (unfit ps) (positive-file L file) (positive-unfit ps) in
      record {
        file-accepted = early-accepts (file_conditions L file) (unfit ps) front;
        none-unfit = none-met (unfit ps) (positive-unfit ps) (late-accepts (file_conditions L file) (unfit ps) (positive-file L file) front);
        short =
            ltb-false 65535 (length (converted flagged file))
            (none-met (result_too_long flagged file ∷ []) (omega arith) (late-accepts (file_conditions L file ++ unfit ps) (result_too_long flagged file ∷ []) all ok)).0;
      }

  -- and never where the reader refuses the file
  pub refused-lower : ((file_refusal L file).number ≡ 0 → ⊥) → (conversion_refusal flagged file).number ≡ 22 → ⊥
  unfolding conversion_refusal conversion_conditions file_refusal
  refused-lower n e =
      let front = file_conditions L file ++ unfit ps in
      let low = met-below 22 (file_conditions L file) (omega arith) (below-file L file) in
      let is = ap (λ (r : Refusal). r.number) (met-early (file_conditions L file) (unfit ps) n) in
      let all = ap (λ (r : Refusal). r.number) (met-early front (result_too_long flagged file ∷ []) (λ z. n (sym is ∙ z))) in
      omega arith

  -- 22 is the answer only where the result is too long
  pub answers-22 : length (converted flagged file) ≤ 65535 → (conversion_refusal flagged file).number ≡ 22 → ⊥
  unfolding conversion_refusal conversion_conditions result_too_long
  answers-22 h e =
      let front = file_conditions L file ++ unfit ps in
      let low = met-below 22 front (omega arith) (below-append 22 (file_conditions L file) (unfit ps) (below-file L file) (below-unfit ps)) in
      elim (ℕ_discrete (first_met front).number 0) [
        | yes z ↦ let all = positive-append (file_conditions L file) (unfit ps) (positive-file L file) (positive-unfit ps) in
            let none : (first_met (front ++ (result_too_long flagged file ∷ []))).number ≡ 0 =
            accepts-append front (result_too_long flagged file ∷ []) all z
            (none-accepts (result_too_long flagged file ∷ []) (le-ltb 65535 (length (converted flagged file)) h, tt)) in
            omega arith
        | no n ↦ let is = ap (λ (r : Refusal). r.number) (met-early front (result_too_long flagged file ∷ []) n) in omega arith
      ]

-- the totals of records that are not refused with 13 fit, and those that fit are refused nowhere
all_fit : (flagged : Bool) (file : List ℕ) → Bytes file → (qs : List Position) → NoneMet (map (unfit_at flagged file) qs) → AllFit flagged file qs
unfolding unfit_at is_unfit_in record_at record_of
all_fit flagged file b [] h = tt
all_fit flagged file b (q ∷ qs) h =
    let at = q.at + head_of (layout_of flagged) file q.at (mark_at (layout_of flagged) file q.at) in (
      (λ e. fits flagged b at (subst (λ z. is_unfit_in flagged (cond z (some ((layout_of flagged).total_at file at)) none) ≡ false) e h.0)),
      all_fit flagged file b qs h.1,
    )

module _ (flagged : Bool) (file file' : List ℕ) where
  fit-record : (p : Position) → AllFit flagged file (p ∷ []) → is_unfit_in (not flagged) (record_at (layout_of flagged) file p).total ≡ false
  unfolding is_unfit_in record_at record_of
  fit-record p fit = go (row (layout_of flagged) (mark_at (layout_of flagged) file p.at)).holds_total fit.0
    where
      go : (z : Bool) {t : Total} → (z ≡ true → Fit t) → is_unfit_in (not flagged) (cond z (some t) none) ≡ false
      go true f = fit-taken (not flagged) (f refl)
      go false f = refl

  twin-unfit : {ps qs : List Position} → Twins flagged (not flagged) file file' ps qs → AllFit flagged file ps → NoneMet (map (unfit_at (not flagged) file') qs)
  unfolding unfit_at
  twin-unfit alone fit = tt
  twin-unfit (both {p = p} {q = q} ok c rest) fit = (
    ap (λ (r : FileRecord). is_unfit_in (not flagged) r.total) (twin-record flagged (not flagged) file file' p q c) ∙ fit-record p (fit.0, tt),
    twin-unfit rest fit.1,
  )

not-not : (b : Bool) → not (not b) ≡ b
not-not true = refl
not-not false = refl

module _ (flagged : Bool) (file : List ℕ) (bytes : Bytes file) (ok : (conversion_refusal flagged file).number ≡ 0) where
  abbrev file' : List ℕ
  file' = converted flagged file

  abbrev to-L : Layout
  to-L = layout_of (not flagged)

  yes-parts : Accepted flagged file
  yes-parts = accepted-parts flagged file ok

  chain : Chain (L flagged file) file start (ps flagged file)
  chain = file-chain (L flagged file) file yes-parts.file-accepted

  fit : AllFit flagged file (ps flagged file)
  fit = all_fit flagged file bytes (ps flagged file) yes-parts.none-unfit

  beside : (qs : List Position) × Chain to-L file' start qs × Twins flagged (not flagged) file file' (ps flagged file) qs
  unfolding converted file_records
  beside =
      twins flagged (not flagged) file file' chain fit start (record { part = refl; size = refl; lowest = refl; operations = refl; entries = refl }) refl

  same-list : records (run_file to-L) file' start ≡ beside.0
  unfolding records
  same-list = chain-records to-L file' beside.1 (length file') (omega arith)

  taken : (file_refusal to-L file').number ≡ 0
  taken =
      file-accepted to-L file' yes-parts.short
      (ap (λ qs. (judgement (run_file to-L) file' qs).number) same-list ∙ chain-accepted to-L file' beside.1)

  records-kept : file_records to-L file' ≡ file_records (L flagged file) file
  unfolding file_records
  records-kept = ap (map (record_at to-L file')) same-list ∙ twin-records flagged (not flagged) file file' beside.2

  returned : converted (not flagged) file' ≡ file
  unfolding converted file_records
  returned =
      ap (file_of (layout_of (not (not flagged)))) records-kept
      ∙ ap (λ b. file_of (layout_of b) (map (record_at (L flagged file) file) (ps flagged file))) (not-not flagged)
      ∙ file-again flagged bytes chain

  pub faithful : Faithful flagged file
  unfolding contents
  faithful =
      record {
        accepted = taken;
        same-records = records-kept;
        same-contents =
            ap (λ qs. foldl (load to-L file') (record { cells = []; operations = []; schedule = [] }) qs) same-list
            ∙ twin-contents flagged file file' bytes beside.2 fit (record { cells = []; operations = []; schedule = [] });
        back-accepted =
            conversion-accepted (not flagged) file' taken
            (none-accepts (map (unfit_at (not flagged) file') (records (run_file to-L) file' start))
            (subst (λ qs. NoneMet (map (unfit_at (not flagged) file') qs)) (sym same-list) (twin-unfit flagged file file' beside.2 fit)))
            (subst (λ l. length l ≤ 65535) (sym returned) (short-file (L flagged file) file yes-parts.file-accepted));
        back = returned;
      }

-- "then each refuses a result above 65,535 bytes": going down there is none, since no record grows
part-less : (m : Mark) → part_of false m ≤ part_of true m
part-less Table = omega arith
part-less Cell = omega arith
part-less Operation = omega arith
part-less Schedule = omega arith
part-less Unknown = omega arith

no_longer : (file : List ℕ) (p : Position) → fault_at (run_file (layout_of true)) file p ≡ 0
    → length (bytes_of (layout_of false) (record_at (layout_of true) file p)) ≤ length (bytes_of (layout_of true) (record_at (layout_of true) file p))
unfolding size-of
no_longer file p e =
    omega (arith, bytes-long true false file [] p e, bytes-long true true file [] p e, part-less (mark_at (layout_of true) file p.at))

shrinks : (file : List ℕ) {p : Position} {ps : List Position} → Chain (layout_of true) file p ps
    → length (file_of (layout_of false) (map (record_at (layout_of true) file) ps)) ≤ length (file_of (layout_of true) (map (record_at (layout_of true) file) ps))
unfolding file_of
shrinks file {p} (ends e h) =
    let r = record_at (layout_of true) file p in
    omega (arith, no_longer file p e, length-append (bytes_of (layout_of false) r) [], length-append (bytes_of (layout_of true) r) [])
shrinks file {p} (goes {ps = ps} e h c) =
    let r = record_at (layout_of true) file p in
    let rest = map (record_at (layout_of true) file) ps in
    omega
    (arith, no_longer file p e, shrinks file c, length-append (bytes_of (layout_of false) r) (file_of (layout_of false) rest), length-append (bytes_of (layout_of true) r) (file_of (layout_of true) rest))

narrowed-short : (file : List ℕ) → Bytes file → (file_refusal (layout_of true) file).number ≡ 0 → length (converted true file) ≤ 65535
unfolding converted file_records
narrowed-short file bytes ok =
    let chain = file-chain (layout_of true) file ok in
    omega (arith, shrinks file chain, ap length (file-again true bytes chain), short-file (layout_of true) file ok)

pub never-22 : (file : List ℕ) → Bytes file → (conversion_refusal true file).number ≡ 22 → ⊥
never-22 file bytes e = elim (ℕ_discrete (file_refusal (layout_of true) file).number 0) [
  | yes ok ↦ answers-22 true file (narrowed-short file bytes ok) e
  | no refused ↦ refused-lower true file refused e
]
