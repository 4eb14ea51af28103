-- A whole file that is converted: the records of an accepted file as a chain, the chain of the file that is written beside it, and a chain that is
-- written as it was read.
-- Assumes nothing.
use mathlib.Core.Path.{◌≡◌, refl, sym, ap, ap₂, subst, ◌∙◌}
use Prim.Native.Nat.{ℕ, zero, suc, ◌+◌, ◌-◌, ◌^◌, ◌≤◌, ◌<◌}
use mathlib.Core.Bool.{Bool, true, false, cond, not, ◌||◌, and-false, true≢false}
use mathlib.Core.List.{List, [], ◌∷◌, ◌++◌, map, foldl, append_assoc, map-append}
use mathlib.Core.Option.{none, some}
use native.Mathlib.Decide.{dec_lt}
use native.Mathlib.Numerals.{add-one}
use native.Mathlib.Omega.{arith}
use lib.Dec.{eqb, eqb→eq, leb, ltb}
use lib.ListN.{length, set, take, drop, replicate, length-append, length-drop, take-append-drop, drop_of_length-le}
use lib.Seq.{drop_at, drop-drop, take-nil}
use borrow.Author.Tests.{eq-eqb, lt-ltb, le-ltb}
use Rattle.semantics.specs.declared.Mark.{Mark}
use Rattle.semantics.specs.declared.Mark.TheVariants.{Table, Cell, Operation, Schedule, Unknown}
use Rattle.semantics.specs.declared.Position.{Position}
use Rattle.semantics.specs.declared.Refusal.{Refusal}
use Rattle.semantics.specs.declared.Total.{Total}
use Rattle.semantics.specs.Narrow.{narrow}
use Rattle.semantics.specs.Text.{text}
use Rattle.semantics.specs.Widths.{width_of}
use Rattle.semantics.specs.Refusals.{first_met}
use Rattle.semantics.specs.Records.{fault_at, goes_on, records_from, records, record_conditions}
use Rattle.semantics.specs.RunFile.{Layout, layout_of, row, byte_at, pair_at, Contents, load, has_mark, mark_in, mark_at, may_follow, size_of, past, next_of, run_file, start, conditions_at}
use Rattle.semantics.specs.Convert.{head_of, record_of, record_at, total_bytes_of, bytes_of, file_of, other_cell, other_operation, other_contents}
use Rattle.semantics.proofs.Conditions.{none-met, met-late}
use Rattle.semantics.proofs.Records.{judgement, last, more}
use Rattle.semantics.proofs.Marks.{Sound, sound, sound-accepted, sound-first, sound-rest, is_known, scannable}
use Rattle.semantics.proofs.Convert.{Bytes, pair_small, Fit, Copied, copied, Beside, sound-there, next-at, next-beside, record-there, written-long, is-written, part_of, parts, fit-total, take_next, bytes-again}
use Rattle.semantics.proofs.Widths.{packing-of}
use Rattle.semantics.proofs.Lists.{map-set}
use Rattle.semantics.proofs.Booleans.{true-T, neither, both as both_true}

-- the records from one on, to the end of the file: none is faulty
pub data Chain (L : Layout) (file : List ℕ) : Position → List Position → Type 0 where
  ends : {p : Position} → fault_at (run_file L) file p ≡ 0 → length file ≤ (next_of L file p).at → Chain L file p (p ∷ [])
  goes : {p : Position} {ps : List Position} → fault_at (run_file L) file p ≡ 0 → (next_of L file p).at < length file → Chain L file (next_of L file p) ps
      → Chain L file p (p ∷ ps)

module _ (L : Layout) (file : List ℕ) where
  abbrev judged : List Position → Refusal
  judged ps = judgement (run_file L) file ps

  further : (p : Position) → fault_at (run_file L) file p ≡ 0 → p.at < (next_of L file p).at
  further p e = (scannable L file).onward p e

  begins : (p : Position) → fault_at (run_file L) file p ≡ 0 → p.at < length file
  begins p e = (scannable L file).within p e

  -- whether another record follows
  on : (p : Position) → fault_at (run_file L) file p ≡ 0 → (next_of L file p).at < length file → goes_on (run_file L) file p ≡ true
  unfolding goes_on
  on p e h = rw (eq-eqb (fault_at (run_file L) file p) 0 e, lt-ltb (next_of L file p).at (length file) h)

  off : (p : Position) → length file ≤ (next_of L file p).at → goes_on (run_file L) file p ≡ false
  unfolding goes_on
  off p h = rw (le-ltb (next_of L file p).at (length file) h, and-false)

  -- those of an accepted file are one
  pub chain-from : (n : ℕ) (p : Position) → length file ≤ n + p.at → (judged (records_from (run_file L) file (suc n) p)).number ≡ 0
      → Chain L file p (records_from (run_file L) file (suc n) p)
  unfolding records_from
  chain-from zero p enough ok = absurd (omega (arith, begins p (sound-first L file p _ ok)))
  chain-from (suc n) p enough ok = go (dec_lt (next_of L file p).at (length file)) (chain-from n (next_of L file p))
    where
      passed : fault_at (run_file L) file p ≡ 0
      passed = sound-first L file p _ ok

      rest : (next_of L file p).at < length file → records_from (run_file L) file (suc (suc n)) p ≡ p ∷ records_from (run_file L) file (suc n) (next_of L file p)
      rest h = more (run_file L) file (suc n) p (on p passed h)

      go : Dec ((next_of L file p).at < length file)
          → (length file ≤ n + (next_of L file p).at → (judged (records_from (run_file L) file (suc n) (next_of L file p))).number ≡ 0
          → Chain L file (next_of L file p) (records_from (run_file L) file (suc n) (next_of L file p)))
          → Chain L file p (records_from (run_file L) file (suc (suc n)) p)
      go (yes h) again =
          subst (Chain L file p) (sym (rest h))
          (goes passed h (again (omega (arith, further p passed))
          (sound-rest L file p _ (ap (λ ps. (judged ps).number) (sym (rest h)) ∙ ok))))
      go (no h) again =
          let end : length file ≤ (next_of L file p).at = omega arith in
          subst (Chain L file p) (sym (last (run_file L) file (suc n) p (off p end))) (ends passed end)

  pub accepted-chain : (judged (records (run_file L) file start)).number ≡ 0 → Chain L file start (records (run_file L) file start)
  unfolding records
  accepted-chain ok = chain-from (length file) start (omega arith) ok

  -- and the other way
  pub chain-records : {p : Position} {ps : List Position} → Chain L file p ps → (n : ℕ) → length file ≤ n + p.at → records_from (run_file L) file (suc n) p ≡ ps
  chain-records {p} (ends e h) n enough = last (run_file L) file n p (off p h)
  chain-records {p} (goes e h c) zero enough = absurd (omega (arith, begins p e))
  chain-records {p} (goes e h c) (suc n) enough =
      more (run_file L) file (suc n) p (on p e h) ∙ ap (◌∷◌ p) (chain-records c n (omega (arith, further p e)))

  later : (p : Position) (ps : List Position) → fault_at (run_file L) file p ≡ 0 → judged (p ∷ ps) ≡ judged ps
  unfolding record_conditions fault_at
  later p ps e =
      met-late (conditions_at L file p) (record_conditions (run_file L) file ps) (none-met (conditions_at L file p) ((scannable L file).positive p) e)

  none_left : (judged []).number ≡ 0
  unfolding record_conditions first_met
  none_left = refl

  pub chain-accepted : {p : Position} {ps : List Position} → Chain L file p ps → (judged ps).number ≡ 0
  chain-accepted {p} (ends e h) = ap (λ (r : Refusal). r.number) (later p [] e) ∙ none_left
  chain-accepted {p} (goes {ps = ps} e h c) = ap (λ (r : Refusal). r.number) (later p ps e) ∙ chain-accepted c

-- the totals of some records fit
module _ (wide : Bool) (file : List ℕ) where
  abbrev pub FitAt : Position → Type 0
  FitAt p =
      let m = mark_at (layout_of wide) file p.at in
      (row (layout_of wide) m).holds_total ≡ true → Fit ((layout_of wide).total_at file (p.at + head_of (layout_of wide) file p.at m))

  abbrev pub AllFit : List Position → Type 0
  AllFit [] = Unit
  AllFit (p ∷ ps) = FitAt p × AllFit ps

-- the records of two files side by side, those of the second copied from the first
pub data Twins (from to : Bool) (file file' : List ℕ) : List Position → List Position → Type 0 where
  alone : Twins from to file file' [] []
  both : {p q : Position} {ps qs : List Position} → Sound (layout_of from) file p (mark_at (layout_of from) file p.at)
      → Copied from to file p.at (mark_at (layout_of from) file p.at) file' q.at → Twins from to file file' ps qs
      → Twins from to file file' (p ∷ ps) (q ∷ qs)

module _ (from to : Bool) (file file' : List ℕ) where
  abbrev L₁ : Layout
  L₁ = layout_of from

  abbrev L₂ : Layout
  L₂ = layout_of to

  abbrev written : List Position → List ℕ
  written ps = file_of L₂ (map (record_at L₁ file) ps)

  -- one record: its length, and that it is copied
  module _ (p : Position) (e : fault_at (run_file L₁) file p ≡ 0) where
    abbrev m : Mark
    m = mark_at L₁ file p.at

    fine : Sound L₁ file p m
    fine = sound L₁ file p refl e

    unfoldable pub size-of : ℕ
    size-of = head_of L₁ file p.at m + part_of to m

    pub bytes-long : length (bytes_of L₂ (record_at L₁ file p)) ≡ size-of
    unfolding record_at size-of
    bytes-long = ap length (is-written from to file p.at m (is_known fine) fine.whole) ∙ written-long from to file p.at m (is_known fine) fine.whole

    some_bytes : 3 ≤ size-of
    unfolding size-of
    some_bytes = omega (arith, (parts from file p.at m (is_known fine)).0)

    module _ (fit : FitAt from file p) (q : Position) (near : Beside p q) (tail : List ℕ) (here : drop q.at file' ≡ bytes_of L₂ (record_at L₁ file p) ++ tail) where
      copy : Copied from to file p.at m file' q.at
      unfolding record_at
      copy = copied from to file p.at m (is_known fine) fine.whole fit file' q.at tail here

      passes : fault_at (run_file L₂) file' q ≡ 0
      passes = sound-accepted L₂ file' q (sym copy.mark) (sound-there from to file p file' q near copy fine)

      onto : next_of L₂ file' q ≡ past L₂ file' q m
      unfolding next_of
      onto = ap (past L₂ file' q) copy.mark

      beside : Beside (next_of L₁ file p) (next_of L₂ file' q)
      unfolding next_of
      beside = subst (Beside (past L₁ file p m)) (sym onto) (next-beside from to file p file' q near m copy)

      next_place : (next_of L₂ file' q).at ≡ q.at + size-of
      unfolding size-of
      next_place = ap (λ (r : Position). r.at) onto ∙ next-at from to file p file' q near copy

      next_here : drop (next_of L₂ file' q).at file' ≡ tail
      next_here =
          ap (λ n. drop n file') next_place ∙ sym (drop-drop size-of q.at file') ∙ ap (drop size-of) here
          ∙ drop_at (bytes_of L₂ (record_at L₁ file p)) tail size-of bytes-long

      left : length file' ≡ (next_of L₂ file' q).at + length tail
      left =
          omega (arith, next_place, some_bytes, bytes-long, length-drop q.at file', ap length here, length-append (bytes_of L₂ (record_at L₁ file p)) tail)

  some_left : {p : Position} {ps : List Position} → Chain L₁ file p ps → 3 ≤ length (written ps)
  unfolding file_of
  some_left {p} (ends e h) = omega (arith, length-append (bytes_of L₂ (record_at L₁ file p)) [], bytes-long p e, some_bytes p e)
  some_left {p} (goes {ps = ps} e h c) = omega (arith, length-append (bytes_of L₂ (record_at L₁ file p)) (written ps), bytes-long p e, some_bytes p e)

  -- the file that is written has a chain too, record by record a copy
  pub twins : {p : Position} {ps : List Position} → Chain L₁ file p ps → AllFit from file ps → (q : Position) → Beside p q
      → drop q.at file' ≡ written ps → (qs : List Position) × Chain L₂ file' q qs × Twins from to file file' ps qs
  unfolding file_of
  twins {p} (ends e h) fit q near here =
      let end : length file' ≤ (next_of L₂ file' q).at = omega (arith, left p e fit.0 q near [] here) in
      (q ∷ [], ends (passes p e fit.0 q near [] here) end, both (fine p e) (copy p e fit.0 q near [] here) alone)
  twins {p} (goes {ps = ps} e h c) fit q near here =
      let tail = written ps in
      let (qs, chain, rest) = twins c fit.1 (next_of L₂ file' q) (beside p e fit.0 q near tail here) (next_here p e fit.0 q near tail here) in
      let more_left : (next_of L₂ file' q).at < length file' = omega (arith, left p e fit.0 q near tail here, some_left c) in
      (q ∷ qs, goes (passes p e fit.0 q near tail here) more_left chain, both (fine p e) (copy p e fit.0 q near tail here) rest)

  pub twin-record : (p q : Position) → Copied from to file p.at (mark_at L₁ file p.at) file' q.at → record_at L₂ file' q ≡ record_at L₁ file p
  unfolding record_at
  twin-record p q c = ap (record_of L₂ file' q.at) c.mark ∙ record-there from to file p.at (mark_at L₁ file p.at) file' q.at c

  pub twin-records : {ps qs : List Position} → Twins from to file file' ps qs → map (record_at L₂ file') qs ≡ map (record_at L₁ file) ps
  twin-records alone = refl
  twin-records (both {p = p} {q = q} ok c rest) = λ i. twin-record p q c i ∷ twin-records rest i

-- what the words of two widths are of one record
cell-with : (wide : Bool) (key : ℕ) (file : List ℕ) (at : ℕ) → (layout_of wide).cell_with key file at ≡ (width_of wide).cell_word key ((layout_of wide).total_at file at)
unfolding narrow
cell-with false key file at = refl
cell-with true key file at = refl

operation-with : (wide : Bool) (kind key : ℕ) (file : List ℕ) (at : ℕ)
    → (layout_of wide).operation_with kind key file at ≡ (width_of wide).operation_word kind key ((layout_of wide).total_at file at)
unfolding narrow
operation-with false kind key file at = refl
operation-with true kind key file at = refl

empty-other : (wide : Bool) → other_cell wide 0 ≡ 0
unfolding narrow
empty-other true = refl
empty-other false = refl

module _ (flagged : Bool) (k : ℕ) {t : Total} (fit : Fit t) (small : k ≤ 65535) where
  other-cell : (width_of (not flagged)).cell_word k t ≡ other_cell flagged ((width_of flagged).cell_word k t)
  other-cell =
      let P = packing-of flagged in
      let is = fit-total flagged fit in
      sym (ap₂ (width_of (not flagged)).cell_word (P.key_back k t small is) (P.total-back k t small is))

  other-operation : (n : ℕ) → n < 256 → (width_of (not flagged)).operation_word n k t ≡ other_operation flagged ((width_of flagged).operation_word n k t)
  other-operation n less =
      let P = packing-of flagged in
      let is = fit-total flagged fit in
      sym
      (λ i. (width_of (not flagged)).operation_word (P.kind-back n k t less small is i) (P.operation-key-back n k t less small is i)
      (P.amount-back n k t less small is i))

map-replicate : (f : ℕ → ℕ) (n a : ℕ) → map f (replicate n a) ≡ replicate n (f a)
map-replicate f zero a = refl
map-replicate f (suc n) a = ap (◌∷◌ (f a)) (map-replicate f n a)

drop-taken : (n : ℕ) (l : List ℕ) → take n (drop 1 l) ≡ drop 1 (take (suc n) l)
drop-taken n [] = take-nil n
drop-taken n (x ∷ l) = refl

-- what the records of a file add up to, in the words of the other width
module _ (flagged : Bool) (file file' : List ℕ) (bytes : Bytes file) where
  abbrev from-L : Layout
  from-L = layout_of flagged

  abbrev to-L : Layout
  to-L = layout_of (not flagged)

  adds : (at at' : ℕ) (m : Mark) → Copied flagged (not flagged) file at m file' at'
      → ((row from-L m).holds_total ≡ true → Fit (from-L.total_at file (at + head_of from-L file at m))) → (h : Contents)
      → (row to-L m).added file' at' (other_contents flagged h) ≡ other_contents flagged ((row from-L m).added file at h)
  adds at at' Table c fit h =
      let size = ap (λ k. 2 ^ k) (c.byte 2 (omega arith) (omega arith)) in
      let cells = ap (λ n. replicate n 0) size ∙ ap (replicate (2 ^ byte_at file (at + 2))) (sym (empty-other flagged))
      ∙ sym (map-replicate (other_cell flagged) (2 ^ byte_at file (at + 2)) 0) in
      λ i. record { cells = cells i; operations = map (other_operation flagged) h.operations; schedule = h.schedule }
  adds at at' Cell c fit h =
      let six : head_of from-L file at Cell ≡ 6 = omega arith in
      let key = c.pair 4 (omega arith) (omega arith) in
      let total = subst (λ n. to-L.total_at file' (at' + n) ≡ from-L.total_at file (at + n)) six (c.total refl).0 in
      let is = subst (λ n. Fit (from-L.total_at file (at + n))) six (fit refl) in
      let k = pair_at file (at + 4) in
      let word : to-L.cell_with (pair_at file' (at' + 4)) file' (at' + 6) ≡ other_cell flagged (from-L.cell_with k file (at + 6)) =
      cell-with (not flagged) (pair_at file' (at' + 4)) file' (at' + 6)
      ∙ ap₂ (width_of (not flagged)).cell_word key total
      ∙ other-cell flagged k is (pair_small bytes (at + 4))
      ∙ ap (other_cell flagged) (sym (cell-with flagged k file (at + 6))) in
      let cells = ap₂ (set (map (other_cell flagged) h.cells)) (c.pair 2 (omega arith) (omega arith)) word
      ∙ sym (map-set (other_cell flagged) h.cells (pair_at file (at + 2)) (from-L.cell_with k file (at + 6))) in
      λ i. record { cells = cells i; operations = map (other_operation flagged) h.operations; schedule = h.schedule }
  adds at at' Operation c fit h =
      let five : head_of from-L file at Operation ≡ 5 = omega arith in
      let total = subst (λ n. to-L.total_at file' (at' + n) ≡ from-L.total_at file (at + n)) five (c.total refl).0 in
      let is = subst (λ n. Fit (from-L.total_at file (at + n))) five (fit refl) in
      let n = byte_at file (at + 2) in
      let k = pair_at file (at + 3) in
      let w = from-L.operation_with n k file (at + 5) in
      let word : to-L.operation_with (byte_at file' (at' + 2)) (pair_at file' (at' + 3)) file' (at' + 5) ≡ other_operation flagged w =
      operation-with (not flagged) (byte_at file' (at' + 2)) (pair_at file' (at' + 3)) file' (at' + 5)
      ∙ (λ i. (width_of (not flagged)).operation_word (c.byte 2 (omega arith) (omega arith) i) (c.pair 3 (omega arith) (omega arith) i) (total i))
      ∙ other-operation flagged k is (pair_small bytes (at + 3)) n (bytes.below (at + 2))
      ∙ ap (other_operation flagged) (sym (operation-with flagged n k file (at + 5))) in
      let operations = ap (λ x. map (other_operation flagged) h.operations ++ (x ∷ [])) word ∙ sym (map-append (other_operation flagged) h.operations (w ∷ [])) in
      λ i. record { cells = map (other_cell flagged) h.cells; operations = operations i; schedule = h.schedule }
  adds at at' Schedule c fit h =
      let n = byte_at file (at + 2) in
      let count = c.byte 2 (omega arith) (omega arith) in
      let size : head_of from-L file at Schedule - 2 ≡ n + 1 = omega arith in
      let entries = (λ i. take (count i) (drop (at' + 3) file'))
      ∙ behind-count n at' file' ∙ ap (drop 1) (subst (λ k. take k (drop (at' + 2) file') ≡ take k (drop (at + 2) file)) size c.body)
      ∙ sym (behind-count n at file) in
      λ i. record {
        cells = map (other_cell flagged) h.cells;
        operations = map (other_operation flagged) h.operations;
        schedule = h.schedule ++ entries i;
      }
    where
      behind-count : (n at : ℕ) (l : List ℕ) → take n (drop (at + 3) l) ≡ drop 1 (take (n + 1) (drop (at + 2) l))
      behind-count n at l =
          let place : at + 2 + 1 ≡ at + 3 = omega arith in
          ap (λ k. take n (drop k l)) (sym place) ∙ ap (take n) (sym (drop-drop 1 (at + 2) l)) ∙ drop-taken n (drop (at + 2) l)
          ∙ ap (λ k. drop 1 (take k (drop (at + 2) l))) (sym (add-one n))
  adds at at' Unknown c fit h = refl

  pub twin-contents : {ps qs : List Position} → Twins flagged (not flagged) file file' ps qs → AllFit flagged file ps → (h : Contents)
      → foldl (load to-L file') (other_contents flagged h) qs ≡ other_contents flagged (foldl (load from-L file) h ps)
  unfolding load
  twin-contents alone fit h = refl
  twin-contents (both {p = p} {q = q} {qs = qs} ok c rest) fit h =
      let m = mark_at from-L file p.at in
      let one = ap (λ k. (row to-L k).added file' q.at (other_contents flagged h)) c.mark ∙ adds p.at q.at m c fit.0 h in
      ap (λ x. foldl (load to-L file') x qs) one ∙ twin-contents rest fit.1 ((row from-L m).added file p.at h)

-- a record that is written as it was read
two-letters : (wide : Bool) (m : Mark) → (m ≡ Unknown → ⊥) → (row (layout_of wide) m).letters ≡ byte_at (row (layout_of wide) m).letters 0 ∷ byte_at (row (layout_of wide) m).letters 1 ∷ []
unfolding text
two-letters true Table h = refl
two-letters false Table h = refl
two-letters wide Cell h = refl
two-letters wide Operation h = refl
two-letters wide Schedule h = refl
two-letters wide Unknown h = absurd (h refl)

mark-found : (L : Layout) (ms : List Mark) (file : List ℕ) (at : ℕ) → (mark_in L ms file at ≡ Unknown → ⊥)
    → has_mark file at (row L (mark_in L ms file at)).letters ≡ true
unfolding mark_in
mark-found L [] file at h = absurd (h refl)
mark-found L (m ∷ ms) file at h = go (has_mark file at (row L m).letters) refl h (mark-found L ms file at)
  where
    go : (b : Bool) → has_mark file at (row L m).letters ≡ b → (cond b m (mark_in L ms file at) ≡ Unknown → ⊥)
        → ((mark_in L ms file at ≡ Unknown → ⊥) → has_mark file at (row L (mark_in L ms file at)).letters ≡ true)
        → has_mark file at (row L (cond b m (mark_in L ms file at))).letters ≡ true
    go true e h r = e
    go false e h r = r h

module _ (wide : Bool) {file : List ℕ} (bytes : Bytes file) where
  abbrev same : Layout
  same = layout_of wide

  letters-again : (at : ℕ) → (mark_at same file at ≡ Unknown → ⊥) → at + 2 ≤ length file → (row same (mark_at same file at)).letters ≡ take 2 (drop at file)
  unfolding mark_at has_mark
  letters-again at known h =
      let m = mark_at same file at in
      let found = mark-found same (Table ∷ Cell ∷ Operation ∷ Schedule ∷ []) file at known in
      let l = (row same m).letters in
      let (a, b) = both_true (eqb (byte_at file at) (byte_at l 0)) (eqb (byte_at file (at + 1)) (byte_at l 1)) (true-T _ found) in
      two-letters wide m known
      ∙ (λ i. sym (eqb→eq (byte_at file at) (byte_at l 0) a) i ∷ sym (eqb→eq (byte_at file (at + 1)) (byte_at l 1) b) i ∷ [])
      ∙ sym (take_next 1 file at (omega arith) ∙ ap (◌∷◌ (byte_at file at)) (take_next 0 file (at + 1) (omega arith)))

  module _ (p : Position) (e : fault_at (run_file same) file p ≡ 0) where
    abbrev mark : Mark
    mark = mark_at same file p.at

    ok : Sound same file p mark
    ok = sound same file p refl e

    abbrev front : ℕ
    front = head_of same file p.at mark

    -- a total is the last that a sound record has
    right-total : (m : Mark) → (row same m).is_wrong file p ≡ false → (row same m).holds_total ≡ true
        → same.is_total_wrong file (p.at + head_of same file p.at m) ≡ false
    right-total Table f t = absurd (true≢false (sym t))
    right-total Cell f t =
        let six : head_of same file p.at Cell ≡ 6 = omega arith in
        let n = pair_at file (p.at + 2) in
        let wrong = same.is_total_wrong file (p.at + 6) in
        let (others, key) = neither (wrong || ltb n p.lowest || leb p.size n) (eqb (pair_at file (p.at + 4)) 0) f in
        let (Some-of, high) = neither (wrong || ltb n p.lowest) (leb p.size n) others in
        subst (λ h. same.is_total_wrong file (p.at + h) ≡ false) (sym six) (neither wrong (ltb n p.lowest) Some-of).0
    right-total Operation f t =
        let five : head_of same file p.at Operation ≡ 5 = omega arith in
        subst (λ h. same.is_total_wrong file (p.at + h) ≡ false) (sym five) f
    right-total Schedule f t = absurd (true≢false (sym t))
    right-total Unknown f t = absurd (true≢false (sym t))

    last-again : total_bytes_of same (cond (row same mark).holds_total (some (same.total_at file (p.at + front))) none) ≡ take (part_of wide mark) (drop (p.at + front) file)
    unfolding total_bytes_of
    last-again = go (row same mark).holds_total refl
      where
        go : (b : Bool) → (row same mark).holds_total ≡ b
            → total_bytes_of same (cond b (some (same.total_at file (p.at + front))) none) ≡ take (cond b same.total_size 0) (drop (p.at + front) file)
        go true t =
            let size : part_of wide mark ≡ same.total_size = ap (λ b. cond b same.total_size 0) t in
            bytes-again wide bytes (p.at + front) (right-total mark ok.body t)
            (omega (arith, ok.whole, (parts wide file p.at mark (is_known ok)).1))
        go false t = refl

    record-again : bytes_of same (record_at same file p) ++ drop (next_of same file p).at file ≡ drop p.at file
    unfolding record_at record_of bytes_of next_of past
    record-again =
        let size = (parts wide file p.at mark (is_known ok)).1 in
        let long = (parts wide file p.at mark (is_known ok)).0 in
        let at = p.at in
        let whole = ok.whole in
        let body = take (front - 2) (drop (at + 2) file) in
        let end = take (part_of wide mark) (drop (at + front) file) in
        let rest = drop (at + size_of same file at mark) file in
        let place : at + 2 + (front - 2) ≡ at + front = omega arith in
        let last-place : at + front + part_of wide mark ≡ at + size_of same file at mark = omega arith in
        let close : end ++ rest ≡ drop (at + front) file =
        ap (λ n. end ++ drop n file) (sym last-place) ∙ ap (◌++◌ end) (sym (drop-drop (part_of wide mark) (at + front) file)) ∙ take-append-drop (part_of wide mark) (drop (at + front) file) in
        let middle : body ++ drop (at + front) file ≡ drop (at + 2) file =
        ap (λ n. body ++ drop n file) (sym place) ∙ ap (◌++◌ body) (sym (drop-drop (front - 2) (at + 2) file)) ∙ take-append-drop (front - 2) (drop (at + 2) file) in
        ap₂ (λ l t. l ++ (body ++ t) ++ rest) (letters-again at (is_known ok) (omega arith)) last-again
        ∙ append_assoc (take 2 (drop at file)) (body ++ end) rest
        ∙ ap (◌++◌ (take 2 (drop at file))) (append_assoc body end rest ∙ ap (◌++◌ body) close ∙ middle)
        ∙ ap (◌++◌ (take 2 (drop at file))) (sym (drop-drop 2 at file))
        ∙ take-append-drop 2 (drop at file)

  pub file-again : {p : Position} {ps : List Position} → Chain same file p ps → file_of same (map (record_at same file) ps) ≡ drop p.at file
  unfolding file_of
  file-again {p} (ends e h) =
      ap (◌++◌ (bytes_of same (record_at same file p))) (sym (drop_of_length-le file h)) ∙ record-again p e
  file-again {p} (goes e h c) = ap (◌++◌ (bytes_of same (record_at same file p))) (file-again c) ∙ record-again p e

-- behind an SC record come SC records alone, and these are the same at both widths
module _ (from to : Bool) (file : List ℕ) where
  abbrev pub AllSchedule : List Position → Type 0
  AllSchedule [] = Unit
  AllSchedule (p ∷ ps) = (mark_at (layout_of from) file p.at ≡ Schedule) × AllSchedule ps

  last-part : (m : Mark) → may_follow 4 (row (layout_of from) m).part ≡ true → m ≡ Schedule
  unfolding may_follow
  last-part Table h = absurd (true≢false (sym h))
  last-part Cell h = absurd (true≢false (sym h))
  last-part Operation h = absurd (true≢false (sym h))
  last-part Schedule h = refl
  last-part Unknown h = absurd (true≢false (sym h))

  pub all-schedule : {p : Position} {ps : List Position} → Chain (layout_of from) file p ps → mark_at (layout_of from) file p.at ≡ Schedule → AllSchedule ps
  unfolding next_of past
  all-schedule (ends e h) is = (is, tt)
  all-schedule {p} (goes e h c) is = (is, all-schedule c (following c))
    where
      part-four : (next_of (layout_of from) file p).part ≡ 4
      part-four = ap (λ m. (row (layout_of from) m).part) is

      follows : fault_at (run_file (layout_of from)) file (next_of (layout_of from) file p) ≡ 0 → mark_at (layout_of from) file (next_of (layout_of from) file p).at ≡ Schedule
      follows f =
          let q = next_of (layout_of from) file p in
          last-part (mark_at (layout_of from) file q.at)
          (ap (λ n. may_follow n (row (layout_of from) (mark_at (layout_of from) file q.at)).part) (sym part-four) ∙ (sound (layout_of from) file q refl f).follows)

      following : {qs : List Position} → Chain (layout_of from) file (next_of (layout_of from) file p) qs → mark_at (layout_of from) file (next_of (layout_of from) file p).at ≡ Schedule
      following (ends f g) = follows f
      following (goes f g d) = follows f

  same_bytes : (p : Position) → mark_at (layout_of from) file p.at ≡ Schedule
      → bytes_of (layout_of to) (record_at (layout_of from) file p) ≡ bytes_of (layout_of from) (record_at (layout_of from) file p)
  unfolding record_at record_of bytes_of total_bytes_of
  same_bytes p is =
      subst (λ m. bytes_of (layout_of to) (record_of (layout_of from) file p.at m) ≡ bytes_of (layout_of from) (record_of (layout_of from) file p.at m)) (sym is) refl

  same-file : (ps : List Position) → AllSchedule ps
      → file_of (layout_of to) (map (record_at (layout_of from) file) ps) ≡ file_of (layout_of from) (map (record_at (layout_of from) file) ps)
  unfolding file_of
  same-file [] h = refl
  same-file (p ∷ ps) h = ap₂ ◌++◌ (same_bytes p h.0) (same-file ps h.1)

  pub rest-kept : Bytes file → {p : Position} {ps : List Position} → Chain (layout_of from) file p ps → mark_at (layout_of from) file p.at ≡ Schedule
      → file_of (layout_of to) (map (record_at (layout_of from) file) ps) ≡ drop p.at file
  rest-kept b {p} {ps} c is = same-file ps (all-schedule c is) ∙ file-again from b c
