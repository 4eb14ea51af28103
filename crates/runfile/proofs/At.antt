-- A record in its place in a file, read from the bytes from it on: why it is turned away, what it holds, and the position past it.
-- Assumes nothing.
use mathlib.Core.Path.{◌≡◌, refl, sym, ap, ap₂, subst, ◌∙◌}
use Prim.Native.Nat.{ℕ, ◌+◌, ◌^◌, ◌≤◌, ◌<◌}
use mathlib.Core.Bool.{Bool, cond, not, ◌||◌}
use mathlib.Core.List.{List, [], ◌∷◌}
use native.Mathlib.Omega.{arith}
use lib.Dec.{eqb, leb, ltb}
use lib.ListN.{length, take, drop, length-drop}
use lib.Seq.{length-take-le}
use Rattle.std.proofs.Common.{drop-drop}
use borrow.Author.Tests.{lt-ltb, le-ltb}
use Rattle.semantics.specs.declared.Mark.{Mark}
use Rattle.semantics.specs.declared.Mark.TheVariants.{Table as is_table, Cell as is_cell, Operation as is_operation, Schedule as is_schedule, Unknown}
use Rattle.semantics.specs.declared.Position.{Position}
use Rattle.semantics.specs.declared.Refusal.{Refusal}
use Rattle.semantics.specs.Words.{size_allowed}
use Rattle.semantics.specs.Refusals.{most_entries}
use Rattle.semantics.specs.Records.{fault_at}
use Rattle.semantics.specs.RunFile.{Layout, layout_of, row, byte_at, mark_at, size_of, past, next_of, run_file}
use Rattle.semantics.specs.RunFile.{conditions_of, conditions_at, mark_cut, mark_wrong, body_cut, body_wrong, one_too_many}
use Rattle.semantics.proofs.Conditions.{met-here, met-late, alike-number}
use Rattle.semantics.proofs.Parts.{Agrees, rest-agrees, pair-agrees, mark-agrees, total-bytes, total-agrees, total-there}
use Rattle.semantics.proofs.Booleans.{same_test, compared}
use Rattle.semantics.proofs.Marks.{Sound, sound, is_known, within, whole_of, exponent, few, short}
use Rattle.runfile.specs.declared.record.Record.{Record}
use Rattle.runfile.specs.declared.record.Record.TheVariants.{Table, Cell, Operation, Schedule}
use Rattle.runfile.specs.Records.{Is, Whole, at_front, fault_of, after, Passable}

-- what is read of the bytes from a record on is what is read in its place
module _ (flagged : Bool) (file : List ℕ) (p : Position) where
  abbrev L : Layout
  L = layout_of flagged

  abbrev rest : List ℕ
  rest = drop p.at file

  same : Agrees 11 rest file p.at
  same = rest-agrees 11 file p.at

  size_same : (m : Mark) → size_of L rest 0 m ≡ size_of L file p.at m
  size_same m = ap (λ n. cond (row L m).counted (n + (row L m).size) (row L m).size) (same.byte 2 (omega arith))

  body_same : (m : Mark) → (row L m).is_wrong rest (at_front p) ≡ (row L m).is_wrong file p
  body_same is_table = ap (λ k. not (size_allowed (2 ^ k))) (same.byte 2 (omega arith))
  body_same is_cell =
      let total = total-agrees same flagged 6 (omega arith) in
      let number = pair-agrees same 2 (omega arith) in
      let key = pair-agrees same 4 (omega arith) in
      λ i. total i || ltb (number i) p.lowest || leb p.size (number i) || eqb (key i) 0
  body_same is_operation = total-agrees same flagged 5 (omega arith)
  body_same is_schedule = ap (λ n. eqb n 0) (same.byte 2 (omega arith))
  body_same Unknown = refl

  count_same : (m : Mark) → (row L m).is_too_many rest (at_front p) ≡ (row L m).is_too_many file p
  count_same is_table = refl
  count_same is_cell = refl
  count_same is_operation = refl
  count_same is_schedule = ap (λ n. ltb most_entries (p.entries + n)) (same.byte 2 (omega arith))
  count_same Unknown = refl

  pub mark-is-cut : length file < p.at + 2 → 10 ≡ fault_at (run_file L) file p
  unfolding fault_at conditions_at mark_cut
  mark-is-cut h =
      ap (λ (r : Refusal). r.number) (sym (met-here (mark_cut L file p) (conditions_of L file p (mark_at L file p.at)) (lt-ltb (length file) (p.at + 2) h)))

  on-rest : p.at + 2 ≤ length file → fault_of L rest p (mark_at L file p.at) ≡ fault_at (run_file L) file p
  unfolding fault_of fault_at conditions_at mark_cut mark_wrong body_cut body_wrong one_too_many
  on-rest whole =
      let m = mark_at L file p.at in
      let here = conditions_of L file p m in
      let cut : ltb (length rest) (0 + size_of L rest 0 m) ≡ ltb (length file) (p.at + size_of L file p.at m) =
      same_test _ _ (λ t. omega (compared, length-drop p.at file, size_same m)) (λ t. omega (compared, length-drop p.at file, size_same m)) in
      alike-number (conditions_of L rest (at_front p) m) here (refl, refl, (refl, cut, (refl, body_same m, (refl, count_same m, tt))))
      ∙ ap (λ (r : Refusal). r.number) (sym (met-late (mark_cut L file p ∷ []) here (le-ltb (length file) (p.at + 2) whole, tt)))

  -- of a lent part that has the bytes from the record on
  module _ {part : List ℕ} (from : part ≡ rest) {m : Mark} (is : m ≡ mark_at L part 0) where
    pub the-mark : m ≡ mark_at L file p.at
    the-mark = is ∙ ap (λ l. mark_at L l 0) from ∙ mark-agrees same (omega arith) L

    pub the-fault : p.at + 2 ≤ length file → {n : ℕ} → n ≡ fault_of L part p m → n ≡ fault_at (run_file L) file p
    the-fault whole e = e ∙ ap (λ l. fault_of L l p m) from ∙ ap (fault_of L rest p) the-mark ∙ on-rest whole

    there : (r : Record) → Is flagged rest 0 m r → Is flagged file p.at m r
    there (Table k) h = (h.0, h.1 ∙ same.byte 2 (omega arith))
    there (Cell n key t) h =
        (h.0, h.1 ∙ pair-agrees same 2 (omega arith), h.2 ∙ pair-agrees same 4 (omega arith), h.3 ∙ total-there same flagged 6 (omega (arith, total-bytes flagged)), h.4)
    there (Operation kind key t) h =
        (h.0, h.1 ∙ same.byte 2 (omega arith), h.2 ∙ pair-agrees same 3 (omega arith), h.3 ∙ total-there same flagged 5 (omega (arith, total-bytes flagged)), h.4)
    there (Schedule s) h = (h.0, h.1 ∙ ap₂ (λ n l. take n l) (same.byte 2 (omega arith)) (drop-drop 3 p.at file))

    pub the-record : (r : Record) → Is flagged part 0 m r → Is flagged file p.at (mark_at L file p.at) r
    the-record r h = subst (λ n. Is flagged file p.at n r) the-mark (there r (subst (λ l. Is flagged l 0 m r) from h))

  module _ (ok : fault_at (run_file L) file p ≡ 0) where
    known : Sound L file p (mark_at L file p.at)
    known = sound L file p refl ok

    -- as many entries follow as the count says
    pub counted : (s : _) → Is flagged file p.at (mark_at L file p.at) (Schedule s) → length s.now ≡ byte_at file (p.at + 2)
    counted s h =
        ap (λ l. length l) h.1 ∙ length-take-le (byte_at file (p.at + 2)) (drop (p.at + 3) file)
        (omega (arith, whole_of known h.0, length-drop (p.at + 3) file))

    pub passable : (r : Record) → Is flagged file p.at (mark_at L file p.at) r → length file < 2 ^ 64 → Passable flagged p r
    passable (Table k) h small = (omega (arith, whole_of known h.0), omega (arith, exponent known h.0, h.1))
    passable (Cell n key t) h small = omega (arith, whole_of known h.0, total-bytes flagged)
    passable (Operation kind key t) h small = (omega (arith, whole_of known h.0, total-bytes flagged), omega (arith, few known h.0))
    passable (Schedule s) h small =
        let n = counted s h in
        (omega (arith, whole_of known h.0, n), omega (arith, short known h.0, n))

    onto : {m : Mark} → mark_at L file p.at ≡ m → past L file p m ≡ next_of L file p
    unfolding next_of
    onto e = sym (ap (past L file p) e)

    pub goes-past : (r : Record) → Is flagged file p.at (mark_at L file p.at) r → after flagged p r ≡ next_of L file p
    unfolding next_of past
    goes-past (Table k) h =
        (λ i. record { at = p.at + 3; part = 1; size = 2 ^ h.1 i; lowest = p.lowest; operations = p.operations; entries = p.entries }) ∙ onto h.0
    goes-past (Cell n key t) h =
        (λ i. record { at = p.at + (L.total_size + 6); part = 2; size = p.size; lowest = h.1 i + 1; operations = p.operations; entries = p.entries }) ∙ onto h.0
    goes-past (Operation kind key t) h = onto h.0
    goes-past (Schedule s) h =
        let n = counted s h in
        (λ i. record { at = p.at + (n i + 3); part = 4; size = p.size; lowest = p.lowest; operations = p.operations; entries = p.entries + n i }) ∙ onto h.0

    whole_here : (m : Mark) → Sound L file p m → Whole flagged rest m
    whole_here is_table s = omega (arith, s.whole, length-drop p.at file)
    whole_here is_cell s = omega (arith, s.whole, length-drop p.at file)
    whole_here is_operation s = omega (arith, s.whole, length-drop p.at file)
    whole_here is_schedule s = omega (arith, s.whole, length-drop p.at file, same.byte 2 (omega arith))
    whole_here Unknown s = absurd (is_known s refl)

    pub whole-there : Whole flagged rest (mark_at L file p.at)
    whole-there = whole_here (mark_at L file p.at) known

    pub inside-file : p.at + 2 ≤ length file
    inside-file = omega (arith, within known)
