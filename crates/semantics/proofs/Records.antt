-- A scan over the records of a file, whatever their marks and sizes: what is left of it at each record, for a scan that judges and for one
-- that folds an accepted file.
-- Assumes nothing.
use mathlib.Core.Path.{◌≡◌, refl, sym, ap, subst, ◌∙◌}
use Prim.Native.Nat.{ℕ, zero, suc, ◌+◌, ◌-◌, ◌≤◌, ◌<◌}
use mathlib.Core.Bool.{Bool, true, false, and-false}
use mathlib.Core.List.{List, [], ◌∷◌, foldl}
use native.Mathlib.Omega.{arith}
use lib.ListN.{length}
use borrow.Author.Tests.{eq-eqb, ne_eqb, lt-ltb, le-ltb}
use Rattle.semantics.specs.declared.Refusal.{Refusal}
use Rattle.semantics.specs.Refusals.{first_met}
use Rattle.semantics.specs.Records.{Format, fault_at, goes_on, records_from, records, record_conditions}
use Rattle.semantics.proofs.Conditions.{Positive, none-met, met-early, met-late, met-none, Placed, met-placed, early-accepts}

-- what a scan asks of a format: the numbers of its conditions are positive and their place is the record's; a record that none turns away
-- begins within the file, and the one after it further on
pub record Scannable (F : Format) (file : List ℕ) : Type 0 where
  pub positive : (p : F.Place) → Positive (F.conditions file p)
  pub placed : (p : F.Place) → Placed (F.offset p) (F.conditions file p)
  pub within : (p : F.Place) → fault_at F file p ≡ 0 → F.offset p < length file
  pub onward : (p : F.Place) → fault_at F file p ≡ 0 → F.offset p < F.offset (F.next file p)

-- a scan has come to a record: its result is a reading of the records from here on, of which the fuel is enough for all
pub record Left (F : Format) (file : List ℕ) {A : Type 0} (of : List F.Place → A) (result : A) (p : F.Place) : Type 0 where
  pub fuel : ℕ
  pub enough : length file ≤ fuel + F.offset p
  pub rest : result ≡ of (records_from F file (suc fuel) p)

-- the reading of records that judges them
abbrev pub judgement : (F : Format) → List ℕ → List F.Place → Refusal
judgement F file ps = first_met (record_conditions F file ps)

-- folding over the records of an accepted file: h has come of those before p
pub record Folding (F : Format) (file : List ℕ) {B : Type 0} (f : B → F.Place → B) (refusal : Refusal) (result : B) (p : F.Place) (h : B) : Type 0 where
  pub judging : Left F file (judgement F file) refusal p
  pub folding : Left F file (foldl f h) result p

module _ (F : Format) (file : List ℕ) where
  pub scan-starts : {A : Type 0} (of : List F.Place → A) (start : F.Place) {p : F.Place} → p ≡ start → Left F file of (of (records F file start)) p
  unfolding records
  scan-starts of start e =
      subst (Left F file of (of (records F file start))) (sym e) (record { fuel = length file; enough = omega arith; rest = refl })

  pub fold-starts : {B : Type 0} (f : B → F.Place → B) (h : B) (start : F.Place) {p : F.Place} → p ≡ start
      → Folding F file f (judgement F file (records F file start)) (foldl f h (records F file start)) p h
  fold-starts f h start e = record { judging = scan-starts (judgement F file) start e; folding = scan-starts (foldl f h) start e }

  -- whether a record is the last
  pub last : (n : ℕ) (p : F.Place) → goes_on F file p ≡ false → records_from F file (suc n) p ≡ p ∷ []
  unfolding records_from
  last n p e = ap (λ (b : Bool). p ∷ elim b [ true ↦ records_from F file n (F.next file p) | false ↦ [] ]) e

  pub more : (n : ℕ) (p : F.Place) → goes_on F file p ≡ true → records_from F file (suc n) p ≡ p ∷ records_from F file n (F.next file p)
  unfolding records_from
  more n p e = ap (λ (b : Bool). p ∷ elim b [ true ↦ records_from F file n (F.next file p) | false ↦ [] ]) e

  -- what holds of a record by itself, and with the later ones where it is not the last, holds of the records from it on
  pub from-here : (P : List F.Place → Type 0) (n : ℕ) (p : F.Place) → (goes_on F file p ≡ true → P (p ∷ records_from F file n (F.next file p)))
      → P (p ∷ []) → P (records_from F file (suc n) p)
  unfolding records_from
  from-here P n p = go (goes_on F file p)
    where
      go : (b : Bool) → (b ≡ true → P (p ∷ records_from F file n (F.next file p))) → P (p ∷ [])
          → P (p ∷ elim b [ true ↦ records_from F file n (F.next file p) | false ↦ [] ])
      go true r s = r refl
      go false r s = s

-- a turn of a loop over records
module _ {F : Format} {file : List ℕ} (ok : Scannable F file) {p : F.Place} where
  -- past a record that no condition turns away, on to q
  module _ (sound : fault_at F file p ≡ 0) {q : F.Place} (past : q ≡ F.next file p) where
    moved : F.offset q ≡ F.offset (F.next file p)
    moved = ap F.offset past

    -- less is left of the file
    pub scan-less : length file - F.offset q < length file - F.offset p
    scan-less = omega (arith, moved, ok.within p sound, ok.onward p sound)

    module _ {A : Type 0} {of : List F.Place → A} {result : A} (l : Left F file of result p) where
      scan-goes-on : F.offset q < length file → (of' : List F.Place → A) → ((ps : List F.Place) → of (p ∷ ps) ≡ of' ps)
          → Left F file of' result q
      unfolding goes_on
      scan-goes-on b of' turn = subst (Left F file of' result) (sym past) (go l.fuel l.enough l.rest)
        where
          on : goes_on F file p ≡ true
          on = rw (eq-eqb (fault_at F file p) 0 sound, lt-ltb (F.offset (F.next file p)) (length file) (omega (arith, moved)))

          go : (k : ℕ) → length file ≤ k + F.offset p → result ≡ of (records_from F file (suc k) p) → Left F file of' result (F.next file p)
          go zero h r = absurd (omega (arith, ok.within p sound))
          go (suc k) h r =
              record {
                fuel = k;
                enough = omega (arith, ok.onward p sound);
                rest = r ∙ ap of (more F file (suc k) p on) ∙ turn (records_from F file (suc k) (F.next file p));
              }

      scan-ends : length file ≤ F.offset q → result ≡ of (p ∷ [])
      unfolding goes_on
      scan-ends b =
          l.rest ∙ ap of (last F file l.fuel p (rw (le-ltb (F.offset (F.next file p)) (length file) (omega (arith, moved)), and-false)))

    -- judging: the later ones decide
    judged-later : (ps : List F.Place) → judgement F file (p ∷ ps) ≡ judgement F file ps
    unfolding record_conditions fault_at
    judged-later ps = met-late (F.conditions file p) (record_conditions F file ps) (none-met (F.conditions file p) (ok.positive p) sound)

    module _ {refusal : Refusal} (l : Left F file (judgement F file) refusal p) where
      pub judge-goes-on : F.offset q < length file → Left F file (judgement F file) refusal q
      judge-goes-on b = scan-goes-on l b (judgement F file) judged-later

      pub judge-ends : length file ≤ F.offset q → record { number = 0; place = 0 } ≡ refusal
      unfolding record_conditions
      judge-ends b = sym (scan-ends l b ∙ judged-later [] ∙ met-none)

    module _ {B : Type 0} {f : B → F.Place → B} {refusal : Refusal} {result : B} {h : B} (s : Folding F file f refusal result p h) where
      pub fold-goes-on : F.offset q < length file → Folding F file f refusal result q (f h p)
      fold-goes-on b =
          record {
            judging = judge-goes-on s.judging b;
            folding = scan-goes-on s.folding b (foldl f (f h p)) (λ ps. refl);
          }

      pub fold-ends : length file ≤ F.offset q → result ≡ f h p
      fold-ends b = scan-ends s.folding b

  -- a record that some condition turns away decides
  pub judge-faulty : {refusal : Refusal} → Left F file (judgement F file) refusal p → {n : ℕ} → n ≡ fault_at F file p → (n ≡ 0 → ⊥)
      → record { number = n; place = F.offset p } ≡ refusal
  unfolding goes_on record_conditions fault_at
  judge-faulty l is z =
      let h : (first_met (F.conditions file p)).number ≡ 0 → ⊥ = λ e. z (is ∙ e) in
      sym
      (l.rest
      ∙ ap (judgement F file) (last F file l.fuel p (rw (ne_eqb (first_met (F.conditions file p)).number 0 h)))
      ∙ met-early (F.conditions file p) [] h
      ∙ met-placed (F.offset p) (F.conditions file p) (ok.placed p) h
      ∙ ap (λ (k : ℕ). record { number = k; place = F.offset p }) (sym is))

-- no record of an accepted file is faulty
pub fold-sound : {F : Format} {file : List ℕ} {p : F.Place} {B : Type 0} {f : B → F.Place → B} {refusal : Refusal} {result h : B}
    → Folding F file f refusal result p h → refusal.number ≡ 0 → fault_at F file p ≡ 0
unfolding records_from record_conditions fault_at
fold-sound {F} {file} {p} s accepted =
    early-accepts (F.conditions file p) _ (ap (λ (r : Refusal). r.number) (sym s.judging.rest) ∙ accepted)
