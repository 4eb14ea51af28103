-- A record in the types of the code says what the definitions say of its place in a file: whether its total is unfit, and the bytes that another
-- width has for it.
-- Assumes nothing.
use mathlib.Core.Path.{◌≡◌, refl, sym, ap, ap₂, ◌∙◌}
use Prim.Native.Nat.{ℕ, ◌+◌, ◌-◌, ◌/◌, ◌%◌, ◌≤◌}
use mathlib.Core.Bool.{Bool, true, false}
use mathlib.Core.List.{List, [], ◌∷◌, ◌++◌, append-nil}
use mathlib.Core.Option.{some}
use native.Mathlib.Omega.{arith}
use lib.ListN.{length, take, drop, length-take, length-drop, drop_of_length-le}
use lib.Seq.{take_all}
use Rattle.semantics.specs.declared.Mark.{Mark}
use Rattle.semantics.specs.declared.Mark.TheVariants.{Cell as is_cell, Operation as is_operation}
use Rattle.semantics.specs.declared.Position.{Position}
use Rattle.semantics.specs.Records.{fault_at}
use Rattle.semantics.specs.RunFile.{Layout, layout_of, byte_at, pair_at, pair_bytes, mark_at, run_file}
use Rattle.semantics.specs.Run.{over}
use Rattle.semantics.specs.Text.{text}
use Rattle.semantics.specs.Convert.{head_of, record_of, record_at, total_bytes_of, bytes_of, is_unfit_in}
use Rattle.semantics.proofs.Convert.{Bytes, take_next, total-long, part_of}
use Rattle.semantics.proofs.Converted.{size-of, bytes-long}
use Rattle.semantics.proofs.Over.{over-more}
use Rattle.semantics.proofs.Marks.{Sound, sound, whole_of}
use Rattle.runfile.specs.declared.record.Record.{Record}
use Rattle.runfile.specs.declared.record.Record.TheVariants.{Table, Cell, Operation, Schedule}
use Rattle.runfile.specs.Records.{Is}
use Rattle.runfile.proofs.At.{counted}
use Rattle.convert.specs.Rewritten.{total_of, size_in, rewritten}

pub rewritten-long : (flagged : Bool) (r : Record) → ((s : _) → r ≡ Schedule s → ⊥) → length (rewritten flagged r) ≡ size_in flagged r
unfolding text
rewritten-long true (Table k) other = refl
rewritten-long false (Table k) other = refl
rewritten-long flagged (Cell n key t) other = omega (arith, total-long flagged t)
rewritten-long flagged (Operation kind key t) other = omega (arith, total-long flagged t)
rewritten-long flagged (Schedule s) other = absurd (other s refl)

-- two bytes of a file are those of the number that they are
two : {file : List ℕ} → Bytes file → (at : ℕ) {n : ℕ} → n ≡ pair_at file at → (byte_at file at ≡ n / 256 % 256) × (byte_at file (at + 1) ≡ n % 256)
two b at e = (omega (arith, e, b.below at, b.below (at + 1)), omega (arith, e, b.below at, b.below (at + 1)))

module _ (flagged : Bool) (file : List ℕ) (p : Position) (ok : fault_at (run_file (layout_of flagged)) file p ≡ 0) where
  abbrev L : Layout
  L = layout_of flagged

  known : Sound L file p (mark_at L file p.at)
  known = sound L file p refl ok

  -- the record that the definitions have, by its mark
  by-mark : {m : Mark} → mark_at L file p.at ≡ m → record_at L file p ≡ record_of L file p.at m
  unfolding record_at
  by-mark e = ap (record_of L file p.at) e

  head_cell : head_of L file p.at is_cell ≡ 6
  head_cell = omega arith

  head_operation : head_of L file p.at is_operation ≡ 5
  head_operation = omega arith

  pub unfit-there : (r : Record) → Is flagged file p.at (mark_at L file p.at) r
      → is_unfit_in flagged (record_at L file p).total ≡ is_unfit_in flagged (total_of r)
  unfolding record_of is_unfit_in
  unfit-there (Table k) h = ap (λ q. is_unfit_in flagged q.total) (by-mark h.0)
  unfit-there (Cell n key t) h =
      ap (λ q. is_unfit_in flagged q.total) (by-mark h.0)
      ∙ ap (λ k. is_unfit_in flagged (some (L.total_at file (p.at + k)))) head_cell ∙ ap (λ u. is_unfit_in flagged (some u)) (sym h.3)
  unfit-there (Operation kind key t) h =
      ap (λ q. is_unfit_in flagged q.total) (by-mark h.0)
      ∙ ap (λ k. is_unfit_in flagged (some (L.total_at file (p.at + k)))) head_operation ∙ ap (λ u. is_unfit_in flagged (some u)) (sym h.3)
  unfit-there (Schedule s) h = ap (λ q. is_unfit_in flagged q.total) (by-mark h.0)

  -- how many bytes the definitions write of it
  by-size : (to : Bool) {m : Mark} → mark_at L file p.at ≡ m → length (bytes_of (layout_of to) (record_at L file p)) ≡ head_of L file p.at m + part_of to m
  unfolding size-of
  by-size to e = bytes-long flagged to file [] p ok ∙ ap (λ k. head_of L file p.at k + part_of to k) e

  pub long-there : (to : Bool) (r : Record) → Is flagged file p.at (mark_at L file p.at) r → length (bytes_of (layout_of to) (record_at L file p)) ≡ size_in to r
  long-there to (Table k) h = by-size to h.0 ∙ omega arith
  long-there to (Cell n key t) h = by-size to h.0 ∙ omega arith
  long-there to (Operation kind key t) h = by-size to h.0 ∙ omega arith
  long-there to (Schedule s) h = by-size to h.0 ∙ omega (arith, counted flagged file p ok s h)

  module _ (to : Bool) (b : Bytes file) where
    front_cell : {n key : ℕ} → mark_at L file p.at ≡ is_cell → n ≡ pair_at file (p.at + 2) → key ≡ pair_at file (p.at + 4)
        → take 4 (drop (p.at + 2) file) ≡ pair_bytes n ++ pair_bytes key
    front_cell {n} {key} m e f =
        let (a₂, a₃) = two b (p.at + 2) e in
        let (a₄, a₅) = two b (p.at + 4) f in
        let room = whole_of known m in
        let three : p.at + 2 + 1 + 1 ≡ p.at + 4 = omega arith in
        take_next 3 file (p.at + 2) (omega (arith, room))
        ∙ ap (◌∷◌ (byte_at file (p.at + 2))) (take_next 2 file (p.at + 2 + 1) (omega (arith, room))
        ∙ ap (◌∷◌ (byte_at file (p.at + 2 + 1))) (ap (λ k. take 2 (drop k file)) three ∙ take_next 1 file (p.at + 4) (omega (arith, room))
        ∙ ap (◌∷◌ (byte_at file (p.at + 4))) (take_next 0 file (p.at + 4 + 1) (omega (arith, room)))))
        ∙ (λ i. a₂ i ∷ a₃ i ∷ a₄ i ∷ a₅ i ∷ [])

    front_operation : {kind key : ℕ} → mark_at L file p.at ≡ is_operation → kind ≡ byte_at file (p.at + 2) → key ≡ pair_at file (p.at + 3)
        → take 3 (drop (p.at + 2) file) ≡ kind ∷ pair_bytes key
    front_operation {kind} {key} m e f =
        let (a₃, a₄) = two b (p.at + 3) f in
        let room = whole_of known m in
        let three : p.at + 2 + 1 ≡ p.at + 3 = omega arith in
        take_next 2 file (p.at + 2) (omega (arith, room))
        ∙ ap (◌∷◌ (byte_at file (p.at + 2))) (ap (λ k. take 2 (drop k file)) three ∙ take_next 1 file (p.at + 3) (omega (arith, room))
        ∙ ap (◌∷◌ (byte_at file (p.at + 3))) (take_next 0 file (p.at + 3 + 1) (omega (arith, room))))
        ∙ (λ i. sym e i ∷ a₃ i ∷ a₄ i ∷ [])

    pub anew : (r : Record) → Is flagged file p.at (mark_at L file p.at) r → ((s : _) → r ≡ Schedule s → ⊥)
        → bytes_of (layout_of to) (record_at L file p) ≡ rewritten to r
    unfolding bytes_of record_of total_bytes_of
    anew (Table k) h other =
        ap (bytes_of (layout_of to)) (by-mark h.0)
        ∙ ap (λ l. (layout_of to).table_letters ++ (l ++ [])) (take_next 0 file (p.at + 2) (omega (arith, whole_of known h.0)) ∙ ap (λ n. n ∷ []) (sym h.1))
    anew (Cell n key t) h other =
        ap (bytes_of (layout_of to)) (by-mark h.0)
        ∙ ap (λ k. text "CL" ++ (take (k - 2) (drop (p.at + 2) file) ++ (layout_of to).total_bytes (L.total_at file (p.at + k)))) head_cell
        ∙ ap₂ (λ l u. text "CL" ++ (l ++ (layout_of to).total_bytes u)) (front_cell h.0 h.1 h.2) (sym h.3)
    anew (Operation kind key t) h other =
        ap (bytes_of (layout_of to)) (by-mark h.0)
        ∙ ap (λ k. text "OP" ++ (take (k - 2) (drop (p.at + 2) file) ++ (layout_of to).total_bytes (L.total_at file (p.at + k)))) head_operation
        ∙ ap₂ (λ l u. text "OP" ++ (l ++ (layout_of to).total_bytes u)) (front_operation h.0 h.1 h.2) (sym h.3)
    anew (Schedule s) h other = absurd (other s refl)

-- a part that goes to the end was lent, behind a front that is written
pub behind : {A : Type 0} (w v old out part : List A) (a : ℕ) → length w ≡ a → out ≡ over w old → part ≡ over v (take (length out - a) (drop a out))
    → take a out ++ (part ++ drop (length out - a) (drop a out)) ≡ over (w ++ v) old
behind w v old out part a long is put =
    let rest = drop a out in
    let k = length out - a in
    let all : length rest ≤ k = omega (arith, length-drop a out) in
    let whole = ap (◌++◌ part) (drop_of_length-le rest all) ∙ append-nil part ∙ put ∙ ap (over v) (take_all k rest all) in
    ap (◌++◌ (take a out)) whole ∙ ap (λ o. take a o ++ over v (drop a o)) is ∙ over-more w v old a long

-- the room of a part that goes to the end
pub end-room : (n a : ℕ) (out : List ℕ) → n + a ≤ length out → n ≤ length (take (length out - a) (drop a out))
end-room n a out h = simp (length-take, length-drop) (omega arith)
