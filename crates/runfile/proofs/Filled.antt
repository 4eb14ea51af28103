-- Filling the slices from an accepted file: what they hold at each record is what the records before it say, over what was lent.
-- Assumes nothing.
use mathlib.Core.Path.{◌≡◌, refl, sym, ap, ap₂, subst, ◌∙◌}
use Prim.Native.Nat.{ℕ, ◌+◌, ◌-◌, ◌^◌, ◌≤◌, ◌<◌}
use mathlib.Core.Bool.{Bool, true, false, cond, true≢false}
use mathlib.Core.List.{List, [], ◌∷◌, ◌++◌}
use native.Mathlib.Omega.{arith}
use lib.Dec.{eqb}
use lib.ListN.{length, set, take, drop, replicate, length-replicate, length-set, length-append, length-drop}
use lib.Seq.{length-take-le}
use borrow.Author.Tests.{eqb-true}
use Rattle.semantics.specs.declared.Mark.{Mark}
use Rattle.semantics.specs.declared.Mark.TheVariants.{Table, Cell, Operation, Schedule, Unknown}
use Rattle.semantics.specs.declared.Position.{Position}
use Rattle.semantics.specs.Run.{over}
use Rattle.semantics.specs.Narrow.{narrow}
use Rattle.semantics.specs.Records.{fault_at, records}
use Rattle.semantics.specs.RunFile.{Layout, layout_of, row, Contents, byte_at, pair_at, cell_word_at, operation_word_at, entries_at, mark_at, may_follow, past, next_of, start, run_file, load, contents, accepted_reading}
use Rattle.semantics.proofs.Over.{over_none, over-length, over-set, over-next, over-more}
use Rattle.semantics.proofs.Records.{Folding, judgement, scan-less, fold-starts, fold-sound, fold-goes-on, fold-ends}
use Rattle.semantics.proofs.Marks.{Sound, sound, scannable, is_known, exponent, size_small, inside, few, short}
use Rattle.io.specs.Counts.{IsPrefixLen}
use Rattle.semantics.specs.Widths.{width_of}
use Rattle.runfile.specs.declared.record.Record.{Record}
use Rattle.runfile.specs.declared.record.Record.TheVariants.{Table as a_table, Cell as a_cell, Operation as an_operation, Schedule as a_schedule}
use Rattle.runfile.specs.Records.{Is}
use Rattle.runfile.specs.Stored.{kept, Storable}
use Rattle.runfile.proofs.At.{counted}

-- the slices' contents after the record at p: an operation and entries stand behind those that came before
unfoldable pub stored : Layout → List ℕ → Position → Mark → Contents → Contents
stored L file p Table s =
    record { cells = over (replicate (2 ^ byte_at file (p.at + 2)) 0) s.cells; operations = s.operations; schedule = s.schedule }
stored L file p Cell s =
    record {
      cells = set s.cells (pair_at file (p.at + 2)) (cell_word_at L file p.at);
      operations = s.operations;
      schedule = s.schedule;
    }
stored L file p Operation s =
    record {
      cells = s.cells;
      operations = set s.operations p.operations (operation_word_at L file p.at);
      schedule = s.schedule;
    }
stored L file p Schedule s =
    record {
      cells = s.cells;
      operations = s.operations;
      schedule = take p.entries s.schedule ++ over (entries_at file p.at) (drop p.entries s.schedule);
    }
stored L file p Unknown s = s

-- a cell and an operation in a file's layout are packed of their fields in the width's
cell-with : (flagged : Bool) (key : ℕ) (file : List ℕ) (at : ℕ) → (layout_of flagged).cell_with key file at ≡ (width_of flagged).cell_word key ((layout_of flagged).total_at file at)
unfolding narrow
cell-with true key file at = refl
cell-with false key file at = refl

operation-with : (flagged : Bool) (kind key : ℕ) (file : List ℕ) (at : ℕ)
    → (layout_of flagged).operation_with kind key file at ≡ (width_of flagged).operation_word kind key ((layout_of flagged).total_at file at)
unfolding narrow
operation-with true kind key file at = refl
operation-with false kind key file at = refl

-- what is kept of a record is what its mark says
module _ (flagged : Bool) (file : List ℕ) (p : Position) (s : Contents) where
  abbrev said : Mark → Contents
  said m = stored (layout_of flagged) file p m s

  pub kept-as-said : (r : Record) → Is flagged file p.at (mark_at (layout_of flagged) file p.at) r → kept (width_of flagged) p r s ≡ said (mark_at (layout_of flagged) file p.at)
  unfolding stored over
  kept-as-said (a_table k) h =
      (λ i. record { cells = over (replicate (2 ^ h.1 i) 0) s.cells; operations = s.operations; schedule = s.schedule }) ∙ sym (ap said h.0)
  kept-as-said (a_cell n key t) h =
      let word = ap₂ (width_of flagged).cell_word h.2 h.3 ∙ sym (cell-with flagged (pair_at file (p.at + 4)) file (p.at + 6)) in
      (λ i. record { cells = set s.cells (h.1 i) (word i); operations = s.operations; schedule = s.schedule }) ∙ sym (ap said h.0)
  kept-as-said (an_operation kind key t) h =
      let word = (λ i. (width_of flagged).operation_word (h.1 i) (h.2 i) (h.3 i)) ∙ sym (operation-with flagged (byte_at file (p.at + 2)) (pair_at file (p.at + 3)) file (p.at + 5)) in
      (λ i. record { cells = s.cells; operations = set s.operations p.operations (word i); schedule = s.schedule }) ∙ sym (ap said h.0)
  kept-as-said (a_schedule e) h =
      (λ i. record { cells = s.cells; operations = s.operations; schedule = take p.entries s.schedule ++ over (h.1 i) (drop p.entries s.schedule) })
      ∙ sym (ap said h.0)

-- and the slices have room for it
pub storable : (flagged : Bool) (file : List ℕ) (p : Position) (ok : fault_at (run_file (layout_of flagged)) file p ≡ 0) (r : Record)
    → Is flagged file p.at (mark_at (layout_of flagged) file p.at) r → p.size ≤ 4096 → {c n e : ℕ} → 4096 ≤ c → 64 ≤ n → 16384 ≤ e
    → Storable (width_of flagged) p r c n e
storable flagged file p ok (a_table k) h small c n e =
    let known = sound (layout_of flagged) file p refl ok in
    let size : 2 ^ k ≡ 2 ^ byte_at file (p.at + 2) = ap (λ j. 2 ^ j) h.1 in
    (omega (arith, exponent known h.0, h.1), omega (arith, size_small known h.0, size, c))
storable flagged file p ok (a_cell i key t) h small c n e =
    let known = sound (layout_of flagged) file p refl ok in
    (omega (arith, inside known h.0, h.1, small, c), h.4)
storable flagged file p ok (an_operation kind key t) h small c n e =
    let known = sound (layout_of flagged) file p refl ok in
    (omega (arith, few known h.0, n), h.4)
storable flagged file p ok (a_schedule s) h small c n e =
    let known = sound (layout_of flagged) file p refl ok in
    omega (arith, short known h.0, counted flagged file p ok s h, e)

-- the slices are long enough
abbrev pub Room : Contents → Type 0
Room s = (4096 ≤ length s.cells) × (64 ≤ length s.operations) × (16384 ≤ length s.schedule)

-- h over what was lent
abbrev over_all : Contents → Contents → Contents
over_all h s =
    record {
      cells = over h.cells s.cells;
      operations = over h.operations s.operations;
      schedule = over h.schedule s.schedule;
    }

-- a file holds no more than the slices have to have room for
pub record Few (c n e : ℕ) : Type 0 where
  pub cells : c ≤ 4096
  pub operations : n ≤ 64
  pub entries : e ≤ 16384

-- a part that is no longer than its slice
pub counts-front : (n : ℕ) (l : List ℕ) → n ≤ length l → IsPrefixLen n l
counts-front n l h = (h, sym (length-take-le n l h))

-- slices that were lent as s₀ hold h, as much of it as the position p says; before the first record no table
pub record Holds (s₀ : Contents) (p : Position) (h s : Contents) : Type 0 where
  pub is : s ≡ over_all h s₀
  pub cells : length h.cells ≡ p.size
  pub operations : length h.operations ≡ p.operations
  pub entries : length h.schedule ≡ p.entries
  pub small : Few p.size p.operations p.entries
  pub fresh : p.part ≡ 0 → h.cells ≡ []

-- a table comes first
first : (before : ℕ) → may_follow before 1 ≡ true → before ≡ 0
unfolding may_follow
first before e = go (eqb before 0) refl e
  where
    go : (b : Bool) → eqb before 0 ≡ b → cond b true false ≡ true → before ≡ 0
    go true f g = eqb-true before 0 f
    go false f g = absurd (true≢false (sym g))

module _ {s₀ : Contents} {p : Position} {h s : Contents} (room : Room s₀) (k : Holds s₀ p h s) where
  pub holds-long : (length s.cells ≡ length s₀.cells) × (length s.operations ≡ length s₀.operations) × (length s.schedule ≡ length s₀.schedule)
  holds-long = (
    ap (λ (t : Contents). length t.cells) k.is ∙ over-length h.cells s₀.cells (omega (arith, k.cells, k.small.cells, room.0)),
    ap (λ (t : Contents). length t.operations) k.is ∙ over-length h.operations s₀.operations (omega (arith, k.operations, k.small.operations, room.1)),
    ap (λ (t : Contents). length t.schedule) k.is ∙ over-length h.schedule s₀.schedule (omega (arith, k.entries, k.small.entries, room.2)),
  )

  pub holds-counted : IsPrefixLen p.size s.cells × IsPrefixLen p.operations s.operations × IsPrefixLen p.entries s.schedule
  holds-counted = (
    counts-front p.size s.cells (omega (arith, holds-long.0, room.0, k.small.cells)),
    counts-front p.operations s.operations (omega (arith, holds-long.1, room.1, k.small.operations)),
    counts-front p.entries s.schedule (omega (arith, holds-long.2, room.2, k.small.entries)),
  )

  -- one record more
  holds-next : (L : Layout) (file : List ℕ) (m : Mark) → Sound L file p m → Holds s₀ (past L file p m) ((row L m).added file p.at h) (stored L file p m s)
  unfolding past stored
  holds-next L file Table ok =
      let n = 2 ^ byte_at file (p.at + 2) in
      let zeros : List ℕ = replicate n 0 in
      let none = k.fresh (first p.part ok.follows) in
      let cells = ap (λ (t : Contents). over zeros t.cells) k.is ∙ ap (λ l. over zeros (over l s₀.cells)) none ∙ ap (over zeros) (over_none s₀.cells) in
      record {
        is = λ i. record { cells = cells i; operations = (k.is i).operations; schedule = (k.is i).schedule };
        cells = length-replicate {A = ℕ} n 0;
        operations = k.operations;
        entries = k.entries;
        small = record { cells = size_small ok refl; operations = k.small.operations; entries = k.small.entries };
        fresh = λ e. absurd (omega (arith, e));
      }
  holds-next L file Cell ok =
      let n = pair_at file (p.at + 2) in
      let w = cell_word_at L file p.at in
      let cells = ap (λ (t : Contents). set t.cells n w) k.is ∙ over-set h.cells s₀.cells n w (omega (arith, inside ok refl, k.cells)) in
      record {
        is = λ i. record { cells = cells i; operations = (k.is i).operations; schedule = (k.is i).schedule };
        cells = length-set h.cells n w ∙ k.cells;
        operations = k.operations;
        entries = k.entries;
        small = k.small;
        fresh = λ e. absurd (omega (arith, e));
      }
  holds-next L file Operation ok =
      let w = operation_word_at L file p.at in
      let operations = ap (λ (t : Contents). set t.operations p.operations w) k.is
      ∙ over-next h.operations s₀.operations p.operations w k.operations (omega (arith, few ok refl, room.1)) in
      record {
        is = λ i. record { cells = (k.is i).cells; operations = operations i; schedule = (k.is i).schedule };
        cells = k.cells;
        operations = length-append h.operations (w ∷ []) ∙ omega (arith, k.operations);
        entries = k.entries;
        small = record { cells = k.small.cells; operations = omega (arith, few ok refl); entries = k.small.entries };
        fresh = λ e. absurd (omega (arith, e));
      }
  holds-next L file Schedule ok =
      let n = byte_at file (p.at + 2) in
      let bytes = entries_at file p.at in
      let schedule = ap (λ (t : Contents). take p.entries t.schedule ++ over bytes (drop p.entries t.schedule)) k.is
      ∙ over-more h.schedule bytes s₀.schedule p.entries k.entries in
      record {
        is = λ i. record { cells = (k.is i).cells; operations = (k.is i).operations; schedule = schedule i };
        cells = k.cells;
        operations = k.operations;
        entries = length-append h.schedule bytes
            ∙ omega (arith, k.entries, length-take-le n (drop (p.at + 3) file) (omega (arith, length-drop (p.at + 3) file, ok.whole)));
        small = record { cells = k.small.cells; operations = k.small.operations; entries = short ok refl };
        fresh = λ e. absurd (omega (arith, e));
      }
  holds-next L file Unknown ok = absurd (is_known ok refl)

-- filling has come to the record at p
pub record Filling (L : Layout) (file : List ℕ) (s₀ : Contents) (p : Position) (s : Contents) : Type 0 where
  pub so_far : Contents
  pub folding : Folding (run_file L) file (load L file) (judgement (run_file L) file (records (run_file L) file start)) (contents L file) p so_far
  pub holds : Holds s₀ p so_far s

pub filling-starts : (L : Layout) (file : List ℕ) (s₀ : Contents) {p : Position} → p ≡ start → Filling L file s₀ p s₀
unfolding contents
filling-starts L file s₀ {p} e =
    let nothing : Contents = record { cells = []; operations = []; schedule = [] } in
    record {
      so_far = nothing;
      folding = fold-starts (run_file L) file (load L file) nothing start e;
      holds =
          subst (λ q. Holds s₀ q nothing s₀) (sym e)
          (record {
            is = λ i. record { cells = sym (over_none s₀.cells) i; operations = sym (over_none s₀.operations) i; schedule = sym (over_none s₀.schedule) i };
            cells = refl;
            operations = refl;
            entries = refl;
            small = record { cells = omega arith; operations = omega arith; entries = omega arith };
            fresh = λ z. refl;
          });
    }

module _ {L : Layout} {file : List ℕ} {s₀ : Contents} {p : Position} {s : Contents} (f : Filling L file s₀ p s)
    (accepted : (judgement (run_file L) file (records (run_file L) file start)).number ≡ 0) where
  pub filling-sound : fault_at (run_file L) file p ≡ 0
  filling-sound = fold-sound f.folding accepted

  module _ (room : Room s₀) {q : Position} (past : q ≡ next_of L file p) where
    pub filling-less : length file - q.at < length file - p.at
    filling-less = scan-less (scannable L file) filling-sound past

    module _ {s' : Contents} (stores : stored L file p (mark_at L file p.at) s ≡ s') where
      pub turned : Holds s₀ q (load L file f.so_far p) s'
      unfolding load next_of
      turned =
          subst (Holds s₀ q (load L file f.so_far p)) stores
          (subst (λ n. Holds s₀ n (load L file f.so_far p) (stored L file p (mark_at L file p.at) s)) (sym past)
          (holds-next room f.holds L file (mark_at L file p.at) (sound L file p refl filling-sound)))

      pub filling-again : q.at < length file → Filling L file s₀ q s'
      filling-again b =
          record {
            so_far = load L file f.so_far p;
            folding = fold-goes-on (scannable L file) filling-sound past f.folding b;
            holds = turned;
          }

      pub filling-ends : length file ≤ q.at
          → accepted_reading (contents L file) s₀.cells s₀.operations s₀.schedule
          ≡ record {
            loaded = record { number = 0; place = 0; cells = q.size; operations = q.operations; entries = q.entries };
            cells = s'.cells;
            operations = s'.operations;
            schedule = s'.schedule;
          }
      unfolding accepted_reading
      filling-ends b =
          let end = turned in
          ap (λ h. accepted_reading h s₀.cells s₀.operations s₀.schedule) (fold-ends (scannable L file) filling-sound past f.folding b)
          ∙ (λ i. record {
            loaded = record { number = 0; place = 0; cells = end.cells i; operations = end.operations i; entries = end.entries i };
            cells = (sym end.is i).cells;
            operations = (sym end.is i).operations;
            schedule = (sym end.is i).schedule;
          })
