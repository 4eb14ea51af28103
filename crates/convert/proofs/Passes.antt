-- The two walks over the records of a file: the one that judges them and measures the result, and the one that writes it.
-- Assumes nothing.
use mathlib.Core.Path.{◌≡◌, refl, sym, ap, subst, ◌∙◌}
use Prim.Native.Nat.{ℕ, ◌+◌, ◌-◌, ◌*◌, ◌≤◌, ◌<◌}
use mathlib.Core.Bool.{Bool, true, false, cond, not}
use mathlib.Core.List.{List, [], ◌∷◌, ◌++◌, map, foldl, append_assoc, append-nil}
use native.Mathlib.Omega.{arith}
use lib.Dec.{ltb}
use lib.ListN.{length, take, drop, length-append}
use lib.Seq.{drop-drop}
use Rattle.std.specs.Prelude.{Result, Ok, Err, Option as Maybe, Some, None}
use Rattle.std.specs.Option.{option_or}
use Rattle.semantics.specs.declared.Position.{Position}
use Rattle.semantics.specs.declared.Refusal.{Refusal}
use Rattle.semantics.specs.Run.{over}
use Rattle.semantics.specs.Refusals.{Condition, first_met}
use Rattle.semantics.specs.Records.{fault_at}
use Rattle.semantics.specs.RunFile.{Layout, layout_of, mark_at, next_of, run_file, start, file_conditions, file_refusal}
use Rattle.semantics.specs.Convert.{record_at, file_records, bytes_of, file_of, converted, is_unfit_in, unfit_at, result_too_long, conversion_conditions, conversion_refusal}
use Rattle.semantics.proofs.Conditions.{none-met, met-early, met-late}
use Rattle.semantics.proofs.Records.{Folding, judgement, fold-starts, fold-goes-on, fold-ends, judge-ends}
use Rattle.semantics.proofs.Marks.{scannable}
use Rattle.semantics.proofs.Convert.{Bytes}
use Rattle.semantics.proofs.Converted.{rest-kept}
use Rattle.semantics.proofs.Faithful.{positive-file, positive-unfit, file-accepted}
use Rattle.semantics.proofs.Over.{over_none, over-length, over-more}
use Rattle.semantics.proofs.Parts.{total-bytes}
use Rattle.runfile.specs.declared.record.Fault.{Fault}
use Rattle.runfile.specs.declared.record.Record.{Record}
use Rattle.runfile.specs.declared.record.Record.TheVariants.{Table, Cell, Operation, Schedule}
use Rattle.runfile.specs.Faults.{number_of as number_of_fault, place_of as place_of_fault}
use Rattle.runfile.specs.Records.{Is, Whole}
use Rattle.runfile.proofs.Refused.{file-is-long, by-records}
use Rattle.runfile.proofs.Scanned.{positive, scan-refused}
use Rattle.runfile.proofs.Totals.{tail}
use Rattle.convert.specs.declared.Reason.{Reason}
use Rattle.convert.specs.Reasons.{limits, Limits, Measured}
use Rattle.convert.specs.Rewritten.{unfit_place, size_in, rewritten, result_of}
use Rattle.convert.proofs.Walk.{Remains, all, at-first, steps, next-inside, Here, here, none-left, moves, beyond_at}
use Rattle.convert.proofs.Anew.{rewritten-long, unfit-there, long-there, anew, behind}

module _ (from : Bool) (file : List ℕ) where
  abbrev L : Layout
  L = layout_of from

  abbrev unfit : List Position → List Condition
  unfit ps = map (unfit_at from file) ps

  abbrev late : List Condition
  late = result_too_long from file ∷ []

  -- a file that the reader takes is judged by its totals and then by the length of its result
  by-rest : (file_refusal L file).number ≡ 0 → conversion_refusal from file ≡ first_met (unfit (all from file) ++ late)
  unfolding conversion_refusal conversion_conditions file_refusal
  by-rest ok =
      ap first_met (append_assoc (file_conditions L file) (unfit (all from file)) late)
      ∙ met-late (file_conditions L file) (unfit (all from file) ++ late) (none-met (file_conditions L file) (positive-file L file) ok)

  pub by-file : ((file_refusal L file).number ≡ 0 → ⊥) → conversion_refusal from file ≡ file_refusal L file
  unfolding conversion_refusal conversion_conditions file_refusal
  by-file n =
      ap first_met (append_assoc (file_conditions L file) (unfit (all from file)) late)
      ∙ met-early (file_conditions L file) (unfit (all from file) ++ late) n

  unfit-decides : (file_refusal L file).number ≡ 0 → {n place : ℕ} → first_met (unfit (all from file)) ≡ record { number = n; place = place } → (n ≡ 0 → ⊥)
      → conversion_refusal from file ≡ record { number = n; place = place }
  unfit-decides ok e z =
      by-rest ok ∙ met-early (unfit (all from file)) late (λ f. z (ap (λ (r : Refusal). r.number) (sym e) ∙ f)) ∙ e

  length-decides : (file_refusal L file).number ≡ 0 → (first_met (unfit (all from file))).number ≡ 0 → {b : Bool} → ltb 65535 (length (converted from file)) ≡ b
      → conversion_refusal from file ≡ cond b (record { number = 22; place = 0 }) (record { number = 0; place = 0 })
  unfolding first_met result_too_long
  length-decides ok none e =
      by-rest ok ∙ met-late (unfit (all from file)) late (none-met (unfit (all from file)) (positive-unfit from file (all from file)) none)
      ∙ ap (λ b. cond b (record { number = 22; place = 0 }) (record { number = 0; place = 0 })) e

  module _ (to : Bool) where
    -- no record grows to more than three times its size
    grows : (r : Record) → size_in to r ≤ 3 * size_in from r
    grows (Table k) = omega arith
    grows (Cell n key t) = omega (arith, total-bytes from, total-bytes to)
    grows (Operation kind key t) = omega (arith, total-bytes from, total-bytes to)
    grows (Schedule t) = omega arith

    abbrev L' : Layout
    L' = layout_of to

    abbrev others : List Position → List ℕ
    others ps = file_of L' (map (record_at L file) ps)

    -- what a record adds to what is known of the result: where the first unfit one stands, and how long it is
    unfoldable pub weighed : Maybe ℕ × ℕ → Position → Maybe ℕ × ℕ
    weighed w p = (
      option_or w.0 (cond (is_unfit_in from (record_at L file p).total) (Some p.at) None),
      w.1 + length (bytes_of L' (record_at L file p)),
    )

    abbrev known : Maybe ℕ × ℕ
    known = foldl weighed (None, 0) (all from file)

    weighed-length : (w : Maybe ℕ × ℕ) (qs : List Position) → (foldl weighed w qs).1 ≡ w.1 + length (others qs)
    unfolding weighed file_of
    weighed-length w [] = omega arith
    weighed-length w (q ∷ qs) = omega (arith, weighed-length (weighed w q) qs, length-append (bytes_of L' (record_at L file q)) (others qs))

    abbrev chosen : Maybe ℕ → Refusal → Refusal
    chosen (Some at) r = record { number = 13; place = at }
    chosen None r = r

    weighed-unfit : (w : Maybe ℕ × ℕ) (qs : List Position) → chosen (foldl weighed w qs).0 (record { number = 0; place = 0 }) ≡ chosen w.0 (first_met (unfit qs))
    unfolding weighed first_met unfit_at
    weighed-unfit w [] = refl
    weighed-unfit w (q ∷ qs) = weighed-unfit (weighed w q) qs ∙ go w.0 (is_unfit_in from (record_at L file q).total)
      where
        go : (u : Maybe ℕ) (b : Bool) → chosen (option_or u (cond b (Some q.at) None)) (first_met (unfit qs)) ≡ chosen u (cond b (record { number = 13; place = q.at }) (first_met (unfit qs)))
        go (Some at) true = refl
        go (Some at) false = refl
        go None true = refl
        go None false = refl

    -- what another width has of a file is its conversion, if it is the other width
    pub is-converted : to ≡ not from → result_of from to file ≡ converted from file
    unfolding result_of converted
    is-converted other = ap (λ f. file_of (layout_of f) (file_records L file)) other

    module _ (other : to ≡ not from) where
      known-long : known.1 ≡ length (converted from file)
      unfolding result_of file_records
      known-long = weighed-length (None, 0) (all from file) ∙ omega (arith, ap length (is-converted other))

      known-decides : (file_refusal L file).number ≡ 0 → conversion_refusal from file ≡ limits known.0 known.1
      known-decides ok = go known.0 (weighed-unfit (None, 0) (all from file))
        where
          go : (u : Maybe ℕ) → chosen u (record { number = 0; place = 0 }) ≡ first_met (unfit (all from file)) → conversion_refusal from file ≡ limits u known.1
          go (Some at) e = unfit-decides ok (sym e) (λ z. omega (arith, z))
          go None e =
              length-decides ok (ap (λ (r : Refusal). r.number) (sym e)) refl
              ∙ ap (λ n. cond (ltb 65535 n) (record { number = 22; place = 0 }) (record { number = 0; place = 0 })) (sym known-long)

    abbrev judging : Refusal
    judging = judgement (run_file L) file (all from file)

    -- the first walk has come to a position
    pub record Measuring (p : Position) (u : Maybe ℕ) (n : ℕ) : Type 0 where
      pub folding : Folding (run_file L) file weighed judging known p (u, n)
      pub small : n ≤ 3 * p.at

    pub measuring-starts : {p : Position} → p ≡ start → Measuring p None 0
    measuring-starts e = record { folding = fold-starts (run_file L) file weighed (None, 0) start e; small = omega arith }

    -- a record that is turned away decides
    pub faulty-decides : length file ≤ 65535 → {p : Position} {u : Maybe ℕ} {n : ℕ} → Measuring p u n → (f : Fault)
        → (number_of_fault f ≡ fault_at (run_file L) file p) × (place_of_fault f ≡ p.at)
        → conversion_refusal from file ≡ record { number = number_of_fault f; place = place_of_fault f }
    faulty-decides short s f e =
        let is = by-records L file short (scan-refused L file f s.folding.judging e) in
        by-file (λ z. positive f (ap (λ (r : Refusal). r.number) is ∙ z)) ∙ sym is

    pub long-decides : 65535 < length file → conversion_refusal from file ≡ record { number = 12; place = 0 }
    long-decides h = let is = file-is-long L file h in by-file (λ z. omega (arith, ap (λ (r : Refusal). r.number) is, z)) ∙ sym is

    -- a turn
    module _ {p : Position} {u : Maybe ℕ} {n : ℕ} (s : Measuring p u n) (r : Record) {q : Position}
        (read : (fault_at (run_file L) file p ≡ 0) × Is from file p.at (mark_at L file p.at) r × (q ≡ next_of L file p)) where
      module _ {v : Maybe ℕ} {m : ℕ} (chosen-is : v ≡ option_or u (unfit_place from r p.at)) (long : m ≡ n + size_in to r) where
        weighs : weighed (u, n) p ≡ (v, m)
        unfolding weighed
        weighs =
            (λ i. (option_or u (cond (unfit-there from file p read.0 r read.1 i) (Some p.at) None), n + long-there from file p read.0 to r read.1 i))
            ∙ (λ i. (sym chosen-is i, sym long i))

        in-bounds : m ≤ 3 * q.at
        in-bounds = omega (arith, long, s.small, grows r, ap (λ (x : Position). x.at) read.2, steps from file p read.0 r read.1)

        pub measuring-again : q.at < length file → Measuring q v m
        measuring-again b =
            record {
              folding = subst (Folding (run_file L) file weighed judging known q) weighs (fold-goes-on (scannable L file) read.0 read.2 s.folding b);
              small = in-bounds;
            }

        pub measuring-ends : to ≡ not from → length file ≤ 65535 → length file ≤ q.at → (a : Result ℕ Reason) → Limits v m a → Measured from file a
        measuring-ends other short b a l =
            let whole = fold-ends (scannable L file) read.0 read.2 s.folding b ∙ weighs in
            let ok = file-accepted L file short (ap (λ (x : Refusal). x.number) (sym (judge-ends (scannable L file) read.0 read.2 s.folding.judging b))) in
            go a l (known-decides other ok ∙ (λ i. limits (whole i).0 (whole i).1)) (ap (λ (w : Maybe ℕ × ℕ). w.1) (sym whole) ∙ known-long other)
          where
            go : (a : Result ℕ Reason) → Limits v m a → conversion_refusal from file ≡ limits v m → m ≡ length (converted from file) → Measured from file a
            go (Ok k) l e long = (ap (λ (x : Refusal). x.number) (e ∙ l.0), l.1 ∙ long)
            go (Err why) l e long = e ∙ l

      pub size-bounds : length file ≤ 65535 → n + size_in to r ≤ 196605
      size-bounds short =
          omega (
            arith,
            in-bounds {v = option_or u (unfit_place from r p.at)} {m = n + size_in to r} refl refl,
            ap (λ (x : Position). x.at) read.2,
            next-inside from file p read.0,
          )

    -- the second has come to an offset: what is written, and what is left, is the result
    pub record Writing (old rest : List ℕ) (done : ℕ) (out : List ℕ) : Type 0 where
      pub at : ℕ
      pub from_there : rest ≡ drop at file
      pub left : List Position
      pub remains : Remains L file at left
      pub so_far : List ℕ
      pub is : out ≡ over so_far old
      pub long : done ≡ length so_far
      pub whole : so_far ++ others left ≡ result_of from to file

    pub writing-starts : (old : List ℕ) → (file_refusal L file).number ≡ 0 → Writing old file 0 old
    unfolding result_of file_records
    writing-starts old ok =
        record {
          at = 0;
          from_there = refl;
          left = all from file;
          remains = at-first from file ok;
          so_far = [];
          is = sym (over_none old);
          long = refl;
          whole = refl;
        }

    module _ {old rest : List ℕ} {done : ℕ} {out : List ℕ} (s : Writing old rest done out) (fits : length (result_of from to file) ≤ length old) (b : Bytes file) where
      so-far : length s.so_far + length (others s.left) ≡ length (result_of from to file)
      so-far = sym (length-append s.so_far (others s.left)) ∙ ap length s.whole

      same-long : length out ≡ length old
      same-long = ap length s.is ∙ over-length s.so_far old (omega (arith, so-far))

      module _ (r : Record) (w : Whole from rest (mark_at L rest 0)) (is : Is from rest 0 (mark_at L rest 0) r) where
        h : Here from file s.at s.left r
        h = here from file s.at s.from_there s.remains r w is

        module _ (other : (t : _) → r ≡ Schedule t → ⊥) where
          rest-is : others s.left ≡ rewritten to r ++ others h.rest
          unfolding file_of
          rest-is = ap others h.is ∙ ap (λ l. l ++ others h.rest) (anew from file h.p h.ok to b r h.holds other)

          pub has_room : done + size_in to r ≤ length out
          has_room =
              omega (arith, s.long, so-far, same-long, ap length rest-is, length-append (rewritten to r) (others h.rest), rewritten-long to r other)

          pub writing-again : {part : List ℕ} → part ≡ over (rewritten to r) (take (length out - done) (drop done out))
              → Writing old (take (length rest - size_in from r) (drop (size_in from r) rest)) (done + size_in to r)
              (take done out ++ (part ++ drop (length out - done) (drop done out)))
          writing-again {part} put =
              record {
                at = s.at + size_in from r;
                from_there = tail (size_in from r) rest ∙ ap (drop (size_in from r)) s.from_there ∙ drop-drop (size_in from r) s.at file;
                left = h.rest;
                remains = beyond_at from file h (moves from file h);
                so_far = s.so_far ++ rewritten to r;
                is = behind s.so_far (rewritten to r) old out part done (sym s.long) s.is put;
                long = omega (arith, s.long, length-append s.so_far (rewritten to r), rewritten-long to r other);
                whole = append_assoc s.so_far (rewritten to r) (others h.rest) ∙ ap (λ l. s.so_far ++ l) (sym rest-is) ∙ s.whole;
              }

        module _ {t : _} (e : r ≡ Schedule t) where
          kept : others s.left ≡ rest
          kept =
              rest-kept from to file b h.chain (subst (Is from file h.p.at (mark_at L file h.p.at)) e h.holds).0
              ∙ ap (λ n. drop n file) (sym h.place) ∙ sym s.from_there

          pub entries-fit : done + length rest ≤ length out
          entries-fit = omega (arith, s.long, so-far, same-long, ap length kept)

          pub writing-entries : {part : List ℕ} → part ≡ rest
              → take done out ++ (part ++ drop (done + length rest - done) (drop done out)) ≡ over (result_of from to file) old
          unfolding over
          writing-entries {part} put =
              let all : done + length rest - done ≡ length rest = omega arith in
              (λ i. take done out ++ (put i ++ drop (all i) (drop done out)))
              ∙ ap (λ o. take done o ++ over rest (drop done o)) s.is
              ∙ over-more s.so_far rest old done (sym s.long)
              ∙ ap (λ l. over l old) (ap (λ l. s.so_far ++ l) (sym kept) ∙ s.whole)

      pub writing-done : (Whole from rest (mark_at L rest 0) → ⊥) → out ≡ over (result_of from to file) old
      unfolding file_of
      writing-done cut =
          s.is ∙ ap (λ l. over l old) (sym (append-nil s.so_far) ∙ ap (λ ps. s.so_far ++ others ps) (sym (none-left from file s.at s.from_there s.remains cut)) ∙ s.whole)
