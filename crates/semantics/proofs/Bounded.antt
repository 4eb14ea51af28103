-- A response is at most 98,304 bytes to a narrow file and 148,228 to a wide one, whatever the file: so a program that writes one needs no larger
-- buffer.
-- Assumes nothing.
use mathlib.Core.Path.{◌≡◌, sym, subst, ◌∙◌}
use Prim.Native.Nat.{ℕ, ◌≤◌}
use mathlib.Core.Bool.{Bool, true, false, cond}
use mathlib.Core.List.{List}
use native.Mathlib.Omega.{arith}
use lib.Dec.{eqb}
use lib.ListN.{length, get_or, length-map, replicate, get_or-map}
use Rattle.semantics.specs.Basics.{is_some}
use Rattle.semantics.specs.declared.Refusal.{Refusal}
use Rattle.semantics.specs.declared.Total.{Total}
use Rattle.semantics.specs.Cells.{empty}
use Rattle.semantics.specs.Step.{Row, Machine, answered, done_count}
use Rattle.semantics.specs.Refusals.{Call, call_of, most_operations, most_entries}
use Rattle.semantics.specs.Run.{Result, machine, accepted_result, outcome_of}
use Rattle.semantics.specs.RunFile.{Contents, layout_of, contents, reader_refusal, most_cells}
use Rattle.semantics.specs.Words.{Width, tombstone_key, encode}
use Rattle.semantics.specs.Listing.{refusal_text}
use Rattle.semantics.specs.Widths.{width_of, text_of, most_text_of}
use Rattle.semantics.specs.Response.{run_of, listed, response_in, is_wide, response}
use Rattle.semantics.proofs.Counts.{count-le}
use Rattle.semantics.proofs.Sizes.{allowed-bounds}
use Rattle.semantics.proofs.Words.{Packing, encode-key}
use Rattle.semantics.proofs.Widths.{packing-of, short, longest, most-text}
use Rattle.semantics.proofs.Start.{Passed, accepted-call}
use Rattle.semantics.proofs.WordsHold.{accepted, number_is, packs, same_length}
use Rattle.semantics.proofs.Lengths.{Within, looser, refusal, Short, Small, most_listing, listing-within}

-- the text of the run of what a file holds, at any width
module _ {W : Width} (P : Packing W) {total_text : Total → List ℕ} {m : ℕ} (short : Short W total_text m) (h : Contents) where
  abbrev slice : List ℕ
  slice = replicate most_operations 0

  abbrev called : Call
  called = call_of h.cells h.operations h.schedule (length slice) (length slice)

  abbrev end : Machine Total
  end = machine W h.cells h.operations h.schedule

  abbrev Bounds : Result → Type 0
  Bounds r = Small W r.outcome h.operations r.log r.cells

  small : Passed W called → Bounds (accepted_result W end slice slice)
  unfolding accepted_result outcome_of done_count encode
  small ok =
      let p = packs P called ok h.schedule in
      record {
        rows = ok.few;
        entries = omega (arith, count-le (λ (r : Row Total). is_some (answered r.state)) end.rows, same_length P called ok h.schedule, ok.few);
        size = omega (arith, length-map end.cells (encode W), p.long, allowed-bounds (length h.cells) ok.size);
        keys = λ i.
            subst (λ w. W.key_of w ≤ tombstone_key) (sym (get_or-map (encode W) end.cells i empty))
            (encode-key P (get_or end.cells i empty) (p.cells i));
      }

  pub run-listed : Within (most_listing m) (listed W total_text h.operations (run_of W h))
  unfolding listed run_of
  run-listed = listing-within short (run_of W h).outcome h.operations (run_of W h).answers (run_of W h).log (run_of W h).cells bounds
    where
      bounds : (run_of W h).outcome.number ≡ 0 → Bounds (run_of W h)
      bounds e =
          let f = sym (number_is W h.cells h.operations h.schedule slice slice) ∙ e in
          subst Bounds (sym (accepted W h.cells h.operations h.schedule slice slice f)) (small (accepted-call W called f))

module _ (wide : Bool) (file : List ℕ) where
  abbrev refusal-of : Refusal
  refusal-of = reader_refusal (layout_of wide) file most_cells most_operations most_entries

  within-most : Within (most_listing (longest wide)) (response_in wide file)
  unfolding response_in
  within-most = go (eqb refusal-of.number 0)
    where
      go : (z : Bool)
          → Within (most_listing (longest wide))
          (cond z (listed (width_of wide) (text_of wide) (contents (layout_of wide) file).operations (run_of (width_of wide) (contents (layout_of wide) file))) (refusal_text refusal-of.number refusal-of.place))
      go true = run-listed (packing-of wide) (short wide) (contents (layout_of wide) file)
      go false = looser (most_listing (longest wide)) (omega arith) (refusal refusal-of.number refusal-of.place)

pub bounded : (file : List ℕ) → length (response file) ≤ most_text_of (is_wide file)
unfolding response
bounded file = omega (arith, (within-most (is_wide file) file).most, most-text (is_wide file))
