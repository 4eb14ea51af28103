-- The lines of a text, written one after another, are the text.
-- Assumes nothing.
use mathlib.Core.Path.{◌≡◌, refl, sym, ap, subst}
use Prim.Native.Nat.{ℕ, zero, suc, min, ◌≤◌}
use mathlib.Core.Bool.{Bool, true, false, ◌&&◌}
use mathlib.Core.List.{List, [], ◌∷◌, ◌++◌, map}
use native.Mathlib.Omega.{arith}
use lib.Dec.{T, leb}
use lib.ListN.{length, get_or, length-map}
use borrow.Author.Tests.{eq-eqb, ne_eqb, leb-true}
use Rattle.std.specs.List.{list_all}
use Rattle.semantics.specs.declared.Outcome.{Outcome}
use Rattle.semantics.specs.declared.Total.{Total}
use Rattle.semantics.specs.Words.{Width, tombstone_key}
use Rattle.semantics.specs.Text.{text, decimal, texts_below}
use Rattle.semantics.specs.Listing.{line_end, refusal_text, counts_text, row_text, log_text, cell_text, run_text, listing}
use Rattle.semantics.specs.Widths.{width_of, text_of, most_text_of}
use Rattle.semantics.proofs.Lengths.{Short, fits, listing-within}
use Rattle.semantics.proofs.Widths.{short, longest, most-text}
use Rattle.listing.specs.declared.writer.Writer.{Writer}
use Rattle.listing.specs.Writing.{wrote}
use Rattle.listing.proofs.Writing.{next, no_text_lem, next-text, handed-whole, handed-not, measured}

module _ (w : Writer) where
  pub log-line : {a b v : Writer} (done : ℕ) (log : List ℕ) → wrote w (text "log") ≡ a
      → wrote a (texts_below (min done (length log)) (λ i. text " " ++ decimal (get_or log i 0))) ≡ b → wrote b line_end ≡ v → wrote w (log_text done log) ≡ v
  unfolding log_text
  log-line done log e f g = next w _ line_end (next w (text "log") _ e f) g

  module _ (W : Width) (total_text : Total → List ℕ) (outcome : Outcome) (operations answers log cells : List ℕ) where
    pub run-lines : {a b c v : Writer} → outcome.number ≡ 0 → wrote w (counts_text (length operations) outcome) ≡ a
        → wrote a (texts_below (length operations) (λ i. row_text W total_text i (get_or operations i 0) (get_or answers i 0))) ≡ b
        → wrote b (log_text outcome.done log) ≡ c → wrote c (texts_below (length cells) (λ i. cell_text W total_text i (get_or cells i 0))) ≡ v
        → wrote w (listing W total_text outcome operations answers log cells) ≡ v
    unfolding listing run_text
    run-lines is e f g h =
        rw (eq-eqb outcome.number 0 is) (next w _ _ (next w _ (log_text outcome.done log) (next w _ _ e f) g) h)

    pub one_line : {v : Writer} → (outcome.number ≡ 0 → ⊥) → wrote w (refusal_text outcome.number outcome.place) ≡ v
        → wrote w (listing W total_text outcome operations answers log cells) ≡ v
    unfolding listing
    one_line other e = rw (ne_eqb outcome.number 0 other) e

-- a test that all cells pass, and that of an empty one past the last
at-each : {A : Type 0} (number : A → ℕ) (test : ℕ → Bool) (cells : List A) → test 0 ≡ true → list_all (λ w. test (number w)) cells ≡ true
    → (i : ℕ) → test (get_or (map number cells) i 0) ≡ true
at-each number test [] empty all i = empty
at-each number test (x ∷ cells) empty all i = go i (test (number x)) refl all (at-each number test cells empty)
  where
    go : (i : ℕ) (z : Bool) → test (number x) ≡ z → (z && list_all (λ w. test (number w)) cells) ≡ true
        → (list_all (λ w. test (number w)) cells ≡ true → (j : ℕ) → test (get_or (map number cells) j 0) ≡ true)
        → test (get_or (map number (x ∷ cells)) i 0) ≡ true
    go zero true e more rest = e
    go (suc i) true e more rest = rest more i
    go i false e more rest = absurd (subst T (sym more) tt)

-- where there is room for the longest text of a width there is room for any
pub any_fits : {A : Type 0} {W : Width} (wide : Bool) (number : A → ℕ) (o : Outcome) (operations answers log : List ℕ) (cells : List A) {room : ℕ}
    → W ≡ width_of wide → W.key_of 0 ≡ 0 → most_text_of wide ≤ room → length operations ≤ 64 → length log ≤ 64 → length cells ≤ 4096
    → list_all (λ w. leb (W.key_of (number w)) tombstone_key) cells ≡ true
    → true ≡ leb (length (listing W (text_of wide) o operations answers log (map number cells))) room
any_fits {W = W} wide number o operations answers log cells is empty most rows entries size keys =
    let texts : Short W (text_of wide) (longest wide) = subst (λ (V : Width). Short V (text_of wide) (longest wide)) (sym is) (short wide) in
    fits
    (listing-within texts o operations answers log (map number cells)
    (λ e.
    record {
      rows = rows;
      entries = omega arith;
      size = omega (arith, length-map cells number);
      keys = λ i. leb-true _ _ (at-each number (λ w. leb (W.key_of w) tombstone_key) cells (ap (λ k. leb k tombstone_key) empty) keys i);
    }))
    (omega (arith, most-text wide))

-- the width that a test chose: what is enough for it, and that it is not the other
module _ {wide : Bool} where
  pub wide_enough : wide ≡ true → most_text_of wide ≤ 148228
  unfolding most_text_of
  wide_enough is = subst (λ (b : Bool). most_text_of b ≤ 148228) (sym is) (omega arith)

  pub not_narrow : {A : Type 0} → wide ≡ true → wide ≡ false → A
  not_narrow is other = absurd (let z : ◌≡◌ {A = ℕ} 0 1 = cc in omega arith)

pub ruleset entries_told = (no_text_lem, next-text)

pub ruleset log_told = (log-line)

pub ruleset listing_told = (run-lines, one_line)

pub ruleset handing = (handed-whole, handed-not)
