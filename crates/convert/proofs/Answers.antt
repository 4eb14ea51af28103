-- What a conversion answers: a refusal, a slice that is too short, or the result; and what a program writes of it.
-- Assumes nothing.
use mathlib.Core.Path.{◌≡◌, refl, sym, ap, subst, ◌∙◌}
use Prim.Native.Nat.{ℕ, ◌^◌, ◌≤◌, ◌<◌}
use mathlib.Core.Bool.{Bool, true, cond}
use mathlib.Core.List.{List}
use native.Mathlib.Decide.{ℕ_discrete, dec_le}
use native.Mathlib.Omega.{arith}
use lib.ListN.{length, get_or}
use lib.Seq.{length-take-le}
use borrow.Author.Tests.{eq-eqb, ne_eqb, le-leb, lt-leb}
use Rattle.semantics.specs.declared.Refusal.{Refusal}
use Rattle.semantics.specs.declared.Written.{Written}
use Rattle.semantics.specs.Run.{over}
use Rattle.semantics.specs.Text.{Handed, handed}
use Rattle.semantics.specs.Listing.{refusal_text}
use Rattle.semantics.specs.Convert.{converted, conversion_refusal, conversion_if, conversion, conversion_text, Faithful}
use Rattle.semantics.proofs.Over.{over-length}
use Rattle.semantics.proofs.Faithful.{accepted-parts, faithful}
use Rattle.semantics.proofs.Lengths.{refusal}
use Rattle.runfile.proofs.Scanned.{positive as fault-positive}
use Rattle.convert.specs.declared.Reason.{Reason}
use Rattle.convert.specs.declared.Reason.TheVariants.{Reader, Unfit, TooLong, TooShort}
use Rattle.convert.specs.Reasons.{number_of}
use Rattle.io.specs.Counts.{IsPrefixLen}
use Rattle.listing.specs.Writing.{written}
use Rattle.listing.proofs.Writing.{handed-whole}

-- a reason has a number
pub positive : (r : Reason) → number_of r ≡ 0 → ⊥
positive (Reader f) e = fault-positive f e
positive (Unfit at) e = omega (arith, e)
positive TooLong e = omega (arith, e)
positive TooShort e = omega (arith, e)

-- what is handed over of a text that fits, and of one that does not
pub handed-fits : (bytes out : List ℕ) → length bytes ≤ length out → handed bytes out ≡ record { written = record { number = 0; place = 0; length = length bytes }; out = over bytes out }
unfolding handed
handed-fits bytes out h = rw (le-leb (length bytes) (length out) h)

pub handed-short : (bytes out : List ℕ) → length out < length bytes → handed bytes out ≡ record { written = record { number = 3; place = 0; length = 0 }; out = out }
unfolding handed
handed-short bytes out h = rw (lt-leb (length bytes) (length out) h)

module _ (flagged : Bool) (file out : List ℕ) where
  abbrev result : List ℕ
  result = converted flagged file

  abbrev why : Refusal
  why = conversion_refusal flagged file

  pub answers-refusal : {n place : ℕ} → why ≡ record { number = n; place = place } → (n ≡ 0 → ⊥)
      → conversion flagged file out ≡ record { written = record { number = n; place = place; length = 0 }; out = out }
  unfolding conversion conversion_if
  answers-refusal {n} is z =
      ap (λ b. conversion_if flagged file b out) (ne_eqb why.number 0 (λ e. z (ap (λ (r : Refusal). r.number) (sym is) ∙ e)))
      ∙ (λ i. record { written = record { number = (is i).number; place = (is i).place; length = 0 }; out = out })

  module _ (ok : why.number ≡ 0) where
    hands : conversion flagged file out ≡ handed result out
    unfolding conversion conversion_if
    hands = ap (λ b. conversion_if flagged file b out) (eq-eqb why.number 0 ok)

    pub answers-short : {n : ℕ} → n ≡ length result → length out < n
        → conversion flagged file out ≡ record { written = record { number = 3; place = 0; length = 0 }; out = out }
    answers-short is h = hands ∙ handed-short result out (omega arith)

    pub answers-whole : {n : ℕ} {left : List ℕ} → n ≡ length result → n ≤ length out → left ≡ over result out
        → conversion flagged file out ≡ record { written = record { number = 0; place = 0; length = n }; out = left }
    answers-whole is h put =
        hands ∙ handed-fits result out (omega arith)
        ∙ (λ i. record { written = record { number = 0; place = 0; length = sym is i }; out = sym put i })

  -- the same as the search reads it
  pub answers-too-short : {n : ℕ} → why.number ≡ 0 → n ≡ length result → length out < n
      → conversion flagged file out ≡ record { written = record { number = 3; place = 0; length = 0 }; out = out }
  answers-too-short ok is h = answers-short ok is h

  -- a number that is answered is the refusal's, or 3
  pub answer-22 : {r : Written} {left : List ℕ} → conversion flagged file out ≡ record { written = r; out = left } → r.number ≡ 22 → why.number ≡ 22
  answer-22 {r} e is = elim (ℕ_discrete why.number 0) [
    | yes ok ↦ elim (dec_le (length result) (length out)) [
      | yes fits ↦ let zero : r.number ≡ 0 = ap (λ (h : Handed). h.written.number) (sym e ∙ answers-whole ok refl fits refl) in absurd (omega arith)
      | no short ↦ let three : r.number ≡ 3 = ap (λ (h : Handed). h.written.number) (sym e ∙ answers-short ok refl (omega arith)) in absurd (omega arith)
    ]
    | no not ↦ ap (λ (h : Handed). h.written.number) (sym (answers-refusal refl not) ∙ e) ∙ is
  ]

  -- with a slice for the longest file, what a program writes is all there
  module _ (room : length out ≡ 65535) {r : Written} {left : List ℕ} (e : conversion flagged file out ≡ record { written = r; out = left }) where
    pub text-result : r.number ≡ 0 → (r.length ≡ length (conversion_text flagged file)) × (left ≡ over (conversion_text flagged file) out)
    unfolding conversion_text
    text-result z = elim (ℕ_discrete why.number 0) [
      | yes ok ↦ let fits : length result ≤ length out = omega (arith, (accepted-parts flagged file ok).short) in
          let text : conversion_text flagged file ≡ result = ap (λ b. cond b result (refusal_text why.number why.place)) (eq-eqb why.number 0 ok) in
          let is = sym e ∙ answers-whole ok refl fits refl in (
            ap (λ (h : Handed). h.written.length) is ∙ ap length (sym text),
            ap (λ (h : Handed). h.out) is ∙ ap (λ l. over l out) (sym text),
          )
      | no not ↦ absurd (not (ap (λ (h : Handed). h.written.number) (sym (answers-refusal refl not) ∙ e) ∙ z))
    ]

    pub text-refusal : (r.number ≡ 0 → ⊥) → {n : ℕ} {last : List ℕ} → written (record { at = 0; out = left }) (refusal_text r.number r.place) ≡ record { at = n; out = last }
        → (n ≡ length (conversion_text flagged file)) × (last ≡ over (conversion_text flagged file) out)
    unfolding conversion_text
    text-refusal z {n} {last} put = elim (ℕ_discrete why.number 0) [
      | yes ok ↦ let fits : length result ≤ length out = omega (arith, (accepted-parts flagged file ok).short) in
          absurd (z (ap (λ (h : Handed). h.written.number) (sym e ∙ answers-whole ok refl fits refl)))
      | no not ↦ let line = refusal_text why.number why.place in
          let is = sym (answers-refusal refl not) ∙ e in
          let text : conversion_text flagged file ≡ line = ap (λ b. cond b result line) (ne_eqb why.number 0 not) in
          let fits : length line ≤ length out = omega (arith, refusal why.number why.place) in
          let whole = sym (handed-fits line out fits)
          ∙ handed-whole line out {z = true} (sym (le-leb (length line) (length out) fits)) refl (omega arith)
          ((λ i. written (record { at = 0; out = (is i).out }) (refusal_text (is i).written.number (is i).written.place)) ∙ put) in (
            ap (λ (h : Handed). h.written.length) (sym whole) ∙ ap length (sym text),
            ap (λ (h : Handed). h.out) (sym whole) ∙ ap (λ l. over l out) (sym text),
          )
    ]

-- what is written over the front of a slice is counted by its length
pub text-counted : (bytes out : List ℕ) {n : ℕ} {left : List ℕ} → length bytes ≤ length out → (n ≡ length bytes) × (left ≡ over bytes out) → IsPrefixLen n left
text-counted bytes out {n} {left} fits (is, put) =
    let inside : n ≤ length left = omega (arith, ap length put ∙ over-length bytes out fits) in
    (inside, sym (length-take-le n left inside))

-- and no text is too long
pub text-fits : (flagged : Bool) (file : List ℕ) → length (conversion_text flagged file) ≤ 65535
unfolding conversion_text
text-fits flagged file = elim (ℕ_discrete (conversion_refusal flagged file).number 0) [
  | yes ok ↦ subst (λ b. length (cond b (converted flagged file) (refusal_text (conversion_refusal flagged file).number (conversion_refusal flagged file).place)) ≤ 65535)
      (sym (eq-eqb (conversion_refusal flagged file).number 0 ok)) (accepted-parts flagged file ok).short
  | no not ↦ subst (λ b. length (cond b (converted flagged file) (refusal_text (conversion_refusal flagged file).number (conversion_refusal flagged file).place)) ≤ 65535)
      (sym (ne_eqb (conversion_refusal flagged file).number 0 not)) (omega (arith, refusal (conversion_refusal flagged file).number (conversion_refusal flagged file).place))
]

-- what is promised of a file that is converted, as the search reads it
pub faithful-of : (flagged : Bool) (file : List ℕ) → ((i : ℕ) → get_or file i 0 < 2 ^ 8) → (conversion_refusal flagged file).number ≡ 0
    → (conversion_refusal flagged file ≡ conversion_refusal flagged file) × Faithful flagged file
faithful-of flagged file small ok = (refl, faithful flagged file (record { below = λ i. omega (arith, small i) }) ok)

pub ruleset faithful_told = (faithful-of)

pub ruleset text_told = (text-counted, text-fits)

pub ruleset short_told = (answers-too-short)
