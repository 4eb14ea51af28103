-- Laws of a text that is written: one byte, one text after another, the position after it, and the slice where it fits.
-- Assumes nothing.
use mathlib.Core.Path.{◌≡◌, refl, sym, ap, subst, ◌∙◌}
use mathlib.Core.Bool.{Bool, true, false}
use Prim.Native.Nat.{ℕ, suc, ◌+◌, min, ◌≤◌, ◌<◌}
use mathlib.Core.List.{List, [], ◌∷◌, ◌++◌, append_assoc, append-nil}
use native.Mathlib.Nat.{zero-add}
use native.Mathlib.Numerals.{add-one}
use native.Mathlib.Omega.{arith}
use native.Mathlib.Decide.{dec_le}
use lib.Dec.{leb}
use lib.ListN.{length, get_or, set, take, drop, length-append, length-set}
use Rattle.std.proofs.lemmas.List.{length-take-le, take-append-drop}
use lib.Seq.{append_snoc, take-suc, set_out, take_all}
use borrow.Author.Tests.{le-leb, lt-leb, leb-true}
use Rattle.semantics.specs.Run.{over}
use Rattle.semantics.specs.Text.{texts_below, handed}
use Rattle.semantics.proofs.Over.{over-next}
use Rattle.listing.specs.declared.writer.Writer.{Writer}
use Rattle.listing.specs.Writing.{Writing, last_position, put, written, kept, wrote}

-- one text after another
pub written-append : (w : Writing) (a b : List ℕ) → written w (a ++ b) ≡ written (written w a) b
unfolding written
written-append w [] b = refl
written-append w (x ∷ a) b = written-append (put w x) a b

pub written-none : (w : Writing) → written w [] ≡ w
unfolding written
written-none w = refl

pub one_byte : (at : ℕ) (out : List ℕ) (b : ℕ) {r : ℕ} {left : List ℕ} → min (at + 1) last_position ≡ r → set out at b ≡ left
    → written (record { at = at; out = out }) (b ∷ []) ≡ record { at = r; out = left }
unfolding written put
one_byte at out b p q = λ i. record { at = p i; out = q i }

-- the same of a writer
pub wrote-append : (w : Writer) (a b : List ℕ) → wrote w (a ++ b) ≡ wrote (wrote w a) b
unfolding wrote
wrote-append w a b = ap (kept w) (written-append (record { at = w.at; out = w.out.now }) a b)

pub wrote-none : (w : Writer) → wrote w [] ≡ w
unfolding wrote written
wrote-none w = refl

-- the same text by another name
pub same_text : (w : Writer) {u : Writer} {a b : List ℕ} → a ≡ b → wrote w a ≡ u → wrote w b ≡ u
same_text w {u} is e = subst (λ (t : List ℕ). wrote w t ≡ u) is e

-- the same as steps
pub next : (w : Writer) {u v : Writer} (a b : List ℕ) → wrote w a ≡ u → wrote u b ≡ v → wrote w (a ++ b) ≡ v
next w a b e f = wrote-append w a b ∙ ap (λ (x : Writer). wrote x b) e ∙ f

-- a label before the second
pub next-labelled : (w : Writer) {u v : Writer} (a label b : List ℕ) → wrote w a ≡ u → wrote u (label ++ b) ≡ v → wrote w (a ++ label ++ b) ≡ v
next-labelled w a label b e f = same_text w (sym (append_assoc a label b)) (next w a (label ++ b) e f)

-- one byte more of a slice
pub next-byte : (w : Writer) {u v : Writer} (bytes : List ℕ) (i : ℕ) → i < length bytes → wrote w (take i bytes) ≡ u
    → wrote u (get_or bytes i 0 ∷ []) ≡ v → wrote w (take (i + 1) bytes) ≡ v
next-byte w bytes i h e f = rw (add-one, take-suc bytes i 0 h) (next w (take i bytes) (get_or bytes i 0 ∷ []) e f)

-- the texts of the numbers below one, and one more
module _ (w : Writer) where
  pub no_text_lem : (f : ℕ → List ℕ) → wrote w (texts_below 0 f) ≡ w
  unfolding texts_below
  no_text_lem f = wrote-none w

  pub next-text : {a v : Writer} (i : ℕ) (f : ℕ → List ℕ) → wrote w (texts_below i f) ≡ a → wrote a (f i) ≡ v
      → wrote w (texts_below (i + 1) f) ≡ v
  unfolding texts_below
  next-text i f e g = rw (add-one i) (next w (texts_below i f) (f i) e g)

-- the slice keeps its length
pub same_length : (w : Writing) {u : Writing} (bytes : List ℕ) → written w bytes ≡ u → length u.out ≡ length w.out
unfolding written put
same_length w [] e = ap (λ (x : Writing). length x.out) (sym e)
same_length w (b ∷ more) e = same_length (put w b) more e ∙ length-set w.out w.at b

-- the position counts the bytes, whatever the slice
position : (w : Writing) (bytes : List ℕ) → w.at ≤ last_position → (written w bytes).at ≡ min (w.at + length bytes) last_position
unfolding written put
position w [] h = omega arith
position w (b ∷ more) h = position (put w b) more (omega arith) ∙ omega arith

-- by the length as measured on another slice it shows whether a text fits into the room of a slice
pub measured : (bytes probe : List ℕ) (room : ℕ) {n : ℕ} {left : List ℕ} → room < last_position
    → written (record { at = 0; out = probe }) bytes ≡ record { at = n; out = left } → leb n room ≡ leb (length bytes) room
measured bytes probe room {n} short e =
    let long : n ≡ min (length bytes) last_position =
    ap (λ (w : Writing). w.at) (sym e) ∙ position (record { at = 0; out = probe }) bytes (omega arith) ∙ ap (λ n. min n last_position) (zero-add (length bytes))
    in
    elim (dec_le (length bytes) room) [
      | yes h ↦ le-leb n room (omega arith) ∙ sym (le-leb (length bytes) room h)
      | no h ↦ lt-leb n room (omega arith) ∙ sym (lt-leb (length bytes) room (omega arith))
    ]

-- a text that fits stands over the slice's front
whole : (a b out : List ℕ) → length (a ++ b) ≤ length out → length out < last_position
    → written (record { at = length a; out = over a out }) b ≡ record { at = length (a ++ b); out = over (a ++ b) out }
unfolding written put
whole a [] out fits short = λ i. record { at = length (sym (append-nil a) i); out = over (sym (append-nil a) i) out }
whole a (b ∷ more) out fits short =
    let long : length (a ++ (b ∷ [])) ≡ length a + 1 = length-append a (b ∷ []) in
    let room : length a < length out = omega (arith, length-append a (b ∷ more)) in
    let held : min (length a + 1) last_position ≡ length (a ++ (b ∷ [])) = omega arith in
    let same = append_snoc a b more in
    ap (λ (w : Writing). written w more) (λ i. record { at = held i; out = over-next a out (length a) b refl room i })
    ∙ whole (a ++ (b ∷ [])) more out (subst (λ (l : List ℕ). length l ≤ length out) (sym same) fits) short
    ∙ (λ i. record { at = length (same i); out = over (same i) out })

-- bytes for which there is room are laid over what stands there
pub laid_over : (w : Writer) (bytes : List ℕ) {left : List ℕ} → w.at + length bytes ≤ length w.out.now → length w.out.now < last_position
    → left ≡ take w.at w.out.now ++ bytes ++ drop (w.at + length bytes) w.out.now
    → wrote w bytes ≡ kept w (record { at = w.at + length bytes; out = left })
unfolding wrote over
laid_over w bytes {left} room short is =
    let p = take w.at w.out.now in
    let len : length p ≡ w.at = length-take-le w.at w.out.now (omega arith) in
    let long : length (p ++ bytes) ≡ w.at + length bytes = omega (arith, length-append p bytes) in
    let front : over p w.out.now ≡ w.out.now = ap (λ n. p ++ drop n w.out.now) len ∙ take-append-drop w.at w.out.now in
    let end : over (p ++ bytes) w.out.now ≡ left = ap (λ n. p ++ bytes ++ drop n w.out.now) long ∙ sym is in
    ap (kept w)
    ((λ i. written (record { at = sym len i; out = sym front i }) bytes) ∙ whole p bytes w.out.now (omega arith) short ∙ (λ i. record { at = long i; out = end i }))

-- bytes past the slice's end are counted alone
past_end : (at : ℕ) (out bytes : List ℕ) → length out ≤ at → at ≤ last_position
    → written (record { at = at; out = out }) bytes ≡ record { at = min (at + length bytes) last_position; out = out }
unfolding written put
past_end at out [] far held = let same : at ≡ min (at + 0) last_position = omega arith in λ i. record { at = same i; out = out }
past_end at out (b ∷ more) far held =
    let next = min (at + 1) last_position in
    let last : min (next + length more) last_position ≡ min (at + suc (length more)) last_position = omega arith in
    (λ i. written (record { at = next; out = set_out out at b far i }) more) ∙ past_end next out more (omega arith) (omega arith) ∙ (λ i. record { at = last i; out = out })

pub counted_on : (w : Writer) (bytes : List ℕ) → length w.out.now ≤ w.at → w.at ≤ last_position
    → wrote w bytes ≡ kept w (record { at = min (w.at + length bytes) last_position; out = w.out.now })
unfolding wrote
counted_on w bytes far held = ap (kept w) (past_end w.at w.out.now bytes far held)

-- a text is handed over whole where it fits, and not at all elsewhere
module _ (bytes out : List ℕ) {z : Bool} (fits : z ≡ leb (length bytes) (length out)) where
  pub handed-whole : {m : ℕ} {left : List ℕ} → z ≡ true → length out < last_position → written (record { at = 0; out = out }) bytes ≡ record { at = m; out = left }
      → handed bytes out ≡ record { written = record { number = 0; place = 0; length = m }; out = left }
  unfolding handed over
  handed-whole does short e =
      let is = sym (whole [] bytes out (leb-true (length bytes) (length out) (sym fits ∙ does)) short) ∙ e in
      rw (← fits, does) (λ i. record { written = record { number = 0; place = 0; length = (is i).at }; out = (is i).out })

  pub handed-not : z ≡ false → handed bytes out ≡ record { written = record { number = 3; place = 0; length = 0 }; out = out }
  unfolding handed
  handed-not not = rw (← fits, not)

pub ruleset writes = (wrote-append, wrote-none)

pub ruleset bytes_written = (next-byte, wrote-none, take_all, laid_over, counted_on)
