-- Converting a file: a total that fits is read again as it was written, at either width; a record that is written in the other width is read again
-- as the same; so is a whole file; and a file that is written as it was read is the same file.
-- Assumes nothing.
use mathlib.Core.Path.{◌≡◌, refl, sym, ap, ap₂, subst, ◌∙◌}
use Prim.Native.Nat.{ℕ, suc, ◌+◌, ◌-◌, ◌*◌, ◌/◌, ◌%◌, ◌^◌, ◌≤◌, ◌<◌}
use mathlib.Core.Bool.{Bool, true, false, cond, not, ◌||◌, beq, true≢false}
use mathlib.Core.List.{List, [], ◌∷◌, ◌++◌, append_assoc}
use mathlib.Core.Option.{Option, none, some}
use native.Mathlib.Nat.{add_assoc, add-zero}
use native.Mathlib.Numerals.{add-one}
use native.Mathlib.Omega.{arith}
use lib.Dec.{T, eqb, leb, ltb, le→leb}
use lib.ListN.{length, take, drop, length-append, length-drop, get_or-append}
use lib.Seq.{length-take-le, take_at, drop_at, drop-drop, drop-cons, get_or-take, get_or-drop, get_or-append-add}
use borrow.Author.Tests.{ne_eqb, eqb-true, eqb-false, leb-false, ltb-false, lt-leb}
use Rattle.semantics.specs.declared.Mark.{Mark}
use Rattle.semantics.specs.declared.Mark.TheVariants.{Table, Cell, Operation, Schedule, Unknown}
use Rattle.semantics.specs.declared.Position.{Position}
use Rattle.semantics.specs.declared.Total.{Total}
use Rattle.semantics.specs.Words.{size_allowed}
use Rattle.semantics.specs.Refusals.{most_operations, most_entries}
use Rattle.semantics.specs.Narrow.{narrow, is_narrow_total}
use Rattle.semantics.specs.Wide.{is_wide_total}
use Rattle.semantics.specs.Text.{text}
use Rattle.semantics.specs.Widths.{width_of}
use Rattle.semantics.specs.RunFile.{Layout, layout_of, row, byte_at, pair_at, flagged_at, has_mark, mark_in, mark_at, may_follow, size_of, past}
use Rattle.semantics.specs.Convert.{head_of, record_of, total_bytes_of, bytes_of, is_unfit}
use Rattle.semantics.proofs.Booleans.{join, beq-refl, neither}
use Rattle.semantics.proofs.Marks.{Sound}

-- every element of a file is a byte
pub record Bytes (file : List ℕ) : Type 0 where
  pub below : (i : ℕ) → byte_at file i < 256

-- a total that files of either width can hold: its flag is told by its amount
pub record Fit (t : Total) : Type 0 where
  pub small : t.amount ≤ 65535
  pub flag : t.saturated ≡ eqb t.amount 65535

pub pair_small : {file : List ℕ} → Bytes file → (at : ℕ) → pair_at file at ≤ 65535
pair_small b at = omega (arith, b.below at, b.below (at + 1))

-- what is not refused with 13 fits
pub fits : (flagged : Bool) {file : List ℕ} → Bytes file → (at : ℕ) → is_unfit flagged ((layout_of flagged).total_at file at) ≡ false
    → Fit ((layout_of flagged).total_at file at)
unfolding is_unfit narrow
fits false b at e = record { small = pair_small b at; flag = refl }
fits true {file} b at e = go (flagged_at file at).saturated refl e
  where
    n : ℕ
    n = (flagged_at file at).amount

    go : (s : Bool) → (flagged_at file at).saturated ≡ s → cond s (not (eqb n 65535)) (leb 65535 n) ≡ false → Fit (flagged_at file at)
    go true is f = yes (eqb n 65535) refl f
      where
        yes : (z : Bool) → eqb n 65535 ≡ z → not z ≡ false → Fit (flagged_at file at)
        yes true q g = record { small = omega (arith, eqb-true n 65535 q); flag = is ∙ sym q }
        yes false q g = absurd (true≢false g)
    go false is f =
        let less : n < 65535 = leb-false 65535 n f in
        record { small = omega arith; flag = is ∙ sym (ne_eqb n 65535 (λ q. omega arith)) }

pub fit-taken : (flagged : Bool) {t : Total} → Fit t → is_unfit flagged t ≡ false
unfolding is_unfit
fit-taken false f = refl
fit-taken true {t} f = ap (λ s. cond s (not (eqb t.amount 65535)) (leb 65535 t.amount)) f.flag ∙ go (eqb t.amount 65535) refl
  where
    go : (z : Bool) → eqb t.amount 65535 ≡ z → cond z (not z) (leb 65535 t.amount) ≡ false
    go true q = refl
    go false q =
        let other : t.amount ≡ 65535 → ⊥ = eqb-false t.amount 65535 q in
        lt-leb 65535 t.amount (omega (arith, f.small))

pub fit-total : (wide : Bool) {t : Total} → Fit t → T ((width_of wide).is_total t)
unfolding is_narrow_total is_wide_total
fit-total false {t} f =
    join (leb t.amount 65535) _ (le→leb t.amount 65535 f.small)
    (subst (λ s. T (beq s (eqb t.amount 65535))) (sym f.flag) (beq-refl (eqb t.amount 65535)))
fit-total true {t} f = go t.saturated
  where
    go : (s : Bool) → T (cond s (leb t.amount 4294967295) (leb t.amount 4294967294))
    go true = le→leb t.amount 4294967295 (omega (arith, f.small))
    go false = le→leb t.amount 4294967294 (omega (arith, f.small))

-- read again as it was written
module _ {t : Total} (f : Fit t) (file : List ℕ) (at : ℕ) where
  pub total-again : (wide : Bool) → ((i : ℕ) → i < (layout_of wide).total_size → byte_at file (at + i) ≡ byte_at ((layout_of wide).total_bytes t) i)
      → ((layout_of wide).total_at file at ≡ t) × ((layout_of wide).is_total_wrong file at ≡ false)
  unfolding narrow
  total-again false is =
      let first = ap (byte_at file) (sym (add-zero at)) ∙ is 0 (omega arith) in
      let amount : pair_at file at ≡ t.amount = omega (arith, first, is 1 (omega arith), f.small) in
      ((λ i. record { amount = amount i; saturated = (ap (λ n. eqb n 65535) amount ∙ sym f.flag) i }), refl)
  total-again true is =
      let first : byte_at file at ≡ cond t.saturated 1 0 = ap (byte_at file) (sym (add-zero at)) ∙ is 0 (omega arith) in
      let second : byte_at file (at + 1 + 1) ≡ t.amount / 65536 % 256 = ap (byte_at file) (add_assoc at 1 1) ∙ is 2 (omega arith) in
      let fourth : byte_at file (at + 3 + 1) ≡ t.amount % 256 = ap (byte_at file) (add_assoc at 3 1) ∙ is 4 (omega arith) in
      let amount : pair_at file (at + 1) * 65536 + pair_at file (at + 3) ≡ t.amount =
      omega (arith, is 1 (omega arith), second, is 3 (omega arith), fourth, f.small) in (
        (λ i. record { amount = amount i; saturated = (ap (λ b. eqb b 1) first ∙ flag t.saturated) i }),
        ap (ltb 1) first ∙ none-wrong t.saturated,
      )
    where
      flag : (s : Bool) → eqb (cond s 1 0) 1 ≡ s
      flag true = refl
      flag false = refl

      none-wrong : (s : Bool) → ltb 1 (cond s 1 0) ≡ false
      none-wrong true = refl
      none-wrong false = refl

-- written as it was read
pub take_next : (n : ℕ) (file : List ℕ) (at : ℕ) → at < length file → take (suc n) (drop at file) ≡ byte_at file at ∷ take n (drop (at + 1) file)
take_next n file at h = ap (take (suc n)) (drop-cons file at 0 h) ∙ ap (λ k. byte_at file at ∷ take n (drop k file)) (sym (add-one at))

pub bytes-again : (wide : Bool) {file : List ℕ} → Bytes file → (at : ℕ) → (layout_of wide).is_total_wrong file at ≡ false
    → at + (layout_of wide).total_size ≤ length file → (layout_of wide).total_bytes ((layout_of wide).total_at file at) ≡ take (layout_of wide).total_size (drop at file)
unfolding narrow
bytes-again false {file} b at e h =
    let high : pair_at file at / 256 % 256 ≡ byte_at file at = omega (arith, b.below at, b.below (at + 1)) in
    let low : pair_at file at % 256 ≡ byte_at file (at + 1) = omega (arith, b.below at, b.below (at + 1)) in
    (λ i. high i ∷ low i ∷ []) ∙ sym (take_next 1 file at (omega arith) ∙ ap (◌∷◌ (byte_at file at)) (take_next 0 file (at + 1) (omega arith)))
bytes-again true {file} b at e h =
    let b₀ = byte_at file at in
    let b₁ = byte_at file (at + 1) in
    let b₂ = byte_at file (at + 1 + 1) in
    let b₃ = byte_at file (at + 3) in
    let b₄ = byte_at file (at + 3 + 1) in
    let n = (b₁ * 256 + b₂) * 65536 + (b₃ * 256 + b₄) in
    let h₁ = b.below (at + 1) in
    let h₂ = b.below (at + 1 + 1) in
    let h₃ = b.below (at + 3) in
    let h₄ = b.below (at + 3 + 1) in
    let upper : n / 65536 ≡ b₁ * 256 + b₂ = omega arith in
    let e₁ : n / 65536 / 256 % 256 ≡ b₁ = ap (λ m. m / 256 % 256) upper ∙ omega arith in
    let e₂ : n / 65536 % 256 ≡ b₂ = ap (λ m. m % 256) upper ∙ omega arith in
    let e₃ : n / 256 % 256 ≡ b₃ = omega arith in
    let e₄ : n % 256 ≡ b₄ = omega arith in
    let third : at + 1 + 1 + 1 ≡ at + 3 = omega arith in
    (λ i. flag (b₀) (ltb-false 1 b₀ e) i ∷ e₁ i ∷ e₂ i ∷ e₃ i ∷ e₄ i ∷ [])
    ∙ sym
    (take_next 4 file at (omega arith)
    ∙ ap (◌∷◌ b₀) (take_next 3 file (at + 1) (omega arith)
    ∙ ap (◌∷◌ b₁) (take_next 2 file (at + 1 + 1) (omega arith)
    ∙ ap (◌∷◌ b₂) (ap (λ k. take 2 (drop k file)) third ∙ take_next 1 file (at + 3) (omega arith)
    ∙ ap (◌∷◌ b₃) (take_next 0 file (at + 3 + 1) (omega arith))))))
  where
    flag : (b : ℕ) → b ≤ 1 → cond (eqb b 1) 1 0 ≡ b
    flag b h = go (eqb b 1) refl
      where
        go : (z : Bool) → eqb b 1 ≡ z → cond z 1 0 ≡ b
        go true q = sym (eqb-true b 1 q)
        go false q = omega (arith, eqb-false b 1 q)

-- what a mark says of its records, at either width
abbrev pub part_of : Bool → Mark → ℕ
part_of wide m = cond (row (layout_of wide) m).holds_total (layout_of wide).total_size 0

pub holds_same : (a b : Bool) (m : Mark) → (row (layout_of a) m).holds_total ≡ (row (layout_of b) m).holds_total
holds_same a b Table = refl
holds_same a b Cell = refl
holds_same a b Operation = refl
holds_same a b Schedule = refl
holds_same a b Unknown = refl

pub letters-two : (wide : Bool) (m : Mark) → (m ≡ Unknown → ⊥) → length (row (layout_of wide) m).letters ≡ 2
unfolding text
letters-two true Table h = refl
letters-two false Table h = refl
letters-two wide Cell h = refl
letters-two wide Operation h = refl
letters-two wide Schedule h = refl
letters-two wide Unknown h = absurd (h refl)

mark-again : (wide : Bool) (m : Mark) → (m ≡ Unknown → ⊥) → (file : List ℕ) (at : ℕ) → byte_at file at ≡ byte_at (row (layout_of wide) m).letters 0
    → byte_at file (at + 1) ≡ byte_at (row (layout_of wide) m).letters 1 → mark_at (layout_of wide) file at ≡ m
unfolding mark_at mark_in has_mark text
mark-again true Table h file at e f = rw (e, f)
mark-again false Table h file at e f = rw (e, f)
mark-again true Cell h file at e f = rw (e, f)
mark-again false Cell h file at e f = rw (e, f)
mark-again true Operation h file at e f = rw (e, f)
mark-again false Operation h file at e f = rw (e, f)
mark-again true Schedule h file at e f = rw (e, f)
mark-again false Schedule h file at e f = rw (e, f)
mark-again wide Unknown h file at e f = absurd (h refl)

pub total-long : (wide : Bool) (t : Total) → length ((layout_of wide).total_bytes t) ≡ (layout_of wide).total_size
total-long true t = refl
total-long false t = refl

pub parts : (wide : Bool) (file : List ℕ) (at : ℕ) (m : Mark) → (m ≡ Unknown → ⊥)
    → (3 ≤ head_of (layout_of wide) file at m) × (size_of (layout_of wide) file at m ≡ head_of (layout_of wide) file at m + part_of wide m)
parts wide file at Table h = (omega arith, omega arith)
parts wide file at Cell h = (omega arith, omega arith)
parts wide file at Operation h = (omega arith, omega arith)
parts wide file at Schedule h = (omega arith, omega arith)
parts wide file at Unknown h = absurd (h refl)

behind : (xs ys : List ℕ) (i : ℕ) → length xs ≤ i → byte_at (xs ++ ys) i ≡ byte_at ys (i - length xs)
behind xs ys i h =
    let split : i ≡ length xs + (i - length xs) = omega arith in
    ap (byte_at (xs ++ ys)) split ∙ get_or-append-add xs ys (i - length xs) 0

-- one record of a file, written in the layout of any width
module _ (from to : Bool) (file : List ℕ) (at : ℕ) (m : Mark) (known : m ≡ Unknown → ⊥) (whole : at + size_of (layout_of from) file at m ≤ length file) where
  abbrev L : Layout
  L = layout_of from

  abbrev L' : Layout
  L' = layout_of to

  abbrev head : ℕ
  head = head_of L file at m

  abbrev letters : List ℕ
  letters = (row L' m).letters

  abbrev body : List ℕ
  body = take (head - 2) (drop (at + 2) file)

  abbrev total : Option Total
  total = cond (row L m).holds_total (some (L.total_at file (at + head))) none

  abbrev last : List ℕ
  last = total_bytes_of L' total

  abbrev written : List ℕ
  written = letters ++ (body ++ last)

  pub is-written : bytes_of L' (record_of L file at m) ≡ written
  unfolding bytes_of record_of
  is-written = refl

  body-long : length body ≡ head - 2
  body-long = length-take-le (head - 2) (drop (at + 2) file) (omega (arith, length-drop (at + 2) file, (parts from file at m known).1))

  last-long : length last ≡ part_of to m
  unfolding total_bytes_of
  last-long = go (row L m).holds_total (holds_same to from m)
    where
      go : (b : Bool) → (row L' m).holds_total ≡ b → length (total_bytes_of L' (cond b (some (L.total_at file (at + head))) none)) ≡ part_of to m
      go true e = total-long to (L.total_at file (at + head)) ∙ sym (ap (λ b. cond b L'.total_size 0) e)
      go false e = sym (ap (λ b. cond b L'.total_size 0) e)

  pub written-long : length written ≡ head + part_of to m
  written-long =
      length-append letters (body ++ last)
      ∙ omega (arith, length-append body last, letters-two to m known, body-long, last-long, (parts from file at m known).0)

  -- and read again at some place of another file
  module _ (file' : List ℕ) (at' : ℕ) (tail : List ℕ) (here : drop at' file' ≡ written ++ tail) where
    there : (i : ℕ) → i < head + part_of to m → byte_at file' (at' + i) ≡ byte_at written i
    there i h =
        sym (get_or-drop at' file' i 0) ∙ ap (λ l. byte_at l i) here ∙ get_or-append written tail 0 i (omega (arith, written-long))

    pub long-there : at' + (head + part_of to m) ≤ length file'
    long-there =
        omega (arith, sym (length-drop at' file') ∙ ap length here ∙ length-append written tail, written-long, (parts from file at m known).0)

    letter : (i : ℕ) → i < 2 → byte_at file' (at' + i) ≡ byte_at letters i
    letter i h =
        there i (omega (arith, (parts from file at m known).0)) ∙ get_or-append letters (body ++ last) 0 i (omega (arith, letters-two to m known))

    pub mark-there : mark_at L' file' at' ≡ m
    mark-there = mark-again to m known file' at' (ap (byte_at file') (sym (add-zero at')) ∙ letter 0 (omega arith)) (letter 1 (omega arith))

    pub body-there : (i : ℕ) → 2 ≤ i → i < head → byte_at file' (at' + i) ≡ byte_at file (at + i)
    body-there i low high =
        let two = letters-two to m known in
        let j = i - length letters in
        let place : at + 2 + j ≡ at + i = omega arith in
        there i (omega arith)
        ∙ behind letters (body ++ last) i (omega arith)
        ∙ get_or-append body last 0 j (omega (arith, body-long))
        ∙ get_or-take (head - 2) (drop (at + 2) file) j 0 (omega arith)
        ∙ get_or-drop (at + 2) file j 0
        ∙ ap (byte_at file) place

    pub pair-there : (i : ℕ) → 2 ≤ i → i + 1 < head → pair_at file' (at' + i) ≡ pair_at file (at + i)
    pair-there i low high =
        ap₂ (λ a b. a * 256 + b) (body-there i low (omega arith))
        (ap (byte_at file') (add_assoc at' i 1) ∙ body-there (i + 1) (omega arith) high ∙ ap (byte_at file) (sym (add_assoc at i 1)))

    last-there : (i : ℕ) → i < part_of to m → byte_at file' (at' + head + i) ≡ byte_at last i
    last-there i h =
        let two = letters-two to m known in
        let long = (parts from file at m known).0 in
        let j = head + i - length letters in
        let k : j - length body ≡ i = omega (arith, body-long) in
        ap (byte_at file') (add_assoc at' head i)
        ∙ there (head + i) (omega arith)
        ∙ behind letters (body ++ last) (head + i) (omega arith)
        ∙ behind body last j (omega (arith, body-long))
        ∙ ap (byte_at last) k

    body-again : take (head - 2) (drop (at' + 2) file') ≡ body
    body-again =
        ap (take (head - 2)) (sym (drop-drop 2 at' file') ∙ ap (drop 2) (here ∙ append_assoc letters (body ++ last) tail)
        ∙ drop_at letters (body ++ last ++ tail) 2 (letters-two to m known) ∙ append_assoc body last tail)
        ∙ take_at body (last ++ tail) (head - 2) body-long

    total-there : ((row L m).holds_total ≡ true → Fit (L.total_at file (at + head))) → (row L m).holds_total ≡ true
        → (L'.total_at file' (at' + head) ≡ L.total_at file (at + head)) × (L'.is_total_wrong file' (at' + head) ≡ false)
    unfolding total_bytes_of
    total-there fit e =
        let t = L.total_at file (at + head) in
        let bytes : last ≡ L'.total_bytes t = ap (λ b. total_bytes_of L' (cond b (some t) none)) e in
        let long : part_of to m ≡ L'.total_size = ap (λ b. cond b L'.total_size 0) (holds_same to from m ∙ e) in
        total-again (fit e) file' (at' + head) to (λ i h. last-there i (omega arith) ∙ ap (λ l. byte_at l i) bytes)

-- what stands at an offset is a record of another file, copied in the layout of a width
pub record Copied (from to : Bool) (file : List ℕ) (at : ℕ) (m : Mark) (file' : List ℕ) (at' : ℕ) : Type 0 where
  pub known : m ≡ Unknown → ⊥
  pub mark : mark_at (layout_of to) file' at' ≡ m
  pub byte : (i : ℕ) → 2 ≤ i → i < head_of (layout_of from) file at m → byte_at file' (at' + i) ≡ byte_at file (at + i)
  pub pair : (i : ℕ) → 2 ≤ i → i + 1 < head_of (layout_of from) file at m → pair_at file' (at' + i) ≡ pair_at file (at + i)
  pub body : take (head_of (layout_of from) file at m - 2) (drop (at' + 2) file') ≡ take (head_of (layout_of from) file at m - 2) (drop (at + 2) file)
  pub total : (row (layout_of from) m).holds_total ≡ true
      → ((layout_of to).total_at file' (at' + head_of (layout_of from) file at m) ≡ (layout_of from).total_at file (at + head_of (layout_of from) file at m))
      × ((layout_of to).is_total_wrong file' (at' + head_of (layout_of from) file at m) ≡ false)
  pub long : at' + (head_of (layout_of from) file at m + part_of to m) ≤ length file'

pub copied : (from to : Bool) (file : List ℕ) (at : ℕ) (m : Mark) → (m ≡ Unknown → ⊥) → at + size_of (layout_of from) file at m ≤ length file
    → ((row (layout_of from) m).holds_total ≡ true → Fit ((layout_of from).total_at file (at + head_of (layout_of from) file at m)))
    → (file' : List ℕ) (at' : ℕ) (tail : List ℕ) → drop at' file' ≡ bytes_of (layout_of to) (record_of (layout_of from) file at m) ++ tail
    → Copied from to file at m file' at'
copied from to file at m known whole fit file' at' tail is =
    let here = is ∙ ap (λ l. l ++ tail) (is-written from to file at m known whole) in
    record {
      known = known;
      mark = mark-there from to file at m known whole file' at' tail here;
      byte = body-there from to file at m known whole file' at' tail here;
      pair = pair-there from to file at m known whole file' at' tail here;
      body = body-again from to file at m known whole file' at' tail here;
      total = total-there from to file at m known whole file' at' tail here fit;
      long = long-there from to file at m known whole file' at' tail here;
    }

-- its size, and what it says
pub size-there : (from to : Bool) (file : List ℕ) (at : ℕ) (m : Mark) (file' : List ℕ) (at' : ℕ) → Copied from to file at m file' at'
    → size_of (layout_of to) file' at' m ≡ head_of (layout_of from) file at m + part_of to m
size-there from to file at Table file' at' c = omega arith
size-there from to file at Cell file' at' c = omega arith
size-there from to file at Operation file' at' c = omega arith
size-there from to file at Schedule file' at' c = omega (arith, c.byte 2 (omega arith) (omega arith))
size-there from to file at Unknown file' at' c = absurd (c.known refl)

pub record-there : (from to : Bool) (file : List ℕ) (at : ℕ) (m : Mark) (file' : List ℕ) (at' : ℕ) → Copied from to file at m file' at'
    → record_of (layout_of to) file' at' m ≡ record_of (layout_of from) file at m
unfolding record_of
record-there from to file at m file' at' c =
    let size = size-there from to file at m file' at' c in
    let head : head_of (layout_of to) file' at' m ≡ head_of (layout_of from) file at m = omega arith in
    λ i. record {
      mark = m;
      body = (ap (λ n. take (n - 2) (drop (at' + 2) file')) head ∙ c.body) i;
      total = (ap (λ n. cond (row (layout_of to) m).holds_total (some ((layout_of to).total_at file' (at' + n))) none) head ∙ go (row (layout_of from) m).holds_total refl) i;
    }
  where
    n : ℕ
    n = head_of (layout_of from) file at m

    go : (b : Bool) → (row (layout_of from) m).holds_total ≡ b
        → cond (row (layout_of to) m).holds_total (some ((layout_of to).total_at file' (at' + n))) none
        ≡ cond (row (layout_of from) m).holds_total (some ((layout_of from).total_at file (at + n))) none
    go true e =
        ap (λ b. cond b (some ((layout_of to).total_at file' (at' + n))) none) (holds_same to from m ∙ e)
        ∙ ap some (c.total e).0
        ∙ ap (λ b. cond b (some ((layout_of from).total_at file (at + n))) none) (sym e)
    go false e =
        ap (λ b. cond b (some ((layout_of to).total_at file' (at' + n))) none) (holds_same to from m ∙ e)
        ∙ ap (λ b. cond b (some ((layout_of from).total_at file (at + n))) none) (sym e)

-- what is carried to a record, all but its offset, is the same
pub record Beside (p q : Position) : Type 0 where
  pub part : q.part ≡ p.part
  pub size : q.size ≡ p.size
  pub lowest : q.lowest ≡ p.lowest
  pub operations : q.operations ≡ p.operations
  pub entries : q.entries ≡ p.entries

part_same : (a b : Bool) (m : Mark) → (row (layout_of a) m).part ≡ (row (layout_of b) m).part
part_same a b Table = refl
part_same a b Cell = refl
part_same a b Operation = refl
part_same a b Schedule = refl
part_same a b Unknown = refl

module _ (from to : Bool) (file : List ℕ) (p : Position) (file' : List ℕ) (q : Position) (near : Beside p q) where
  body-sound : (m : Mark) → Copied from to file p.at m file' q.at → (row (layout_of from) m).is_wrong file p ≡ false
      → (row (layout_of to) m).is_wrong file' q ≡ false
  body-sound Table c ok = ap (λ k. not (size_allowed (2 ^ k))) (c.byte 2 (omega arith) (omega arith)) ∙ ok
  body-sound Cell c ok =
      let n = pair_at file (p.at + 2) in
      let k = pair_at file (p.at + 4) in
      let wrong = (layout_of from).is_total_wrong file (p.at + 6) in
      let (others, key) = neither (wrong || ltb n p.lowest || leb p.size n) (eqb k 0) ok in
      let (front, high) = neither (wrong || ltb n p.lowest) (leb p.size n) others in
      let (total, low) = neither wrong (ltb n p.lowest) front in
      let number = c.pair 2 (omega arith) (omega arith) in
      let six : head_of (layout_of from) file p.at Cell ≡ 6 = omega arith in
      let fit = subst (λ h. (layout_of to).is_total_wrong file' (q.at + h) ≡ false) six (c.total refl).1 in
      let low' = (λ i. ltb (number i) (near.lowest i)) ∙ low in
      let high' = (λ i. leb (near.size i) (number i)) ∙ high in
      let key' = ap (λ l. eqb l 0) (c.pair 4 (omega arith) (omega arith)) ∙ key in
      λ i. fit i || low' i || high' i || key' i
  body-sound Operation c ok =
      let five : head_of (layout_of from) file p.at Operation ≡ 5 = omega arith in
      subst (λ h. (layout_of to).is_total_wrong file' (q.at + h) ≡ false) five (c.total refl).1
  body-sound Schedule c ok = ap (λ n. eqb n 0) (c.byte 2 (omega arith) (omega arith)) ∙ ok
  body-sound Unknown c ok = ok

  room-sound : (m : Mark) → Copied from to file p.at m file' q.at → (row (layout_of from) m).is_too_many file p ≡ false
      → (row (layout_of to) m).is_too_many file' q ≡ false
  room-sound Table c ok = ok
  room-sound Cell c ok = ok
  room-sound Operation c ok = ap (leb most_operations) near.operations ∙ ok
  room-sound Schedule c ok = (λ i. ltb most_entries (near.entries i + c.byte 2 (omega arith) (omega arith) i)) ∙ ok
  room-sound Unknown c ok = ok

  module _ {m : Mark} (c : Copied from to file p.at m file' q.at) where
    pub sound-there : Sound (layout_of from) file p m → Sound (layout_of to) file' q m
    sound-there ok =
        record {
          follows = ap₂ may_follow near.part (part_same to from m) ∙ ok.follows;
          whole = omega (arith, size-there from to file p.at m file' q.at c, c.long);
          body = body-sound m c ok.body;
          room = room-sound m c ok.room;
        }

    pub next-at : (past (layout_of to) file' q m).at ≡ q.at + (head_of (layout_of from) file p.at m + part_of to m)
    unfolding past
    next-at = ap (λ n. q.at + n) (size-there from to file p.at m file' q.at c)

  pub next-beside : (m : Mark) → Copied from to file p.at m file' q.at → Beside (past (layout_of from) file p m) (past (layout_of to) file' q m)
  unfolding past
  next-beside Table c =
      record {
        part = refl;
        size = ap (λ k. 2 ^ k) (c.byte 2 (omega arith) (omega arith));
        lowest = near.lowest;
        operations = near.operations;
        entries = near.entries;
      }
  next-beside Cell c =
      record {
        part = refl;
        size = near.size;
        lowest = ap (λ n. n + 1) (c.pair 2 (omega arith) (omega arith));
        operations = near.operations;
        entries = near.entries;
      }
  next-beside Operation c =
      record {
        part = refl;
        size = near.size;
        lowest = near.lowest;
        operations = ap (λ n. n + 1) near.operations;
        entries = near.entries;
      }
  next-beside Schedule c =
      record {
        part = refl;
        size = near.size;
        lowest = near.lowest;
        operations = near.operations;
        entries = λ i. near.entries i + c.byte 2 (omega arith) (omega arith) i;
      }
  next-beside Unknown c = absurd (c.known refl)
