-- The longest texts: of a number, a word, a line, and of a run of at most 64 operations and 4,096 cells, whatever the words, at any width
-- whose totals have texts of a known length.
-- Assumes nothing.
use mathlib.Core.Path.{◌≡◌, refl, sym}
use Prim.Native.Nat.{ℕ, zero, suc, ◌+◌, ◌-◌, ◌*◌, ◌/◌, ◌%◌, ◌^◌, ◌≤◌, ◌<◌, min}
use mathlib.Core.Bool.{Bool, true, false, cond}
use mathlib.Core.List.{List, [], ◌∷◌, ◌++◌}
use native.Mathlib.Nat.{mul-le-mul_left, mul-suc}
use native.Mathlib.Omega.{arith}
use native.Mathlib.Decide.{dec_lt}
use lib.Dec.{T, eqb, ltb, leb, leb→le}
use lib.ListN.{length, get_or, length-append}
use borrow.Author.Tests.{ltb-false, le-leb, eqb-true}
use Rattle.semantics.specs.Basics.{all_of}
use Rattle.semantics.specs.declared.Outcome.{Outcome}
use Rattle.semantics.specs.declared.Total.{Total}
use Rattle.semantics.specs.Cells.{tombstone}
use Rattle.semantics.specs.Words.{Width, tombstone_key, encode}
use Rattle.semantics.specs.Narrow.{narrow, narrow_width}
use Rattle.semantics.specs.Wide.{flagged_in, wide_width}
use Rattle.semantics.specs.Text.{text, decimal_in, decimal, texts_below}
use Rattle.semantics.specs.Listing.{kind_words, kind_word, code_words, code_word, narrow_text, wide_text, refusal_text, counts_text}
use Rattle.semantics.specs.Listing.{operation_text, answer_text, row_text, log_text, contents_text, cell_text, run_text, listing}
use Rattle.semantics.proofs.Booleans.{both}

-- a text of at most n bytes
pub record Within (n : ℕ) (bytes : List ℕ) : Type 0 where
  pub most : length bytes ≤ n

within : (bytes : List ℕ) → Within (length bytes) bytes
within bytes = record { most = omega arith }

infixl 20 ◌then◌
◌then◌ : {m n : ℕ} {a b : List ℕ} → Within m a → Within n b → Within (m + n) (a ++ b)
◌then◌ {a = a} {b = b} h g = record { most = omega (arith, h.most, g.most, length-append a b) }

pub looser : {m : ℕ} {a : List ℕ} (n : ℕ) → m ≤ n → Within m a → Within n a
looser n b h = record { most = omega (arith, h.most) }

-- it fits where there is room for as many
pub fits : {n room : ℕ} {bytes : List ℕ} → Within n bytes → n ≤ room → true ≡ leb (length bytes) room
fits {room = room} {bytes = bytes} h enough = sym (le-leb (length bytes) room (omega (arith, h.most)))

-- a digit more
one-digit : (k n j : ℕ) → (10 ≤ n → length (decimal_in k (n / 10)) ≤ j) → length (decimal_in (suc k) n) ≤ suc j
unfolding decimal_in
one-digit k n j h = go (ltb n 10) refl
  where
    go : (z : Bool) → ltb n 10 ≡ z → length (cond z ((48 + n) ∷ []) (decimal_in k (n / 10) ++ ((48 + n % 10) ∷ []))) ≤ suc j
    go true e = omega arith
    go false e = omega (arith, length-append (decimal_in k (n / 10)) ((48 + n % 10) ∷ []), h (ltb-false n 10 e))

-- a number below 10^j has at most j digits, and none has more than 20
digits : (k j n : ℕ) → n < 10 ^ suc j → length (decimal_in k n) ≤ suc j
unfolding decimal_in
digits zero j n h = omega arith
digits (suc k) zero n h = one-digit k n 0 (λ b. absurd (omega arith))
digits (suc k) (suc j) n h = one-digit k n (suc j) (λ b. digits k j (n / 10) (omega arith))

digits-most : (k n : ℕ) → length (decimal_in k n) ≤ k
unfolding decimal_in
digits-most zero n = omega arith
digits-most (suc k) n = one-digit k n k (λ b. digits-most k (n / 10))

number : (j n : ℕ) → n < 10 ^ suc j → Within (suc j) (decimal n)
unfolding decimal
number j n h = record { most = digits 20 j n h }

any-number : (n : ℕ) → Within 20 (decimal n)
unfolding decimal
any-number n = record { most = digits-most 20 n }

-- one of several texts
one_of : (b : ℕ) (l : List (List ℕ)) (n : ℕ) → T (all_of (λ w. leb (length w) b) l) → Within b (get_or l n [])
unfolding all_of
one_of b [] n h = record { most = omega arith }
one_of b (w ∷ l) zero h = record { most = leb→le (length w) b (both (leb (length w) b) (all_of (λ w. leb (length w) b) l) h).0 }
one_of b (w ∷ l) (suc n) h = one_of b l n (both (leb (length w) b) (all_of (λ w. leb (length w) b) l) h).1

kind : (n : ℕ) → Within 6 (kind_word n)
unfolding kind_word text all_of
kind n = one_of 6 kind_words n tt

code : (n : ℕ) → Within 10 (code_word n)
unfolding code_word text all_of
code n = one_of 10 code_words n tt

-- how long the texts of a width's totals are, at most m, and that its operations' keys have five digits
pub record Short (W : Width) (total_text : Total → List ℕ) (m : ℕ) : Type 0 where
  pub key : (w : ℕ) → W.operation_key w < 10 ^ 5
  pub amount : (w : ℕ) → Within m (total_text (W.amount_in w))
  pub answer : (w : ℕ) → Within m (total_text (W.answer_total w))
  pub total : (w : ℕ) → Within m (total_text (W.total_in w))

narrow-total : (n : ℕ) → n < 65536 → Within 6 (narrow_text (narrow n))
unfolding narrow_text narrow text
narrow-total n h = go (eqb n 65535)
  where
    go : (z : Bool) → Within 6 (cond z (text "pinned") (decimal n))
    go true = within (text "pinned")
    go false = looser 6 (omega arith) (number 4 n (omega arith))

pub narrow_short : Short narrow_width narrow_text 6
narrow_short =
    record {
      key = λ w. omega arith;
      amount = λ w. narrow-total (w % 65536) (omega arith);
      answer = λ w. narrow-total (w % 65536) (omega arith);
      total = λ w. narrow-total (w % 65536) (omega arith);
    }

wide-total : (w : ℕ) → Within 18 (wide_text (flagged_in w))
unfolding wide_text text
wide-total w = go (eqb (w / 2 ^ 32 % 2) 1)
  where
    n : ℕ
    n = w % 2 ^ 32

    ten : Within 10 (decimal n)
    ten = number 9 n (omega arith)

    go : (z : Bool) → Within 18 (cond z (text "atleast " ++ decimal n) (decimal n))
    go true = within (text "atleast ") then ten
    go false = looser 18 (omega arith) ten

pub wide_short : Short wide_width wide_text 18
wide_short = record { key = λ w. omega arith; amount = wide-total; answer = wide-total; total = wide-total }

-- texts one after another, where the bound grows by each
texts : (n : ℕ) (f : ℕ → List ℕ) (most : ℕ → ℕ) → ((i : ℕ) → i < n → (m : ℕ) × Within m (f i) × (most i + m ≤ most (suc i)))
    → Within (most n) (texts_below n f)
unfolding texts_below
texts zero f most h = record { most = omega arith }
texts (suc n) f most h =
    let (m, w, g) = h n (omega arith) in
    looser (most (suc n)) g (texts n f most (λ i b. h i (omega arith)) then w)

pub refusal : (n place : ℕ) → Within 53 (refusal_text n place)
unfolding refusal_text text
refusal n place = within (text "refused ") then any-number n then within (text " at ") then any-number place then within (text "\n")

counts : (rows : ℕ) (o : Outcome) → Within 104 (counts_text rows o)
unfolding counts_text text
counts rows o =
    within (text "rows ") then any-number rows then within (text " done ") then any-number o.done then within (text " lost ")
    then any-number o.lost then within (text " idle ") then any-number o.idle then within (text "\n")

-- the numbers of a log have 20 digits at most, since nothing here says that they are rows
entries : (done : ℕ) (l : List ℕ) → min done (length l) ≤ 64 → Within 1348 (log_text done l)
unfolding log_text text
entries done l h =
    let n : ℕ = min done (length l) in
    let below : 21 * n ≤ 1344 = omega arith in
    within (text "log")
    then looser 1344 below (texts n (λ i. text " " ++ decimal (get_or l i 0)) (λ i. 21 * i) (λ i b. (21, within (text " ") then any-number (get_or l i 0), omega arith)))
    then within (text "\n")

module _ {W : Width} {total_text : Total → List ℕ} {m : ℕ} (short : Short W total_text m) where
  operation : (i w : ℕ) → i < 100 → Within (20 + m) (operation_text W total_text i w)
  unfolding operation_text text
  operation i w h =
      within (text "row ") then number 1 i h then within (text " ") then kind (W.kind_bits w) then within (text " ")
      then number 4 (W.operation_key w) (short.key w) then within (text " ") then short.amount w

  answer : (a : ℕ) → Within (12 + m) (answer_text W total_text a)
  unfolding answer_text text
  answer a = within (text " ") then code (W.answer_code a) then within (text " ") then short.answer a

  row : (i w a : ℕ) → i < 100 → Within (33 + 2 * m) (row_text W total_text i w a)
  unfolding row_text text
  row i w a h = looser (33 + 2 * m) (omega arith) (operation i w h then answer a then within (text "\n"))

  held : (w : ℕ) → W.key_of w ≤ tombstone_key → Within (7 + m) (contents_text W total_text w)
  unfolding contents_text text
  held w b = go (eqb w (encode W tombstone))
    where
      go : (z : Bool) → Within (7 + m) (cond z (text " gone") (text " " ++ decimal (W.key_of w) ++ text " " ++ total_text (W.total_in w)))
      go true = looser (7 + m) (omega arith) (within (text " gone"))
      go false = within (text " ") then number 4 (W.key_of w) (omega arith) then within (text " ") then short.total w

  cell : (i d w : ℕ) → i < 10 ^ suc d → W.key_of w ≤ tombstone_key → Within (13 + m + suc d) (cell_text W total_text i w)
  unfolding cell_text text
  cell i d w h b = go (eqb w 0)
    where
      go : (z : Bool) → Within (13 + m + suc d) (cond z [] (text "cell " ++ decimal i ++ contents_text W total_text w ++ text "\n"))
      go true = record { most = omega arith }
      go false = looser (13 + m + suc d) (omega arith) (within (text "cell ") then number d i h then held w b then within (text "\n"))

  -- a cell's number has three digits, from 1,000 on four
  cell-lines : (c : ℕ) (l : List ℕ) → c ≤ 4096 → ((i : ℕ) → W.key_of (get_or l i 0) ≤ tombstone_key)
      → Within (68632 + m * 4096) (texts_below c (λ i. cell_text W total_text i (get_or l i 0)))
  cell-lines c l h b =
      looser (68632 + m * 4096) (omega (arith, mul-le-mul_left m h))
      (texts c (λ i. cell_text W total_text i (get_or l i 0)) (λ i. 17 * i + m * i - min i 1000) grows)
    where
      grows : (i : ℕ) → i < c
          → (n : ℕ) × Within n (cell_text W total_text i (get_or l i 0)) × ((17 * i + m * i - min i 1000) + n ≤ 17 * suc i + m * suc i - min (suc i) 1000)
      grows i less =
          elim (dec_lt i 1000) [
            | yes small ↦ (13 + m + 3, cell i 2 (get_or l i 0) small (b i), omega (arith, mul-suc m i))
            | no large ↦ (13 + m + 4, cell i 3 (get_or l i 0) (omega arith) (b i), omega (arith, mul-suc m i))
          ]

  rows : (n : ℕ) (operations answers : List ℕ) → n ≤ 64
      → Within (2112 + m * 128) (texts_below n (λ i. row_text W total_text i (get_or operations i 0) (get_or answers i 0)))
  rows n operations answers h =
      looser (2112 + m * 128) (omega (arith, mul-le-mul_left m h))
      (texts n (λ i. row_text W total_text i (get_or operations i 0) (get_or answers i 0)) (λ i. 33 * i + 2 * (m * i))
      (λ i b. (33 + 2 * m, row i (get_or operations i 0) (get_or answers i 0) (omega arith), omega (arith, mul-suc m i))))

-- what bounds the text of a run that is not refused
pub record Small (W : Width) (o : Outcome) (operations log cells : List ℕ) : Type 0 where
  pub rows : length operations ≤ 64
  pub entries : min o.done (length log) ≤ 64
  pub size : length cells ≤ 4096
  pub keys : (i : ℕ) → W.key_of (get_or cells i 0) ≤ tombstone_key

-- so long at most, where a total's text has m bytes
abbrev pub most_listing : ℕ → ℕ
most_listing m = 72196 + m * 4224

module _ {W : Width} {total_text : Total → List ℕ} {m : ℕ} (short : Short W total_text m) (o : Outcome) (operations answers log cells : List ℕ) where
  run-within : Small W o operations log cells → Within (most_listing m) (run_text W total_text o operations answers log cells)
  unfolding run_text
  run-within s =
      looser (most_listing m) (omega arith)
      (counts (length operations) o
      then rows short (length operations) operations answers s.rows
      then entries o.done log s.entries
      then cell-lines short (length cells) cells s.size s.keys)

  pub listing-within : (o.number ≡ 0 → Small W o operations log cells) → Within (most_listing m) (listing W total_text o operations answers log cells)
  unfolding listing
  listing-within small = go (eqb o.number 0) refl
    where
      go : (z : Bool) → eqb o.number 0 ≡ z
          → Within (most_listing m) (cond z (run_text W total_text o operations answers log cells) (refusal_text o.number o.place))
      go true e = run-within (small (eqb-true o.number 0 e))
      go false e = looser (most_listing m) (omega arith) (refusal o.number o.place)
