-- Packing at any width: the laws that a width owes, and what follows of them. `decode` and `encode` are inverse on the words that the checks
-- accept and on the cells that they stand for, and so for operations; what a swap stores can be packed again.
-- Assumes nothing.
use mathlib.Core.Path.{◌≡◌, refl, ap, sym, subst, ◌∙◌}
use Prim.Native.Nat.{ℕ, zero, suc, ◌≤◌, ◌<◌}
use mathlib.Core.Bool.{Bool, true, false}
use mathlib.Core.List.{List, map}
use native.Mathlib.Omega.{arith}
use lib.Dec.{T, ltb, ltb→lt, lt→ltb}
use lib.ListN.{length, get_or, get_or-map}
use Rattle.semantics.specs.declared.Total.{Total}
use Rattle.semantics.specs.Totals.{plus_at}
use Rattle.semantics.specs.Cells.{Cell, empty, tombstone, live, Kind, find, insert, update, add, remove, Operation}
use Rattle.semantics.specs.Step.{Held, vacant, mine, updating, effect, held_cell, fate_cell, new_cell}
use Rattle.semantics.specs.Words.{Width, is_live_key, tombstone_key, nothing, cell_from, decode, encode, setting_of}
use Rattle.semantics.specs.Words.{kind_of, kind_number, is_kind, decode_operation, encode_operation}
use Rattle.semantics.proofs.Lists.{map_back}
use Rattle.semantics.proofs.Booleans.{passed, join, both}

pub live-bounds : (k : ℕ) → T (is_live_key k) → (0 < k) × (k < 65535)
unfolding is_live_key
live-bounds k h = let (a, b) = both (ltb 0 k) (ltb k 65535) h in (ltb→lt 0 k a, ltb→lt k 65535 b)

pub live-key : (k : ℕ) → 0 < k → k < 65535 → T (is_live_key k)
unfolding is_live_key
live-key k a b = join (ltb 0 k) (ltb k 65535) (lt→ltb 0 k a) (lt→ltb k 65535 b)

-- a key and a total that fit into a word: those of a live cell, and those of an operation
pub record Packed (W : Width) (k : ℕ) (t : Total) : Type 0 where
  pub is_live : T (is_live_key k)
  pub is-total : T (W.is_total t)

abbrev pub Packs : Width → Cell Total → Type 0
Packs W empty = Unit
Packs W tombstone = Unit
Packs W (live k t) = Packed W k t

-- what a width owes: totals are closed under sums; fields come back out of a word as they were put in; the words that the checks accept are
-- those of cells that can be packed; and of an operation that they accept the fields are as the rules want them
pub record Packing (W : Width) : Type 0 where
  pub nothing-total : T (W.is_total nothing)
  pub plus-total : (t u : Total) → T (W.is_total t) → T (W.is_total u) → T (W.is_total (plus_at W.ceiling t u))
  pub empty-key : W.key_of 0 ≡ 0
  pub empty-word : W.cell_word 0 nothing ≡ 0
  pub key_back : (k : ℕ) (t : Total) → k ≤ tombstone_key → T (W.is_total t) → W.key_of (W.cell_word k t) ≡ k
  pub total-back : (k : ℕ) (t : Total) → k ≤ tombstone_key → T (W.is_total t) → W.total_in (W.cell_word k t) ≡ t
  pub word_cell : (w : ℕ) → T (W.cell_allowed w) → (x : Cell Total) × Packs W x × (encode W x ≡ w)
  pub cell-allowed : (x : Cell Total) → Packs W x → T (W.cell_allowed (encode W x))
  pub kind-back : (n k : ℕ) (t : Total) → n < 256 → k ≤ tombstone_key → T (W.is_total t) → W.kind_bits (W.operation_word n k t) ≡ n
  pub operation-key-back : (n k : ℕ) (t : Total) → n < 256 → k ≤ tombstone_key → T (W.is_total t) → W.operation_key (W.operation_word n k t) ≡ k
  pub amount-back : (n k : ℕ) (t : Total) → n < 256 → k ≤ tombstone_key → T (W.is_total t) → W.amount_in (W.operation_word n k t) ≡ t
  pub operation-back : (w : ℕ) → T (W.operation_allowed w) → W.operation_word (W.kind_bits w) (W.operation_key w) (W.amount_in w) ≡ w
  pub operation-parts : (w : ℕ) → T (W.operation_allowed w)
      → T (is_kind (W.kind_bits w)) × T (is_live_key (W.operation_key w)) × T (W.is_total (W.amount_in w))
  pub code-back : (n : ℕ) (t : Total) → T (W.is_total t) → W.answer_code (W.packed_answer n t) ≡ n
  pub answer_back : (n : ℕ) (t : Total) → T (W.is_total t) → W.answer_total (W.packed_answer n t) ≡ t

-- a cell is what its key says
pub cell-live : (k : ℕ) (t : Total) → T (is_live_key k) → cell_from k t ≡ live k t
unfolding cell_from
cell-live k t l = rw (passed (is_live_key k) l)

-- the cells of some words: past their end they are empty, since word 0 is
pub decode-zero : (W : Width) → W.key_of 0 ≡ 0 → decode W 0 ≡ empty
unfolding decode cell_from is_live_key
decode-zero W e = rw e

pub decoded-at : (W : Width) → W.key_of 0 ≡ 0 → (ws : List ℕ) (i : ℕ) → get_or (map (decode W) ws) i empty ≡ decode W (get_or ws i 0)
decoded-at W e ws i = ap (get_or (map (decode W) ws) i) (sym (decode-zero W e)) ∙ get_or-map (decode W) ws i 0

module _ {W : Width} (P : Packing W) where
  pub decode-encode : (x : Cell Total) → Packs W x → decode W (encode W x) ≡ x
  unfolding decode encode cell_from is_live_key
  decode-encode empty p = decode-zero W P.empty-key
  decode-encode tombstone p = rw (P.key_back tombstone_key nothing (omega arith) P.nothing-total)
  decode-encode (live k t) p =
      let b : k ≤ tombstone_key = omega (arith, live-bounds k p.is_live) in
      rw (P.key_back k t b p.is-total, P.total-back k t b p.is-total) (cell-live k t p.is_live)

  pub encode-key : (x : Cell Total) → Packs W x → W.key_of (encode W x) ≤ tombstone_key
  unfolding encode
  encode-key empty p = omega (arith, P.empty-key)
  encode-key tombstone p = omega (arith, P.key_back tombstone_key nothing (omega arith) P.nothing-total)
  encode-key (live k t) p =
      let b : k ≤ tombstone_key = omega (arith, live-bounds k p.is_live) in
      omega (arith, P.key_back k t b p.is-total)

  encode-decode : (w : ℕ) → T (W.cell_allowed w) → encode W (decode W w) ≡ w
  encode-decode w h = let (x, p, e) = P.word_cell w h in subst (λ v. encode W (decode W v) ≡ v) e (ap (encode W) (decode-encode x p))

  pub decode-packs : (w : ℕ) → T (W.cell_allowed w) → Packs W (decode W w)
  decode-packs w h = let (x, p, e) = P.word_cell w h in subst (λ v. Packs W (decode W v)) e (subst (Packs W) (sym (decode-encode x p)) p)

  pub encode-decode-all : (ws : List ℕ) → ((i : ℕ) → i < length ws → T (W.cell_allowed (get_or ws i 0))) → map (encode W) (map (decode W) ws) ≡ ws
  encode-decode-all ws h = map_back (decode W) (encode W) 0 ws (λ i b. encode-decode (get_or ws i 0) (h i b))

  pub decode-encode-all : (xs : List (Cell Total)) → ((i : ℕ) → i < length xs → Packs W (get_or xs i empty)) → map (decode W) (map (encode W) xs) ≡ xs
  decode-encode-all xs h = map_back (encode W) (decode W) empty xs (λ i b. decode-encode (get_or xs i empty) (h i b))

  plus-packed : {k : ℕ} {t u : Total} → Packed W k t → Packed W k u → Packed W k (plus_at W.ceiling t u)
  plus-packed {k} {t} {u} p q = record { is_live = p.is_live; is-total = P.plus-total t u p.is-total q.is-total }

  -- what a swap stores can be packed where the held word and the operation can
  module _ (c : ℕ) where
    fate-packs : (kind : Kind) (k : ℕ) (t u : Total) → Packed W k t → Packed W k u
        → Packs W (fate_cell (setting_of W c) k t (effect (setting_of W c) kind t u).fate)
    unfolding fate_cell updating effect
    fate-packs find k t u p q = p
    fate-packs insert k t u p q = p
    fate-packs update k t u p q = go ((setting_of W c).saturated t)
      where
        go : (z : Bool) → Packs W (fate_cell (setting_of W c) k t (updating t u z).fate)
        go true = p
        go false = q
    fate-packs add k t u p q = plus-packed p q
    fate-packs remove k t u p q = tt

    pub new-packs : (o : Operation Total) (h : Held Total)
        → Packed W o.key o.amount → Packs W (held_cell (setting_of W c) o.key h) → Packs W (new_cell (setting_of W c) o h)
    unfolding held_cell new_cell
    new-packs o vacant p q = p
    new-packs o (mine t) p q = fate-packs o.kind o.key t o.amount q p

-- the same for operations
kind-of-number : (k : Kind) → kind_of (kind_number k) ≡ k
unfolding kind_number kind_of
kind-of-number find = refl
kind-of-number insert = refl
kind-of-number update = refl
kind-of-number add = refl
kind-of-number remove = refl

kind-number-small : (k : Kind) → kind_number k < 256
unfolding kind_number
kind-number-small find = omega arith
kind-number-small insert = omega arith
kind-number-small update = omega arith
kind-number-small add = omega arith
kind-number-small remove = omega arith

kind-number-of : (n : ℕ) → T (is_kind n) → kind_number (kind_of n) ≡ n
unfolding is_kind kind_number kind_of
kind-number-of zero h = absurd h
kind-number-of (suc zero) h = refl
kind-number-of (suc (suc zero)) h = refl
kind-number-of (suc (suc (suc zero))) h = refl
kind-number-of (suc (suc (suc (suc zero)))) h = refl
kind-number-of (suc (suc (suc (suc (suc zero))))) h = refl
kind-number-of (suc (suc (suc (suc (suc (suc n)))))) h =
    let m = suc (suc (suc (suc (suc (suc n))))) in
    let b = ltb→lt m 6 (both (ltb 0 m) (ltb m 6) h).1 in
    absurd (omega arith)

module _ {W : Width} (P : Packing W) where
  pub decode-operation-packed : (w : ℕ) → T (W.operation_allowed w) → Packed W (decode_operation W w).key (decode_operation W w).amount
  unfolding decode_operation
  decode-operation-packed w h = let (n, k, a) = P.operation-parts w h in record { is_live = k; is-total = a }

  pub encode-decode-operation : (w : ℕ) → T (W.operation_allowed w) → encode_operation W (decode_operation W w) ≡ w
  unfolding encode_operation decode_operation
  encode-decode-operation w h =
      ap (λ (n : ℕ). W.operation_word n (W.operation_key w) (W.amount_in w)) (kind-number-of (W.kind_bits w) (P.operation-parts w h).0)
      ∙ P.operation-back w h

  pub decode-encode-operation : (o : Operation Total) → Packed W o.key o.amount → decode_operation W (encode_operation W o) ≡ o
  unfolding encode_operation decode_operation
  decode-encode-operation o p =
      let n = kind_number o.kind in
      let b = kind-number-small o.kind in
      let l : o.key ≤ tombstone_key = omega (arith, live-bounds o.key p.is_live) in
      let kind : kind_of (W.kind_bits (encode_operation W o)) ≡ o.kind =
      ap kind_of (P.kind-back n o.key o.amount b l p.is-total) ∙ kind-of-number o.kind in
      let key = P.operation-key-back n o.key o.amount b l p.is-total in
      let total = P.amount-back n o.key o.amount b l p.is-total in
      λ i. record { kind = kind i; key = key i; amount = total i }
