-- No refusal gives what the theorems ask: what follows from each condition of the run's table that is not met, and from all of them that
-- the starting cells are as Laws.antt says and that cells and operations can be packed.
-- Assumes nothing.
use mathlib.Core.Path.{◌≡◌, sym, ap, subst, ◌∙◌}
use Prim.Native.Nat.{ℕ, zero, suc, ◌+◌, ◌-◌, ◌%◌, ◌≤◌, ◌<◌, suc-le-suc}
use mathlib.Core.Bool.{false, true≢false}
use mathlib.Core.List.{List, [], ◌∷◌, map}
use mathlib.Core.Option.{some}
use native.Mathlib.Nat.{mod-lt}
use native.Mathlib.Decide.{dec_lt}
use native.Mathlib.Omega.{arith}
use lib.Dec.{T, leb, ltb}
use lib.ListN.{length, get_or, get_elem?, take, length-take, length-map, get_or-eq_default}
use lib.Seq.{get_or-take}
use borrow.Author.Tests.{ltb-false, leb-false, le-ltb}
use Rattle.semantics.specs.declared.Total.{Total}
use Rattle.semantics.specs.Basics.{is_some, some_below}
use Rattle.semantics.specs.Cells.{Setting, Cell, Operation, empty, keyed, is_empty}
use Rattle.semantics.specs.Step.{place_of}
use Rattle.semantics.specs.Words.{Width, size_allowed, decode, decode_operation, setting_of}
use Rattle.semantics.specs.Refusals.{at_first, Call, call_of, most_operations, most_entries, stands_lower, is_repeated, is_cut_off, is_unreachable}
use Rattle.semantics.specs.Refusals.{size_not_allowed, too_many, too_short, bad_cell, bad_operation, bad_entry, repeated_key, unreachable_key, run_conditions, run_refusal}
use Rattle.semantics.proofs.Laws.{Lawful, Accepted}
use Rattle.semantics.proofs.Lists.{elem-get_d, elem-map-all}
use Rattle.semantics.proofs.Table.{distance_back, keyed-is-live}
use Rattle.semantics.proofs.Booleans.{affirmed, neither}
use Rattle.semantics.proofs.Sizes.{allowed-lawful}
use Rattle.semantics.proofs.Words.{Packed, Packs, Packing, decode-zero, decoded-at, decode-packs, decode-operation-packed}
use Rattle.semantics.proofs.Searches.{none_below, none-some-below}
use Rattle.semantics.proofs.Conditions.{none-met, none-accepts}

-- what the run's checks say of a call that none of them turns away
pub record Passed (W : Width) (call : Call) : Type 0 where
  pub size : T (size_allowed (length call.cells))
  pub few : length call.operations ≤ most_operations
  pub short : length call.schedule ≤ most_entries
  pub answers : length call.operations ≤ call.answers_length
  pub log : length call.operations ≤ call.log_length
  pub cells : (i : ℕ) → i < length call.cells → T (W.cell_allowed (get_or call.cells i 0))
  pub operations : (i : ℕ) → i < length call.operations → T (W.operation_allowed (get_or call.operations i 0))
  pub entries : (i : ℕ) → i < length call.schedule → get_or call.schedule i 0 < length call.operations
  pub distinct : (i : ℕ) → i < length call.cells → is_repeated (map (decode W) call.cells) i ≡ false
  pub reached : (i : ℕ) → i < length call.cells → is_unreachable (setting_of W (length call.cells)) (map (decode W) call.cells) i ≡ false

pub accepted-call : (W : Width) (call : Call) → (run_refusal W call).number ≡ 0 → Passed W call
unfolding run_refusal run_conditions size_not_allowed too_many too_short bad_cell bad_operation bad_entry repeated_key unreachable_key at_first
accepted-call W call e =
    let cells = call.cells in
    let n = length call.operations in
    let (size, (many, (slices, (cell, (operation, (entry, (repeated, (unreachable, end)))))))) = none-met (run_conditions W call) (omega arith) e in
    let (few, short) = neither (ltb most_operations n) (ltb most_entries (length call.schedule)) many in
    let (answers, log) = neither (ltb call.answers_length n) (ltb call.log_length n) slices in
    record {
      size = affirmed (size_allowed (length cells)) size;
      few = ltb-false most_operations n few;
      short = ltb-false most_entries (length call.schedule) short;
      answers = ltb-false call.answers_length n answers;
      log = ltb-false call.log_length n log;
      cells = λ i b. affirmed (W.cell_allowed (get_or cells i 0)) (none_below (length cells) _ cell i b);
      operations = λ i b. affirmed (W.operation_allowed (get_or call.operations i 0)) (none_below n _ operation i b);
      entries = λ i b. leb-false n (get_or call.schedule i 0) (none_below (length call.schedule) _ entry i b);
      distinct = none_below (length cells) (is_repeated (map (decode W) cells)) repeated;
      reached = none_below (length cells) (is_unreachable (setting_of W (length cells)) (map (decode W) cells)) unreachable;
    }

-- What Laws.antt asks of starting cells, of any list of them in which no key is repeated and none unreachable.
module _ {S : Setting} (lawful : Lawful S) (cells : List (Cell S.Total)) (long : length cells ≡ S.size) where
  abbrev at : ℕ → Cell S.Total
  at i = get_or cells i empty

  -- a cell that has a key is one of the table's
  inside : (k i : ℕ) (t : S.Total) → keyed k (at i) ≡ some t → i < length cells
  unfolding keyed is_some
  inside k i t h = elim (dec_lt i (length cells)) [
    | yes l ↦ l
    | no l ↦ absurd (true≢false (ap is_some (sym h ∙ ap (keyed k) (get_or-eq_default cells empty {n = i} (omega arith)))))
  ]

  module _ (distinct : (i : ℕ) → i < length cells → is_repeated cells i ≡ false)
      (reached : (i : ℕ) → i < length cells → is_unreachable S cells i ≡ false) where
    -- no key of a cell stands lower
    lowest : (k i j : ℕ) (t u : S.Total) → keyed k (at i) ≡ some t → keyed k (at j) ≡ some u → j ≤ i
    unfolding is_repeated stands_lower is_some
    lowest k i j t u f g =
        let s : some_below j (λ m. is_some (keyed k (at m))) ≡ false =
        ap (stands_lower cells j) (sym (keyed-is-live k (at j) u g)) ∙ distinct j (inside k j u g) in
        elim (dec_lt i j) [
          | yes a ↦ absurd (true≢false (sym (ap is_some f) ∙ none_below j _ s i a))
          | no a ↦ omega arith
        ]

    -- and each is at its distance from home, with no empty cell before it
    reach : (k i : ℕ) (t : S.Total) → keyed k (at i) ≡ some t
        → (d : ℕ) × (d < S.size) × (place_of S k d ≡ i) × ((e : ℕ) → e < d → is_empty (at (place_of S k e)) ≡ false)
    unfolding is_unreachable is_cut_off place_of
    reach k i t f =
        let b = inside k i t f in
        let d = (i + S.size - S.home k) % S.size in
        let s : some_below d (λ e. is_empty (at (place_of S k e))) ≡ false =
        ap (is_cut_off S cells i) (sym (keyed-is-live k (at i) t f)) ∙ reached i b in (
          d,
          mod-lt (i + S.size - S.home k) (omega arith),
          distance_back S.size (S.home k) i (lawful.home_below k) (omega arith),
          λ e m. none_below d _ s e m,
        )

    pub cells-accepted : Accepted S cells
    cells-accepted =
        record {
          long = long;
          distinct = λ k i j t u f g. omega (arith, lowest k i j t u f g, lowest k j i u t g f);
          reached = reach;
        }

-- what holds of the default and of each element holds at every index
everywhere : {A : Type 0} (P : A → Type 0) (d : A) → P d → (xs : List A) → ((i : ℕ) → i < length xs → P (get_or xs i d)) → (i : ℕ) → P (get_or xs i d)
everywhere P d z [] h i = z
everywhere P d z (x ∷ xs) h zero = h 0 (omega arith)
everywhere P d z (x ∷ xs) h (suc i) = everywhere P d z xs (λ j b. h (suc j) (suc-le-suc b)) i

module _ {W : Width} (P : Packing W) (call : Call) (ok : Passed W call) where
  pub start-accepted : Accepted (setting_of W (length call.cells)) (map (decode W) call.cells)
  start-accepted =
      let long = length-map call.cells (decode W) in
      cells-accepted (allowed-lawful W.ceiling (length call.cells) ok.size) (map (decode W) call.cells) long
      (λ i b. ok.distinct i (omega (arith, long)))
      (λ i b. ok.reached i (omega (arith, long)))

  -- the starting cells and the operations can be packed
  pub start-packs : (i : ℕ) → Packs W (get_or (map (decode W) call.cells) i empty)
  start-packs i =
      subst (Packs W) (sym (decoded-at W P.empty-key call.cells i))
      (everywhere (λ w. Packs W (decode W w)) 0 (subst (Packs W) (sym (decode-zero W P.empty-key)) tt) call.cells
      (λ j b. decode-packs P (get_or call.cells j 0) (ok.cells j b))
      i)

  pub operations-packed : (i : ℕ) (o : Operation Total) → get_elem? (map (decode_operation W) call.operations) i ≡ some o → Packed W o.key o.amount
  operations-packed =
      elem-map-all (decode_operation W) (λ (o : Operation Total). Packed W o.key o.amount) call.operations
      (λ i w e.
      let (b, q) = elem-get_d call.operations i 0 e in
      decode-operation-packed P w (subst (λ (v : ℕ). T (W.operation_allowed v)) q (ok.operations i b)))

-- what begins the schedule of an accepted call makes an accepted call: of all conditions only 2 and 6 look at the schedule, and with fewer
-- entries neither is met
pub beginning-accepted : (W : Width) (cells operations schedule : List ℕ) (answers log k : ℕ) → (run_refusal W (call_of cells operations schedule answers log)).number ≡ 0
    → (run_refusal W (call_of cells operations (take k schedule) answers log)).number ≡ 0
unfolding run_refusal run_conditions size_not_allowed too_many too_short bad_cell bad_operation bad_entry repeated_key unreachable_key at_first
beginning-accepted W cells operations schedule answers log k e =
    let ok = accepted-call W (call_of cells operations schedule answers log) e in
    let (size, (many, (slices, (cell, (operation, (entry, table)))))) =
    none-met (run_conditions W (call_of cells operations schedule answers log)) (omega arith) e in
    let few = (neither (ltb most_operations (length operations)) (ltb most_entries (length schedule)) many).0 in
    let short = le-ltb most_entries (length (take k schedule)) (omega (arith, ok.short, length-take k schedule)) in
    let entries : some_below (length (take k schedule)) (λ i. leb (length operations) (get_or (take k schedule) i 0)) ≡ false =
    none-some-below _ _ (λ i b.
    rw (get_or-take k schedule i 0 (omega (arith, length-take k schedule)))
    (none_below (length schedule) _ entry i (omega (arith, length-take k schedule)))) in
    none-accepts (run_conditions W (call_of cells operations (take k schedule) answers log))
    (size, (rw (few, short), (slices, (cell, (operation, (entries, table))))))
