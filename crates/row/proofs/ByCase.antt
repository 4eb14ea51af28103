-- The step rules case by case: the rule of each number of a kind, the sum of two totals below and at the ceiling, and what a read and a swap come
-- to by what the code looks at.
-- Assumes nothing.
use mathlib.Core.Path.{◌≡◌, refl, sym, ap}
use Prim.Native.Nat.{ℕ, suc, ◌+◌, ◌%◌, ◌≤◌, ◌<◌}
use mathlib.Core.Bool.{Bool, true, false, cond, ◌||◌, not-eq-not, or-true, or-false}
use native.Mathlib.Decide.{ℕ_discrete}
use native.Mathlib.Omega.{arith}
use lib.Dec.{eqb, ltb, ltb→lt}
use borrow.Author.Tests.{le-leb, lt-leb, eq-eqb, ne_eqb, lt-ltb}
use Rattle.std.specs.Prelude.{Some, None}
use Rattle.semantics.specs.declared.Total.{Total}
use Rattle.semantics.specs.Totals.{held_at, plus_at, caps_at, same_total}
use Rattle.semantics.specs.Cells.{Setting, code_of, total_of}
use Rattle.semantics.specs.declared.values.Cell.{Cell}
use Rattle.semantics.specs.declared.values.Cell.TheVariants.{Empty as empty, Tombstone as tombstone, Live as live}
use Rattle.semantics.specs.declared.values.Operation.{Operation}
use Rattle.semantics.specs.declared.values.Answer.{Answer}
use Rattle.semantics.specs.declared.values.Answer.TheVariants.{Found as found, Present as present, Changed as changed, Removed as removed, Capped as capped, Retained as retained, Inserted as inserted, Absent as absent, Full as full}
use Rattle.semantics.specs.declared.values.Fate.{Fate}
use Rattle.semantics.specs.declared.values.Fate.TheVariants.{Stays as stays, Ends as ends, Becomes as becomes}
use Rattle.semantics.specs.declared.values.Sight.{Sight}
use Rattle.semantics.specs.declared.values.Sight.TheVariants.{Own as own, Free as free, Other as other}
use Rattle.semantics.specs.declared.values.Held.TheVariants.{Vacant as vacant}
use Rattle.semantics.specs.declared.values.Turn.{Turn}
use Rattle.semantics.specs.declared.values.Turn.TheVariants.{Passes as passes, Holds as holds, Finishes as finishes}
use Rattle.semantics.specs.Step.{makes, updating, effect, sight, read, exhausted, bounded, same_cell, fate_cell, new_cell, swap_answer, swapped}
use Rattle.semantics.specs.Words.{setting_at, is_kind, kind_of, is_live_key, cell_from, carried}
use Rattle.semantics.specs.Rules.{effect_of}
use Rattle.semantics.proofs.Booleans.{both, true-T}

-- the code of an answer is a number of eight bits, with a row for each answer
pub code-small : (a : Answer Total) → code_of a % 256 ≡ code_of a
unfolding code_of
code-small (found t) = refl
code-small (present t) = refl
code-small (changed t) = refl
code-small (removed t) = refl
code-small (capped t) = refl
code-small (retained t) = refl
code-small inserted = refl
code-small absent = refl
code-small full = refl

-- the sum of two totals, below the ceiling and from it on
module _ (ceiling : ℕ) (a b : Total) where
  pub plus-below : a.amount + b.amount < ceiling → record { amount = a.amount + b.amount; saturated = a.saturated || b.saturated } ≡ plus_at ceiling a b
  unfolding plus_at held_at
  plus-below l = rw (lt-leb ceiling (a.amount + b.amount) l, or-false) (ap (λ (n : ℕ). record { amount = n; saturated = a.saturated || b.saturated }) (omega arith))

  pub plus-reaches : ceiling ≤ a.amount + b.amount → record { amount = ceiling; saturated = true } ≡ plus_at ceiling a b
  unfolding plus_at held_at
  plus-reaches l = rw (le-leb ceiling (a.amount + b.amount) l, or-true) (ap (λ (n : ℕ). record { amount = n; saturated = true }) (omega arith))

-- any other number than 1 to 5 is refused
pub no_kind : (n : ℕ) → (n ≡ 1 → ⊥) → (n ≡ 2 → ⊥) → (n ≡ 3 → ⊥) → (n ≡ 4 → ⊥) → (n ≡ 5 → ⊥) → is_kind n ≡ false
unfolding is_kind
no_kind n a b d e f = not-eq-not.0 (λ h.
    let (low, high) = both (ltb 0 n) (ltb n 6) (true-T _ h) in
    omega (arith, ltb→lt 0 n low, ltb→lt n 6 high))

-- The rule of a number, where the operation's key k has total t: whether its kind makes a missing key, what becomes of the total and what is
-- answered; the answer's code, with the total that was there; and the cell that is left.
module _ (ceiling c k : ℕ) (t amount : Total) where
  abbrev S : Setting
  S = setting_at ceiling c

  abbrev Says : ℕ → Bool → Fate Total → Answer Total → ℕ → Cell Total → Type 0
  Says n making fate answer code cell =
      (makes (kind_of n) ≡ making)
      × (effect_of S n t amount ≡ Some (record { fate = fate; answer = answer }))
      × (code_of answer ≡ code)
      × (carried (total_of answer) ≡ t)
      × (fate_cell S k t fate ≡ cell)

  -- what an add answers in parts, by whether it is capped
  pub add_parts : (z : Bool) → (code_of (cond z (capped t) (changed t)) ≡ cond z 8 4) × (carried (total_of (cond z (capped t) (changed t))) ≡ t)
  unfolding code_of total_of carried
  add_parts true = (refl, refl)
  add_parts false = (refl, refl)

  -- an add is capped or changed, and its total becomes the sum either way
  pub add-says : (z : Bool) → caps_at ceiling t amount ≡ z
      → Says 4 true (becomes (plus_at ceiling t amount)) (cond z (capped t) (changed t)) (cond z 8 4) (live k (plus_at ceiling t amount))
  unfolding effect_of is_kind kind_of makes effect caps_at fate_cell code_of total_of carried
  add-says true e = (refl, rw e, refl, refl, refl)
  add-says false e = (refl, rw e, refl, refl, refl)

  -- find, insert, update by whether the total is saturated, add by whether it caps, remove; and any other number
  pub rule-kinds : Says 1 false stays (found t) 1 (live k t)
      × Says 2 true stays (present t) 3 (live k t)
      × (t.saturated ≡ true → Says 3 false stays (retained t) 9 (live k t))
      × (t.saturated ≡ false → Says 3 false (becomes amount) (changed t) 4 (live k amount))
      × (caps_at ceiling t amount ≡ true → Says 4 true (becomes (plus_at ceiling t amount)) (capped t) 8 (live k (plus_at ceiling t amount)))
      × (caps_at ceiling t amount ≡ false → Says 4 true (becomes (plus_at ceiling t amount)) (changed t) 4 (live k (plus_at ceiling t amount)))
      × Says 5 false ends (removed t) 5 tombstone
      × ((n : ℕ) → is_kind n ≡ false → effect_of S n t amount ≡ None)
  unfolding effect_of is_kind kind_of makes effect updating fate_cell code_of total_of carried
  rule-kinds = (
    (refl, refl, refl, refl, refl),
    (refl, refl, refl, refl, refl),
    λ e. (refl, rw e, refl, refl, refl),
    λ e. (refl, rw e, refl, refl, refl),
    add-says true,
    add-says false,
    (refl, refl, refl, refl, refl),
    λ n e. rw e,
  )

-- what an operation of key k sees in a cell of key j with total t
module _ (k j : ℕ) (t : Total) where
  pub seen-free : j ≡ 0 → sight k (cell_from j t) ≡ free
  unfolding sight cell_from is_live_key
  seen-free z = rw z

  pub seen-own : (j ≡ 0 → ⊥) → j < 65536 → j ≡ k → (k ≡ 65535 → ⊥) → sight k (cell_from j t) ≡ own t
  unfolding sight cell_from is_live_key
  seen-own n small e m = rw (lt-ltb 0 j (omega arith), lt-ltb j 65535 (omega arith), eq-eqb k j (sym e))

  -- another key or a tombstone
  pub seen-tombstone : j ≡ 65535 → sight k (cell_from j t) ≡ other
  unfolding sight cell_from is_live_key
  seen-tombstone e = rw e

  pub seen_other : (j ≡ 0 → ⊥) → (j ≡ k → ⊥) → sight k (cell_from j t) ≡ other
  unfolding sight cell_from
  seen_other n m = go (is_live_key j)
    where
      go : (z : Bool) → sight k (cond z (live j t) (cond (eqb j 0) empty tombstone)) ≡ other
      go true = rw (ne_eqb k j (λ e. m (sym e)))
      go false = rw (ne_eqb j 0 n)

-- whether a cell equals the held word: the empty word by the key alone, a key with a total by what is seen
unfoldable pub same_seen : Total → Sight Total → Bool
same_seen t (own u) = same_total u t
same_seen t free = false
same_seen t other = false

module _ (ceiling c : ℕ) where
  abbrev T : Setting
  T = setting_at ceiling c

  pub same-empty : (j : ℕ) (t : Total) → same_cell T (cell_from j t) empty ≡ eqb j 0
  unfolding same_cell cell_from is_live_key
  same-empty j t = elim (ℕ_discrete j 0) [
    | yes e ↦ rw e
    | no n ↦ rw (ne_eqb j 0 n) (go (is_live_key j))
  ]
    where
      go : (z : Bool) → same_cell T (cond z (live j t) tombstone) empty ≡ false
      go true = refl
      go false = refl

  pub same-own : (k : ℕ) (t : Total) (x : Cell Total) → same_cell T x (live k t) ≡ same_seen t (sight k x)
  unfolding same_cell sight same_seen
  same-own k t empty = refl
  same-own k t tombstone = refl
  same-own k t (live j u) = elim (ℕ_discrete k j) [
    | yes e ↦ rw (eq-eqb k j e, eq-eqb j k (sym e))
    | no n ↦ rw (ne_eqb k j n, ne_eqb j k (λ e. n (sym e)))
  ]

  module _ (o : Operation Total) where
    -- an empty cell: find, update and remove finish absent; insert and add hold the empty word
    pub turn-free : (p : ℕ) → cond (makes o.kind) (holds vacant) (finishes absent) ≡ bounded T o.kind p (read T o free)
    unfolding read bounded
    turn-free p = go (makes o.kind) refl
      where
        go : (m : Bool) → makes o.kind ≡ m → cond m (holds vacant) (finishes absent) ≡ bounded T o.kind p (read T o free)
        go true q = rw q
        go false q = rw q

    abbrev finishing : Answer Total → Turn Total
    finishing a = finishes a

    -- another key or a tombstone: once c cells are passed, insert and add finish full and the others finish absent; else one more is passed
    pub turn_last : (p : ℕ) → eqb (suc p) c ≡ true → cond (makes o.kind) (finishes full) (finishes absent) ≡ bounded T o.kind p (read T o other)
    unfolding read bounded exhausted
    turn_last p last = rw last (go (makes o.kind))
      where
        go : (m : Bool) → cond m (finishing full) (finishing absent) ≡ finishing (cond m full absent)
        go true = refl
        go false = refl

    pub turn_on : (p : ℕ) → eqb (suc p) c ≡ false → passes ≡ bounded T o.kind p (read T o other)
    unfolding read bounded
    turn_on p more = rw more

    -- a won swap of the empty word
    pub won-empty : (x : Cell Total) → record { cell = live o.key o.amount; turn = finishes inserted } ≡ swapped T o vacant x true
    unfolding swapped new_cell swap_answer
    won-empty x = refl
