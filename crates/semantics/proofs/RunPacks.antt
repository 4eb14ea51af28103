-- Every cell that a run leaves can be packed, where the starting cells and the operations can, and so can what an unfinished operation holds,
-- which has passed fewer than c cells, and what a finished one has answered.
-- Assumes nothing.
use mathlib.Core.Path.{◌≡◌, refl, sym, subst, ◌∙◌}
use Prim.Native.Nat.{ℕ, suc, ◌<◌}
use mathlib.Core.Bool.{Bool, true, false, cond}
use mathlib.Core.List.{List}
use mathlib.Core.Option.{some}
use native.Mathlib.Omega.{arith}
use lib.Dec.{T, eqb}
use lib.ListN.{length, get_or, get_elem?, length-set}
use borrow.Author.Tests.{eqb-false}
use Rattle.semantics.specs.declared.Total.{Total}
use Rattle.semantics.specs.Totals.{caps}
use Rattle.semantics.specs.Cells.{Setting, Cell, empty, Kind, find, insert, update, add, remove, Operation, Answer, absent, full, changed, capped, total_of}
use Rattle.semantics.specs.Step.{Pending, reading, holding, State, pending, finished, Row, Machine, idled}
use Rattle.semantics.specs.Step.{Sight, own, free, other, sight, Fate, stays, ends, becomes, holds, Held, vacant, mine, finishes, passes, fresh, after}
use Rattle.semantics.specs.Step.{makes, updating, effect, read_own, read, exhausted, bounded}
use Rattle.semantics.specs.Step.{held_cell, same_cell, swap_answer, swapped, step, passed, place_of, taken, entry, fresh_row, begin, run}
use Rattle.semantics.specs.Words.{Width, carried, setting_of}
use Rattle.semantics.proofs.Lists.{elem-set-all, elem-map-all, set-everywhere}
use Rattle.semantics.proofs.Booleans.{true-T, same-cell-sound}
use Rattle.semantics.proofs.Entries.{by-entry, by-run}
use Rattle.semantics.proofs.Totals.{same-total-sound}
use Rattle.semantics.proofs.Sights.{own-cell}
use Rattle.semantics.proofs.Words.{Packed, Packs, Packing, new-packs}

-- where an operation of key k stands in c cells: while it is unfinished, fewer than c cells are passed, and what it holds can be packed; then
-- the total that it answers is one of the width's
abbrev pub Stands : Width → ℕ → ℕ → State Total → Type 0
Stands W c k (pending (reading p)) = p < c
Stands W c k (pending (holding p h)) = (p < c) × Packs W (held_cell (setting_of W c) k h)
Stands W c k (finished a) = T (W.is_total (carried (total_of a)))

abbrev RowPacked : Width → Row Total → Type 0
RowPacked W r = Packed W r.operation.key r.operation.amount

-- what holds of every machine that a run comes to
pub record AllPack (W : Width) (c : ℕ) (m : Machine Total) : Type 0 where
  pub long : length m.cells ≡ c
  pub cells : (i : ℕ) → Packs W (get_or m.cells i empty)
  pub rows : (i : ℕ) (r : Row Total) → get_elem? m.rows i ≡ some r → RowPacked W r × Stands W c r.operation.key r.state

module _ {W : Width} (P : Packing W) (c : ℕ) where
  abbrev S : Setting
  S = setting_of W c

  step-packs : (o : Operation Total) (s : Pending Total) (x : Cell Total) → Packed W o.key o.amount → Packs W x → Packs W (step S o s x).cell
  unfolding step swapped
  step-packs o (reading p) x q h = h
  step-packs o (holding p w) x q h = go (same_cell S x held) refl
    where
      held : Cell Total
      held = held_cell S o.key w

      go : (z : Bool) → same_cell S x held ≡ z → Packs W (swapped S o w x z).cell
      go true e = new-packs P c o w q (subst (Packs W) (same-cell-sound S same-total-sound x held (true-T (same_cell S x held) e)) h)
      go false e = h

  -- an answer carries the total that its operation found, or none
  effect-carries : (kind : Kind) (t u : Total) → carried (total_of (effect S kind t u).answer) ≡ t
  unfolding updating effect carried total_of
  effect-carries find t u = refl
  effect-carries insert t u = refl
  effect-carries update t u = go (S.saturated t)
    where
      go : (z : Bool) → carried (total_of (updating t u z).answer) ≡ t
      go true = refl
      go false = refl
  effect-carries add t u = go (caps (S.saturated t) (S.saturated (S.plus t u)))
    where
      go : (z : Bool) → carried (total_of (cond z (capped t) (changed t))) ≡ t
      go true = refl
      go false = refl
  effect-carries remove t u = refl

  exhausted-total : (k : Kind) → T (W.is_total (carried (total_of (exhausted S k))))
  unfolding exhausted carried total_of
  exhausted-total k = go (makes k)
    where
      go : (z : Bool) → T (W.is_total (carried (total_of {T = Total} (cond z full absent))))
      go true = P.nothing-total
      go false = P.nothing-total

  -- a read leaves an operation standing, whatever it sees
  read-stands : (o : Operation Total) (p : ℕ) (v : Sight Total) → p < c → ((t : Total) → v ≡ own t → Packed W o.key t)
      → Stands W c o.key (after p (bounded S o.kind p (read S o v)))
  unfolding read bounded after held_cell read_own carried total_of
  read-stands o p (own t) b h =
      go (effect S o.kind t o.amount).answer (effect S o.kind t o.amount).fate
      (subst (λ u. T (W.is_total u)) (sym (effect-carries o.kind t o.amount)) (h t refl).is-total)
    where
      go : (a : Answer Total) (f : Fate Total) → T (W.is_total (carried (total_of a)))
          → Stands W c o.key (after p (bounded S o.kind p (read_own S t a f)))
      go a stays fits = fits
      go a ends fits = (b, h t refl)
      go a (becomes u) fits = (b, h t refl)
  read-stands o p free b h = go (makes o.kind)
    where
      go : (z : Bool) → Stands W c o.key (after p (bounded S o.kind p (cond z (holds vacant) (finishes absent))))
      go true = (b, tt)
      go false = P.nothing-total
  read-stands o p other b h = go (eqb (suc p) c) refl
    where
      go : (z : Bool) → eqb (suc p) c ≡ z → Stands W c o.key (after p (cond z (finishes (exhausted S o.kind)) passes))
      go true e = exhausted-total o.kind
      go false e = omega (arith, eqb-false (suc p) c e)

  swap-total : (o : Operation Total) (h : Held Total) → Packs W (held_cell S o.key h) → T (W.is_total (carried (total_of (swap_answer S o h))))
  unfolding swap_answer held_cell carried total_of
  swap-total o vacant q = P.nothing-total
  swap-total o (mine t) q = subst (λ u. T (W.is_total u)) (sym (effect-carries o.kind t o.amount)) q.is-total

  step-stands : (o : Operation Total) (s : Pending Total) (x : Cell Total) → Stands W c o.key (pending s) → Packs W x
      → Stands W c o.key (after (passed S s) (step S o s x).turn)
  unfolding step swapped passed after
  step-stands o (reading p) x b h = read-stands o p (sight o.key x) b (λ t e. subst (Packs W) (own-cell o.key x t e) h)
  step-stands o (holding p w) x b h = go (same_cell S x (held_cell S o.key w))
    where
      go : (z : Bool) → Stands W c o.key (after p (swapped S o w x z).turn)
      go true = swap-total o w b.1
      go false = b.0

  entry-packs : (m : Machine Total) (i : ℕ) → AllPack W c m → AllPack W c (entry S m i)
  unfolding idled taken
  entry-packs m i h = by-entry S (AllPack W c) m i (record { long = h.long; cells = h.cells; rows = h.rows }) steps
    where
      steps : (r : Row Total) (s : Pending Total) → get_elem? m.rows i ≡ some r → r.state ≡ pending s → AllPack W c (taken S m i r.operation s)
      steps r s at e =
          record {
            long = length-set m.cells place _ ∙ h.long;
            cells = set-everywhere (Packs W) empty m.cells place _ (step-packs r.operation s x (h.rows i r at).0 (h.cells place)) h.cells;
            rows = elem-set-all (λ r. RowPacked W r × Stands W c r.operation.key r.state) m.rows i _
                ((h.rows i r at).0, step-stands r.operation s x (subst (Stands W c r.operation.key) e (h.rows i r at).1) (h.cells place)) h.rows;
          }
        where
          place : ℕ
          place = place_of S r.operation.key (passed S s)

          x : Cell Total
          x = get_or m.cells place empty

  pub run-packs : (start : List (Cell Total)) (ops : List (Operation Total)) → 0 < c → length start ≡ c → ((i : ℕ) → Packs W (get_or start i empty))
      → ((i : ℕ) (o : Operation Total) → get_elem? ops i ≡ some o → Packed W o.key o.amount)
      → (schedule : List ℕ) → AllPack W c (run S start ops schedule)
  unfolding run begin fresh_row fresh
  run-packs start ops size long cells operations schedule =
      by-run S (AllPack W c) entry-packs (begin S start ops)
      (record {
        long = long;
        cells = cells;
        rows = elem-map-all (fresh_row S) (λ r. RowPacked W r × Stands W c r.operation.key r.state) ops (λ i o e. (operations i o e, size));
      })
      schedule
