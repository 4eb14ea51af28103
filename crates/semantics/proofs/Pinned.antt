-- What document 02, "A6", is for: "A pinned total may not be typed over." A room that begins pinned and that no operation removes is pinned after any
-- number of entries, whatever the schedule; at any width.
-- Assumes nothing.
use mathlib.Core.Path.{◌≡◌, refl, sym, ap, ◌∙◌}
use Prim.Native.Nat.{ℕ, ◌+◌}
use mathlib.Core.Bool.{Bool, true, false, cond, ◌||◌, ◌&&◌, true≢false}
use mathlib.Core.List.{List, [], ◌∷◌, foldl}
use mathlib.Core.Option.{Option, none, some}
use lib.Dec.{eqb, leb}
use lib.ListN.{length, get_elem?}
use borrow.Author.Tests.{eqb-true}
use Rattle.semantics.specs.declared.Total.{Total}
use Rattle.semantics.specs.Totals.{held_at, plus_at}
use Rattle.semantics.specs.Cells.{Setting, Kind, find, insert, update, add, remove, Operation, lookup}
use Rattle.semantics.specs.Map.{Map, Replay, with_pair, unchanged, replaced, updated, map_of, stored, perform, performed, noted, replay_one, replay}
use Rattle.semantics.specs.Words.{Width, setting_of}
use Rattle.semantics.specs.Run.{run_result}
use Rattle.semantics.specs.Demands.{log_of, cells_of, operations_of, replay_of, after_entries}
use Rattle.semantics.proofs.Words.{Packing}
use Rattle.semantics.proofs.DemandsHold.{demands}

-- whether a room has a saturated total
unfoldable pub is_pinned : Option Total → Bool
is_pinned none = false
is_pinned (some t) = t.saturated

-- whether an operation removes room k
unfoldable pub is_remove : Kind → Bool
is_remove find = false
is_remove insert = false
is_remove update = false
is_remove add = false
is_remove remove = true

unfoldable pub removes : ℕ → Operation Total → Bool
removes k o = is_remove o.kind && eqb k o.key

module _ (W : Width) (c k : ℕ) where
  abbrev S : Setting
  S = setting_of W c

  abbrev stays : Map Total → Type 0
  stays m = is_pinned (m.pairs k) ≡ true

  sum-pinned : (t u : Total) → t.saturated ≡ true → (plus_at W.ceiling t u).saturated ≡ true
  unfolding plus_at held_at
  sum-pinned t u e = ap (λ (z : Bool). z || u.saturated || leb W.ceiling (t.amount + u.amount)) e

  -- a pair that is put in: of room k it has to be pinned
  put : (key : ℕ) (u : Option Total) (pairs : ℕ → Option Total) → is_pinned (pairs k) ≡ true → (eqb k key ≡ true → is_pinned u ≡ true)
      → is_pinned (with_pair key u pairs k) ≡ true
  unfolding with_pair
  put key u pairs h f = go (eqb k key) refl
    where
      go : (z : Bool) → eqb k key ≡ z → is_pinned (cond z u (pairs k)) ≡ true
      go true q = f q
      go false q = h

  -- one operation of the map, on a pair z of its key
  module _ (key : ℕ) (a : Total) (m : Map Total) (h : stays m) where
    own : (z : Option Total) → m.pairs key ≡ z → eqb k key ≡ true → is_pinned z ≡ true
    own z e q = ap is_pinned (sym (ap m.pairs (eqb-true k key q) ∙ e)) ∙ h

    made : m.pairs key ≡ none → stays (stored S key a m).after
    unfolding stored unchanged is_pinned
    made e = go (eqb m.used c) refl
      where
        go : (z : Bool) → eqb m.used c ≡ z → stays (stored S key a m).after
        go true full = rw full h
        go false room = rw room (put key (some a) m.pairs h (λ q. absurd (true≢false (sym (own none e q)))))

    tidied : (t : Total) → m.pairs key ≡ some t → (z : Bool) → t.saturated ≡ z → stays (updated key a m t z).after
    unfolding updated unchanged replaced is_pinned
    tidied t e true s = h
    tidied t e false s = put key (some a) m.pairs h (λ q. absurd (true≢false (sym (own (some t) e q) ∙ s)))

    performs : (kind : Kind) (z : Option Total) → m.pairs key ≡ z → is_remove kind && eqb k key ≡ false → stays (perform S kind key a m z).after
    unfolding perform unchanged replaced is_remove is_pinned
    performs find none e n = h
    performs find (some t) e n = h
    performs insert none e n = made e
    performs insert (some t) e n = h
    performs update none e n = h
    performs update (some t) e n = tidied t e t.saturated refl
    performs add none e n = made e
    performs add (some t) e n = put key (some (plus_at W.ceiling t a)) m.pairs h (λ q. sum-pinned t a (own (some t) e q))
    performs remove none e n = h
    performs remove (some t) e n = put key none m.pairs h (λ q. absurd (true≢false (sym q ∙ n)))

  replays : (ops : List (Operation Total)) → ((i : ℕ) (o : Operation Total) → get_elem? ops i ≡ some o → removes k o ≡ false)
      → (log : List ℕ) (r : Replay Total) → stays r.now → stays (foldl (λ r i. replay_one S r (get_elem? ops i)) r log).now
  unfolding replay_one noted performed removes
  replays ops n [] r h = h
  replays ops n (i ∷ log) r h = go (get_elem? ops i) refl (replays ops n log)
    where
      go : (x : Option (Operation Total)) → get_elem? ops i ≡ x
          → ((r : Replay Total) → stays r.now → stays (foldl (λ r i. replay_one S r (get_elem? ops i)) r log).now)
          → stays (foldl (λ r i. replay_one S r (get_elem? ops i)) (replay_one S r x) log).now
      go none e rest = rest r h
      go (some o) e rest = rest (replay_one S r (some o)) (performs o.key o.amount r.now h o.kind (r.now.pairs o.key) refl (n i o e))

-- of every call that is not turned away, and of the result of any number of its entries
pub stays-pinned : {W : Width} (P : Packing W) (cells operations schedule answers log : List ℕ)
    → (run_result W cells operations schedule answers log).outcome.number ≡ 0
    → (k : ℕ) → ((i : ℕ) (o : Operation Total) → get_elem? (operations_of W operations) i ≡ some o → removes k o ≡ false)
    → is_pinned (lookup k (cells_of W cells)) ≡ true
    → (n : ℕ) → is_pinned (lookup k (cells_of W (after_entries W cells operations schedule answers log n).cells)) ≡ true
unfolding replay_of replay map_of
stays-pinned {W} P cells operations schedule answers log ok k none-removes h n =
    ap is_pinned ((((demands P cells operations schedule answers log).accepted ok).linearizable n).pairs k)
    ∙ replays W (length cells) k (operations_of W operations) none-removes (log_of (after_entries W cells operations schedule answers log n))
    (record { now = map_of (cells_of W cells); answers = [] }) h
