-- How a fact of a machine is kept: an entry is idle or a step of an unfinished row, and a run is its entries.
-- Assumes nothing.
use mathlib.Core.Path.{◌≡◌, refl, sym, ap, ◌∙◌}
use mathlib.Core.Bool.{Bool, true, false, cond, true≢false}
use Prim.Native.Nat.{ℕ, suc, ◌≤◌}
use native.Mathlib.Nat.{le_trans}
use native.Mathlib.Omega.{arith}
use lib.Dec.{eqb}
use mathlib.Core.List.{List, [], ◌∷◌, ◌++◌, foldl}
use mathlib.Core.Option.{Option, none, some}
use lib.ListN.{set, get_elem?}
use Rattle.semantics.specs.Basics.{is_some, occurs, count_of}
use Rattle.semantics.specs.Cells.{Setting, Operation}
use Rattle.semantics.specs.Step.{Turn, passes, holds, loses, finishes, logged, Pending, State, pending, finished, Row, Machine, idled, taken, act_in, act_of, applied, entry}
use Rattle.semantics.specs.Step.{answered, answer_in, finished_in}
use Rattle.semantics.proofs.Lists.{elem-set-same, elem-set-other}
use Rattle.semantics.proofs.Counts.{count-snoc}

module _ (S : Setting) (P : Machine S.Total → Type 0) where
  pub by-entry : (m : Machine S.Total) (i : ℕ) → P (idled m)
      → ((r : Row S.Total) (s : Pending S.Total) → get_elem? m.rows i ≡ some r → r.state ≡ pending s → P (taken S m i r.operation s))
      → P (entry S m i)
  unfolding entry applied act_of act_in
  by-entry m i idle step = named (get_elem? m.rows i) refl
    where
      acts : (r : Row S.Total) → get_elem? m.rows i ≡ some r → (s : State S.Total) → r.state ≡ s → P (applied S m i (act_in r.operation s))
      acts r at (finished a) e = idle
      acts r at (pending s) e = step r s at e

      named : (o : Option (Row S.Total)) → get_elem? m.rows i ≡ o → P (applied S m i (act_of o))
      named none at = idle
      named (some r) at = acts r at r.state refl

  pub by-run : ((m : Machine S.Total) (i : ℕ) → P m → P (entry S m i)) → (m : Machine S.Total) → P m → (schedule : List ℕ)
      → P (foldl (entry S) m schedule)
  by-run kept m h [] = h
  by-run kept m h (i ∷ schedule) = by-run kept (entry S m i) (kept m i h) schedule

-- the log only grows: what it names, it goes on naming
module _ (S : Setting) (j : ℕ) where
  snoc-more : (i : ℕ) (l : List ℕ) → occurs j l ≤ occurs j (l ++ (i ∷ []))
  unfolding occurs
  snoc-more i l = rw (count-snoc (eqb j) l i) (go (eqb j i))
    where
      go : (z : Bool) → count_of (eqb j) l ≤ cond z (suc (count_of (eqb j) l)) (count_of (eqb j) l)
      go true = omega arith
      go false = omega arith

  logged-more : (t : Turn S.Total) (i : ℕ) (l : List ℕ) → occurs j l ≤ occurs j (logged t i l)
  unfolding logged
  logged-more passes i l = omega arith
  logged-more (holds h) i l = omega arith
  logged-more loses i l = omega arith
  logged-more (finishes a) i l = snoc-more i l

  pub log-grows : (m : Machine S.Total) (schedule : List ℕ) → occurs j m.log ≤ occurs j (foldl (entry S) m schedule).log
  unfolding idled taken
  log-grows m schedule = by-run S Grown entry-grows m (omega arith) schedule
    where
      Grown : Machine S.Total → Type 0
      Grown n = occurs j m.log ≤ occurs j n.log

      entry-grows : (n : Machine S.Total) (i : ℕ) → Grown n → Grown (entry S n i)
      entry-grows n i h = by-entry S Grown n i h (λ r s at e. le_trans h (logged-more _ i n.log))

-- which rows have finished, after one is stored anew
module _ {T : Type 0} (rows : List (Row T)) (i : ℕ) (r' : Row T) where
  pub finished-here : {r : Row T} → get_elem? rows i ≡ some r → finished_in (set rows i r') i ≡ is_some (answered r'.state)
  unfolding finished_in answer_in
  finished-here at = rw (elem-set-same rows i r' at)

  pub finished-other : (j : ℕ) → (j ≡ i → ⊥) → finished_in (set rows i r') j ≡ finished_in rows j
  unfolding finished_in
  finished-other j ne = rw (elem-set-other rows i j r' ne)

-- an entry that names a finished row is idle, and one that names an unfinished row is a step of it
module _ (S : Setting) (m : Machine S.Total) (i : ℕ) where
  pub entry-idles : finished_in m.rows i ≡ true → entry S m i ≡ idled m
  unfolding entry applied act_of act_in finished_in answer_in answered is_some
  entry-idles = named (get_elem? m.rows i)
    where
      acts : (o : Operation S.Total) (s : State S.Total) → is_some (answered s) ≡ true → applied S m i (act_in o s) ≡ idled m
      acts o (pending s) h = absurd (true≢false (sym h))
      acts o (finished a) h = refl

      named : (o : Option (Row S.Total)) → is_some (answer_in o) ≡ true → applied S m i (act_of o) ≡ idled m
      named none h = refl
      named (some r) h = acts r.operation r.state h

  pub entry-steps : (r : Row S.Total) → get_elem? m.rows i ≡ some r → finished_in m.rows i ≡ false
      → (s : Pending S.Total) × (r.state ≡ pending s) × (entry S m i ≡ taken S m i r.operation s)
  unfolding entry applied act_of act_in finished_in answer_in answered is_some
  entry-steps r at h = acts r.state refl (sym (ap (λ o. is_some (answer_in o)) at) ∙ h)
    where
      acts : (s : State S.Total) → r.state ≡ s → is_some (answered r.state) ≡ false
          → (p : Pending S.Total) × (r.state ≡ pending p) × (entry S m i ≡ taken S m i r.operation p)
      acts (pending s) e f = (s, e, ap (λ (o : Option (Row S.Total)). applied S m i (act_of o)) at ∙ ap (λ (s : State S.Total). applied S m i (act_in r.operation s)) e)
      acts (finished a) e f = absurd (true≢false (sym (ap (λ s. is_some (answered s)) e) ∙ f))
