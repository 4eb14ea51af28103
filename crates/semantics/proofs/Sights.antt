-- What an operation of key k sees in a cell, and what it then knows of it.
-- Assumes nothing.
use mathlib.Core.Path.{◌≡◌, refl, subst}
use Prim.Native.Nat.{ℕ}
use mathlib.Core.Bool.{Bool, true, false, cond}
use mathlib.Core.Option.{none, some}
use lib.Dec.{eqb}
use Rattle.semantics.specs.Cells.{Cell, empty, tombstone, live, keyed, is_empty}
use Rattle.semantics.specs.Step.{Sight, own, free, other, sight}
use Rattle.semantics.proofs.Table.{keyed-is-live}

-- what an operation of key k sees in a cell, and what it then knows of the cell
pub data Seen {T : Type 0} (k : ℕ) (x : Cell T) : Sight T → Type 0 where
  seen-own : {t : T} → keyed k x ≡ some t → Seen k x (own t)
  seen-free : is_empty x ≡ true → keyed k x ≡ none → Seen k x free
  seen_other : is_empty x ≡ false → keyed k x ≡ none → Seen k x other

pub seen : {T : Type 0} (k : ℕ) (x : Cell T) → Seen k x (sight k x)
unfolding sight keyed is_empty
seen k empty = seen-free refl refl
seen k tombstone = seen_other refl refl
seen {T} k (live j t) = go (eqb k j) refl
  where
    go : (z : Bool) → eqb k j ≡ z → Seen k (live j t) (cond z (own t) other)
    go true e = seen-own {t = t} (rw e)
    go false e = seen_other refl (rw e)

-- where it sees its own key, the cell is that key's
pub own-cell : {T : Type 0} (k : ℕ) (x : Cell T) (t : T) → sight k x ≡ own t → x ≡ live k t
own-cell {T} k x t e = go (subst (Seen k x) e (seen k x))
  where
    go : Seen k x (own t) → x ≡ live k t
    go (seen-own q) = keyed-is-live k x t q
