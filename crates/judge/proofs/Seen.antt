-- The keys seen so far: a set of 65,536 places in 1,024 words, and what it holds before each turn of the search for a repeated key.
-- Assumes nothing.
use mathlib.Core.Path.{◌≡◌, refl, sym, ap, ◌∙◌}
use Prim.Native.Nat.{ℕ, zero, suc, ◌+◌, ◌/◌, ◌%◌, ◌<◌}
use mathlib.Core.Bool.{Bool, true, false, ◌||◌, or_comm, or-false, true≢false}
use mathlib.Core.List.{List}
use native.Mathlib.Numerals.{add-one}
use native.Mathlib.Decide.{ℕ_discrete}
use native.Mathlib.Omega.{arith}
use lib.Dec.{eqb}
use lib.ListN.{length, get_or, set, replicate, length-replicate, length-set}
use lib.Seq.{get_or-set_same, get_or-set_other}
use borrow.Author.Tests.{eq-eqb, ne_eqb}
use Rattle.semantics.specs.Basics.{first_below, some_below}
use Rattle.semantics.specs.Sets.{is_in, including}
use Rattle.semantics.specs.Words.{is_live_key}
use Rattle.semantics.specs.Keys.{is_repeated_key}
use Rattle.semantics.proofs.Booleans.{true-T}
use Rattle.semantics.proofs.Words.{live-bounds}
use Rattle.semantics.proofs.Searches.{none-some-below, some_more, Searching, search-starts, search-goes-on, search-finds}
use Rattle.bitset.proofs.Sets.{in-none, in-including, same-including}

-- whether key k is in the set, and the set with it
abbrev has_key : List ℕ → ℕ → Bool
has_key seen k = is_in (get_or seen (k / 64) 0) (k % 64)

abbrev with_key : List ℕ → ℕ → List ℕ
with_key seen k = set seen (k / 64) (including (get_or seen (k / 64) 0) (k % 64))

has-with : (seen : List ℕ) (k j : ℕ) → k / 64 < length seen → has_key (with_key seen k) j ≡ (eqb k j || has_key seen j)
has-with seen k j b = elim (ℕ_discrete (j / 64) (k / 64)) [ yes q ↦ same q | no q ↦ other q ]
  where
    w : ℕ
    w = including (get_or seen (k / 64) 0) (k % 64)

    alike : j / 64 ≡ k / 64 → eqb (k % 64) (j % 64) ≡ eqb k j
    alike q = elim (ℕ_discrete k j) [
      | yes r ↦ eq-eqb (k % 64) (j % 64) (omega arith) ∙ sym (eq-eqb k j r)
      | no r ↦ ne_eqb (k % 64) (j % 64) (λ e. r (omega arith)) ∙ sym (ne_eqb k j r)
    ]

    same : j / 64 ≡ k / 64 → has_key (with_key seen k) j ≡ (eqb k j || has_key seen j)
    same q = rw (q, get_or-set_same seen (k / 64) w 0 b, in-including (get_or seen (k / 64) 0) (k % 64) (omega arith) (j % 64), alike q)

    other : (j / 64 ≡ k / 64 → ⊥) → has_key (with_key seen k) j ≡ (eqb k j || has_key seen j)
    other q = rw (get_or-set_other seen (k / 64) (j / 64) w 0 q, ne_eqb k j (λ e. q (omega arith)))

zeros : (n i : ℕ) → get_or {A = ℕ} (replicate n 0) i 0 ≡ 0
zeros zero i = refl
zeros (suc n) zero = refl
zeros (suc n) (suc i) = zeros n i

-- the search has come to cell i, and the live keys in the set are those of the cells before it
pub record Seen (keys : List ℕ) (i : ℕ) (seen : List ℕ) : Type 0 where
  pub search : Searching (length keys) (is_repeated_key keys) i
  pub long : length seen ≡ 1024
  pub holds : (k : ℕ) → is_live_key k ≡ true → has_key seen k ≡ some_below i (λ j. eqb (get_or keys j 0) k)

pub seen_none : (keys : List ℕ) → Seen keys 0 (replicate 1024 0)
seen_none keys =
    record {
      search = search-starts;
      long = length-replicate {A = ℕ} 1024 0;
      holds = λ k l. ap (λ (w : ℕ). is_in w (k % 64)) (zeros 1024 (k / 64)) ∙ in-none (k % 64) ∙ sym (none-some-below 0 _ (λ j b. absurd (omega arith)));
    }

-- a turn, at a cell i of key k
module _ {keys seen : List ℕ} {i k : ℕ} (s : Seen keys i seen) (is : k ≡ get_or keys i 0) where
  says : is_live_key k ≡ true → is_repeated_key keys i ≡ has_key seen k
  unfolding is_repeated_key
  says l = rw (← is, l) (sym (s.holds k l))

  more : (j : ℕ) → some_below (i + 1) (λ n. eqb (get_or keys n 0) j) ≡ (some_below i (λ n. eqb (get_or keys n 0) j) || eqb k j)
  more j = rw (add-one i, is, some_more i (λ n. eqb (get_or keys n 0) j))

  pub seen-found : is_live_key k ≡ true → has_key seen k ≡ true → i ≡ first_below (length keys) (is_repeated_key keys)
  seen-found l h = search-finds s.search (says l ∙ h)

  pub seen-passed : i < length keys → is_live_key k ≡ false → (next : List ℕ) → next ≡ seen → Seen keys (i + 1) next
  unfolding is_repeated_key
  seen-passed b d next e =
      record {
        search = search-goes-on s.search b (rw (← is, d));
        long = ap length e ∙ s.long;
        holds = λ j l.
            let other : eqb k j ≡ false = ne_eqb k j (λ q. true≢false (sym l ∙ sym (ap is_live_key q) ∙ d)) in
            rw e (s.holds j l ∙ sym (more j ∙ rw (other, or-false)));
      }

  pub seen_more : i < length keys → is_live_key k ≡ true → has_key seen k ≡ false → (next : List ℕ) → next ≡ with_key seen k → Seen keys (i + 1) next
  seen_more b l h next e =
      record {
        search = search-goes-on s.search b (says l ∙ h);
        long = ap length e ∙ length-set seen _ _ ∙ s.long;
        holds = λ j m.
            rw e (has-with seen k j (omega (arith, live-bounds k (true-T _ l), s.long))
            ∙ or_comm (eqb k j) (has_key seen j)
            ∙ rw (s.holds j m) (sym (more j)));
      }

pub same_place : (before k : ℕ) → eqb (including before (k % 64)) before ≡ is_in before (k % 64)
same_place before k = same-including before (k % 64) (omega arith)
