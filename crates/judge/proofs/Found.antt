-- Which condition a search meets first; and what checks in a row say.
-- Assumes nothing.
use Rattle.std.proofs.Common.{◌≡◌, ℕ, zero, suc, length, get_or, ◌<◌, ◌≤◌, Bool, List, [], ◌∷◌, ◌++◌, refl, sym, ap, ◌∙◌, arith}
use Rattle.semantics.specs.declared.Refusal.{Refusal}
use Rattle.semantics.specs.Basics.{first_below}
use Rattle.semantics.specs.Refusals.{Condition, at_first, first_met}
use Rattle.semantics.proofs.Searches.{Searching, search-starts, search-goes-on, search-finds, search-ends}
use Rattle.semantics.proofs.Conditions.{met_at, met-nowhere, met-none, met-early, met-late, none-met, Positive}
use Rattle.semantics.specs.Words.{Width}
use Rattle.judge.specs.Judged.{number_of, place_of, keys_of}
use Rattle.judge.specs.declared.Reason.{Reason}
use Rattle.judge.specs.declared.Reason.TheVariants.{Size, TooMany, TooShort, Cell, Row, Entry, Repeated, CutOff}

pub found : (number n : ℕ) (test : ℕ → Bool) (i : ℕ) → i ≡ first_below n test → i < n
    → record { number = number; place = i } ≡ first_met (at_first number n test ∷ [])
found number n test i e b = sym (met_at number n test [] i e b)

pub missed : (number n : ℕ) (test : ℕ → Bool) (i : ℕ) → i ≡ first_below n test → n ≤ i
    → record { number = 0; place = 0 } ≡ first_met (at_first number n test ∷ [])
missed number n test i e b = sym (met-nowhere number n test [] i e b ∙ met-none)

pub some-number : (r : Reason) → number_of r ≡ 0 → ⊥
some-number Size e = omega arith
some-number TooMany e = omega arith
some-number TooShort e = omega arith
some-number (Cell i) e = omega arith
some-number (Row i) e = omega arith
some-number (Entry i) e = omega arith
some-number (Repeated i) e = omega arith
some-number (CutOff i) e = omega arith

-- a check that turns a call away decides whatever follows it, and one that lets it pass leaves that to the rest
pub stops : (r : Reason) (cs ds : List Condition) → record { number = number_of r; place = place_of r } ≡ first_met cs
    → record { number = number_of r; place = place_of r } ≡ first_met (cs ++ ds)
stops r cs ds e = e ∙ sym (met-early cs ds (λ z. some-number r (ap (λ (q : Refusal). q.number) e ∙ z)))

pub goes : (cs ds : List Condition) → Positive cs → record { number = 0; place = 0 } ≡ first_met cs → first_met (cs ++ ds) ≡ first_met ds
goes cs ds p e = met-late cs ds (none-met cs p (sym (ap (λ (q : Refusal). q.number) e)))

-- the keys of some words
pub keys-long : {A : Type 0} (W : Width) (number : A → ℕ) (cells : List A) → length (keys_of W number cells) ≡ length cells
keys-long W number [] = refl
keys-long W number (w ∷ cells) = ap suc (keys-long W number cells)

pub key-at : {A : Type 0} (W : Width) (number : A → ℕ) (cells : List A) (i : ℕ) {x : A} → x ≡ get_or cells i x → i < length cells
    → W.key_of (number x) ≡ get_or (keys_of W number cells) i 0
key-at W number [] i is h = absurd (omega arith)
key-at W number (y ∷ cells) zero is h = ap (λ w. W.key_of (number w)) is
key-at W number (y ∷ cells) (suc i) is h = key-at W number cells i is (omega arith)

pub ruleset searching = (search-starts, search-goes-on, search-finds, search-ends, found, missed)
