-- Must be believed: what `report` promises rests on it.
-- Texts as bytes: what document 01, "A run in full", writes is made of these; and how a text is handed to a caller.
-- Assumes nothing.
use Rattle.std.specs.Prelude.{ℕ, zero, suc, ◌+◌, ◌/◌, ◌%◌, cond, List, [], ◌∷◌, ◌++◌, ltb, leb, length}
use Prim.Native.Char.{code}
use Prim.Native.String.{String, [] as no_text, ◌∷◌ as ◌followed_by◌}
use Rattle.semantics.specs.declared.Written.{Written}
use Rattle.semantics.specs.Run.{over}

-- a quoted text, a byte for each character
unfoldable pub text : String → List ℕ
text no_text = []
text (c followed_by more) = code c ∷ text more

-- a number in decimal, with at most k digits
unfoldable pub decimal_in : ℕ → ℕ → List ℕ
decimal_in zero n = []
decimal_in (suc k) n = cond (ltb n 10) ((48 + n) ∷ []) (decimal_in k (n / 10) ++ ((48 + n % 10) ∷ []))

-- no number of the model has more than 20 digits
unfoldable pub decimal : ℕ → List ℕ
decimal n = decimal_in 20 n

-- the texts of 0 to n - 1, one after another
unfoldable pub texts_below : ℕ → (ℕ → List ℕ) → List ℕ
texts_below zero f = []
texts_below (suc n) f = texts_below n f ++ f n

-- no text of a run or of a refusal is longer (proofs/Lengths.antt)
abbrev pub most_text : ℕ
most_text = 98304

-- what a call that writes bytes leaves: how many it wrote or why it was turned away, and the lent slice
pub record Handed : Type 0 where
  pub written : Written
  pub out : List ℕ

-- a text is written whole, over the front of the slice, or not at all: 3 at 0 for a slice that is too short
unfoldable pub handed : List ℕ → List ℕ → Handed
handed bytes out =
    cond (leb (length bytes) (length out)) (record { written = record { number = 0; place = 0; length = length bytes }; out = over bytes out })
    (record { written = record { number = 3; place = 0; length = 0 }; out = out })
