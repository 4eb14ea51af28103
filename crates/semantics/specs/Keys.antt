-- An aid, not to be believed: refusals 7 and 8 as tests on the keys of the cells alone, which is what the code's searches look at.
-- proofs/Keys.antt shows that they are the conditions of Refusals.antt, at any width.
-- Assumes nothing.
use Rattle.std.specs.Prelude.{ℕ, ◌+◌, ◌-◌, ◌%◌, Bool, ◌&&◌, List, eqb, length, get_or}
use Rattle.semantics.specs.Basics.{some_below}
use Rattle.semantics.specs.Words.{is_live_key, home_in}

-- 7: whether key i is live and also stands lower
unfoldable pub is_repeated_key : List ℕ → ℕ → Bool
is_repeated_key keys i = is_live_key (get_or keys i 0) && some_below i (λ j. eqb (get_or keys j 0) (get_or keys i 0))

-- 8: whether key i is live with key 0, that of an empty cell, before it, counting from its home
unfoldable pub is_unreachable_key : List ℕ → ℕ → Bool
is_unreachable_key keys i =
    let c = length keys in
    let home = home_in c (get_or keys i 0) in
    is_live_key (get_or keys i 0) && some_below ((i + c - home) % c) (λ d. eqb (get_or keys ((home + d) % c) 0) 0)
