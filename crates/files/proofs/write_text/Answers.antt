-- What was written is the front of the text.
-- Assumes nothing.
use Rattle.std.proofs.Common.{◌≡◌, ℕ, ◌+◌, ◌-◌, List, ◌++◌, rules, length, take, drop, sym, ap, ◌∙◌, subst}
use Rattle.std.proofs.lemmas.List.{take_rest}
use Rattle.std.specs.Io.KnownBytes.{Appends}
use Rattle.std.proofs.KnownBytes.{Appends-nil, Appends-trans}
use lib.Seq.{take-add}
use Rattle.files.proofs.write_text.Goals as goal

-- a write of the text from a on, of which n bytes were taken
write-on : (a n : ℕ) (text : List ℕ) → take a text ++ take n (take (length text - a) (drop a text)) ≡ take (a + n) text
write-on a n text = ap (λ l. take a text ++ take n l) (take_rest text a) ∙ sym (take-add a n text)

pub loop-taken-init : goal.loop-taken-init
loop-taken-init g c = (search rules, Appends-nil _)

pub loop-taken-preserved : goal.loop-taken-preserved
loop-taken-preserved g c =
    (search rules, subst (Appends _ _) (write-on c.loop-taken.taken c.in-Ok.n c.args.text.now) (Appends-trans _ _ _ _ _ c.loop-taken.invariant.1 c.in-Ok.ensures.bytes))
