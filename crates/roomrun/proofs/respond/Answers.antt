-- A text that is not refused was handed over whole.
-- Assumes nothing.
use Rattle.std.proofs.Common.{◌≡◌, ℕ, Bool, true, false, cond, List, length, sym, ap, ◌∙◌, arith}
use lib.Dec.{leb}
use Rattle.semantics.specs.Run.{over}
use Rattle.semantics.specs.Text.{Handed, handed}
use Rattle.semantics.specs.Response.{is_wide}
use Rattle.semantics.proofs.Widths.{most-wide}
use Rattle.roomrun.proofs.respond.Goals as goal

-- what is handed over of a text that fits, and of one that does not
abbrev over-front : List ℕ → List ℕ → Handed
over-front bytes out = record { written = record { number = 0; place = 0; length = length bytes }; out = over bytes out }

abbrev turned-away : List ℕ → Handed
turned-away out = record { written = record { number = 3; place = 0; length = 0 }; out = out }

whole : (bytes out : List ℕ) {h : Handed} → handed bytes out ≡ h → h.written.number ≡ 0 → (h.written.length ≡ length bytes) × (h.out ≡ over bytes out)
unfolding handed
whole bytes out {h} = go (leb (length bytes) (length out))
  where
    go : (fits : Bool) → cond fits (over-front bytes out) (turned-away out) ≡ h → h.written.number ≡ 0 → (h.written.length ≡ length bytes) × (h.out ≡ over bytes out)
    go true e none = (sym (ap (λ (x : Handed). x.written.length) e), sym (ap (λ (x : Handed). x.out) e))
    go false e none = absurd (let three : 3 ≡ 0 = ap (λ (x : Handed). x.written.number) e ∙ none in omega (arith, three))

pub returns-clause-whole : goal.returns-clause-whole
returns-clause-whole c =
    whole _ _ c.report-written.ensures.result (c.report-written.ensures.suffices (omega (arith, c.requires, most-wide (is_wide c.args.file.now))))
