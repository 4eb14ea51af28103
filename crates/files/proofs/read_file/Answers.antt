-- What is read is the front of what the reader had.
-- Assumes nothing.
use Rattle.std.proofs.Common.{◌≡◌, ℕ, ◌+◌, ◌≤◌, List, ◌++◌, rules, length, take, drop, sym, ap, ◌∙◌, subst, le_refl, drop_at, length-take-le}
use Rattle.std.proofs.lemmas.Slice.{take-put_mid_below}
use Rattle.std.specs.Io.KnownBytes.{Consumes}
use Rattle.std.proofs.KnownBytes.{Consumes-trans}
use borrow.Rule.Slice.PartMut.{put_mid, post_of}
use lib.Seq.{take-add, take-append-le}
use Rattle.files.proofs.read_file.Goals as goal

-- a read into the slice from a on, of which n bytes came
read-on : (a k n : ℕ) (file came : List ℕ) → a ≤ length file → n ≤ length came → take a file ++ take n came ≡ take (a + n) (put_mid a k file came)
read-on a k n file came within fits =
    let new = put_mid a k file came in
    let after = post_of a k file in
    ap (λ l. take a file ++ l) (sym (ap (take n) (drop_at (take a file) (came ++ after) a (length-take-le a file within)) ∙ take-append-le n came after fits))
    ∙ ap (λ l. l ++ take n (drop a new)) (sym (take-put_mid_below a k file came a (le_refl a) within))
    ∙ sym (take-add a n new)

pub loop-done-preserved : goal.loop-done-preserved
loop-done-preserved g c =
    let read = c.in-Ok.ensures in
    (search rules, search rules, subst (Consumes _ _) (read-on _ _ _ _ _ c.loop-done.invariant.1 read.bound.0) (Consumes-trans _ _ _ _ _ c.loop-done.invariant.2 read.bytes.0))
