-- What is written is the response to all that was there to be read, though no more than the front of it was read: as far as the longest file
-- has bytes, and one byte more.
-- Assumes nothing.
use mathlib.Core.Path.{◌≡◌, refl, sym, ap, subst, ◌∙◌}
use Prim.Native.Nat.{ℕ, ◌<◌}
use mathlib.Core.Bool.{Bool, true, false}
use mathlib.Core.List.{List}
use native.Mathlib.Omega.{arith}
use lib.Dec.{leb}
use lib.ListN.{length, take, drop}
use lib.Seq.{take_all, take_at}
use Rattle.std.proofs.Common.{Option, Some, None, IfSome, length-take-le}
use Rattle.std.specs.Io.KnownBytes.{Appends}
use borrow.Author.Tests.{leb-true, leb-false, lt-ltb}
use Rattle.semantics.specs.Refusals.{first_met}
use Rattle.semantics.specs.RunFile.{longest_file, file_conditions, file_too_long, reader_refusal, slice_too_short}
use Rattle.semantics.specs.Run.{over}
use Rattle.semantics.specs.Listing.{refusal_text}
use Rattle.semantics.specs.Response.{response_in, is_wide, response}

too_long_in : (wide : Bool) (file : List ℕ) → longest_file < length file → response_in wide file ≡ refusal_text 12 0
unfolding response_in reader_refusal file_conditions file_too_long first_met slice_too_short
too_long_in wide file more = rw (lt-ltb longest_file (length file) more) refl

too_long : (file : List ℕ) → longest_file < length file → response file ≡ refusal_text 12 0
unfolding response
too_long file more = too_long_in (is_wide file) file more

pub front-tells : (file : List ℕ) → response (take 65536 file) ≡ response file
front-tells file = go (leb (length file) 65536) refl
  where
    go : (z : Bool) → leb (length file) 65536 ≡ z → response (take 65536 file) ≡ response file
    go true e = ap response (take_all 65536 file (leb-true (length file) 65536 e))
    go false e =
        let more : 65536 < length file = leb-false (length file) 65536 e in
        too_long (take 65536 file) (omega (arith, length-take-le 65536 file (omega (arith, more)))) ∙ sym (too_long file (omega (arith, more)))

-- what is written of the text is the response
pub written : (file room : List ℕ) {text : List ℕ} {n : ℕ} → (n ≡ length (response file)) × (text ≡ over (response file) room) → take n text ≡ response file
unfolding over
written file room (e, f) = (λ i. take (e i) (f i)) ∙ take_at (response file) (drop (length (response file)) room) (length (response file)) refl

-- the bytes that were read where no read failed, and what the writer holds then
pub answered : (remaining before after : Option (List ℕ)) (read : List ℕ) {text : List ℕ} → text ≡ response read → IfSome remaining (λ file. read ≡ take 65536 file)
    → Appends before after text → IfSome remaining (λ file. Appends before after (response file))
answered None before after read same is appends = tt
answered (Some file) before after read same is appends = subst (Appends before after) (same ∙ ap response is ∙ front-tells file) appends
