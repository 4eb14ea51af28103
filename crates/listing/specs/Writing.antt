-- Must be believed of the promises of the writer and of put_refusal alone: what `report` promises rests on `handed` of semantics/specs/Text.antt.
-- Bytes written into a slice of any length, from any position on.
-- Assumes nothing.
use Rattle.std.specs.Prelude.{ℕ, ◌+◌, min, List, [], ◌∷◌, set}
use Rattle.listing.specs.declared.writer.Writer.{Writer}

-- the largest position that is counted: no slice is as long
abbrev pub last_position : ℕ
last_position = 18446744073709551615

-- a slice, and the position of the byte that follows
pub record Writing : Type 0 where
  pub at : ℕ
  pub out : List ℕ

-- A byte past the end is stored nowhere and is counted all the same, so that the position says how long the text is.
unfoldable pub put : Writing → ℕ → Writing
put w b = record { at = min (w.at + 1) last_position; out = set w.out w.at b }

unfoldable pub written : Writing → List ℕ → Writing
written w [] = w
written w (b ∷ more) = written (put w b) more

-- a writer that wrote these bytes: it still has the slice that it was lent
abbrev pub kept : Writer → Writing → Writer
kept w u = record { out = record { ref_ptr = w.out.ref_ptr; ghost_name = w.out.ghost_name; now = u.out }; at = u.at }

unfoldable pub wrote : Writer → List ℕ → Writer
wrote w bytes = kept w (written (record { at = w.at; out = w.out.now }) bytes)
