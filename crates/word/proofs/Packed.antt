-- Two fields in one word: `|` adds the lower field to the upper one, shifted past it.
-- Assumes nothing.
use mathlib.Core.Path.{◌≡◌}
use Prim.Native.Nat.{ℕ, ◌+◌, ◌*◌, ◌%◌, ◌^◌, ◌≤◌, ◌<◌}
use lib.Bits.{bit_or, or_shifted}
use lib.Pow.{shl_exact}

-- a of j bits above b of k bits, in a word of w
pub packed : (j k w : ℕ) {a b : ℕ} → a < 2 ^ j → b < 2 ^ k → j + k ≤ w → bit_or (a * 2 ^ k % 2 ^ w) b ≡ a * 2 ^ k + b
packed j k w {a} {b} ha hb fits = rw (shl_exact j k w ha fits) (or_shifted a k b hb)
