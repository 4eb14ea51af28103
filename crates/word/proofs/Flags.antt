-- A total of thirty-two bits below its flag: `|` adds the two, and they take thirty-three bits.
-- Assumes nothing.
use mathlib.Core.Path.{◌≡◌}
use Prim.Native.Nat.{ℕ, ◌+◌, ◌*◌, ◌%◌, ◌^◌, ◌<◌}
use mathlib.Core.Bool.{Bool, true, false, cond}
use native.Mathlib.Omega.{arith}
use lib.Bits.{bit_or}
use lib.Dec.{lit≤}
use mir.Val.{bool_byte}
use Rattle.word.proofs.Packed.{packed}

joined : (flag : Bool) (amount : ℕ) → amount < 2 ^ 32 → bit_or (bool_byte flag * 2 ^ 32 % 2 ^ 64) amount ≡ cond flag (2 ^ 32) 0 + amount
joined true amount small = packed 1 32 64 {a = 1} (omega arith) small (lit≤ tt)
joined false amount small = packed 1 32 64 {a = 0} (omega arith) small (lit≤ tt)

fits : (flag : Bool) (amount : ℕ) → amount < 2 ^ 32 → cond flag (2 ^ 32) 0 + amount < 2 ^ 33
fits true amount small = omega arith
fits false amount small = omega arith

pub flagged : (flag : Bool) (amount : ℕ) → amount < 2 ^ 32
    → (bit_or (bool_byte flag * 2 ^ 32 % 2 ^ 64) amount ≡ cond flag (2 ^ 32) 0 + amount) × (bit_or (bool_byte flag * 2 ^ 32 % 2 ^ 64) amount < 2 ^ 33)
flagged flag amount small = (joined flag amount small, rw (joined flag amount small) (fits flag amount small))
