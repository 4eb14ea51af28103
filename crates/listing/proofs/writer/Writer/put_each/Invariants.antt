use Rattle.std.proofs.Common.{◌≡◌, take}
use Rattle.listing.specs.Writing.{wrote}
use Rattle.listing.proofs.writer.Writer.put_each.Given as goal

abbrev pub invariant-loop-byte : goal.invariant-loop-byte
invariant-loop-byte l = wrote l.initial.writer (take l.byte-index l.bytes) ≡ l.writer
