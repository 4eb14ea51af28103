use Rattle.std.proofs.Common.{◌≡◌, take}
use Rattle.semantics.specs.Run.{over}
use Rattle.word.proofs.bytes.copy.Given as goal

abbrev pub invariant-loop-i : goal.invariant-loop-i
invariant-loop-i l = l.to ≡ over (take l.i l.fn.from) l.fn.to
