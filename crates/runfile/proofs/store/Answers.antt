use Rattle.std.proofs.Common.{arith}
use Rattle.runfile.proofs.Stores.{stores-cell, stores-entries}
use Rattle.runfile.proofs.store.Goals as goal

pub returns-in-Cell : goal.returns-in-Cell
returns-in-Cell g c =
    stores-cell g.W.Word.number g.W.Word.width c.args.position c.args.cells.now c.args.operations.now c.args.schedule.now c.requires c.in-Cell.is c.pack_cell.ensures.roomy

pub returns-in-Schedule : goal.returns-in-Schedule
returns-in-Schedule g c =
    stores-entries g.W.Word.number g.W.Word.width c.args.position c.args.cells.now c.args.operations.now c.args.schedule.now c.requires _ c.in-Schedule.is (c.copy.ensures.same (omega arith))
