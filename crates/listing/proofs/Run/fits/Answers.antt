use Rattle.std.proofs.Common.{arith, sym, ◌∙◌}
use Rattle.listing.proofs.Writing.{measured}
use Rattle.listing.proofs.Listed.{any_fits}
use Rattle.listing.proofs.Run.fits.Goals as goal

pub returns-then-are_keys : goal.returns-then-are_keys
returns-then-are_keys g c =
    let W = g.W.Word in
    let run = c.args.self.now in
    any_fits W.flagged W.number run.outcome run.operations.now _ run.log.now run.cells.now g.met.W.Word.of_flag g.met.W.Word.packing.empty-key
    (omega (arith, c.if-most_text-room.true, c.most_text.ensures)) c.if-self-le-MOST_OPERATIONS.true c.if-self-le-MOST_OPERATIONS-2.true c.if-self-le-MOST_CELLS.true
    (sym c.are_keys.ensures ∙ c.if-are_keys.true)

pub returns : goal.returns
returns g c = measured _ _ _ c.requires c.put.ensures
