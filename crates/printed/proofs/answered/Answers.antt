-- `printed::answered` meets its contract: the chain begins within the input, or where it ends.
-- Assumes nothing.
use mathlib.Core.Path.{sym}
use Rattle.number.proofs.Groups.{number_ends}
use Rattle.printed.proofs.answered.Goals as goal

pub slice_bounds-stated-count : goal.slice_bounds-stated-count
slice_bounds-stated-count c = (number_ends c.args.input.now c.in_ok-genesis.at _ (sym c.in-Ok.ensures)).inside

pub slice_bounds-stated-start : goal.slice_bounds-stated-start
slice_bounds-stated-start c = (number_ends c.args.input.now c.in_ok-genesis.at _ (sym c.in-Ok.ensures)).inside
