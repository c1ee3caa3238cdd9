-- `block::writing::put_order` meets its contract.
-- Assumes nothing.
use mathlib.Core.List.{◌++◌}
use Rattle.number.specs.Number.{written}
use Rattle.laws.proofs.Placed.{wrote_then}
use Rattle.block.proofs.writing.put_order.Goals as goal

pub returns : goal.returns
returns c =
    let o = c.args.order in
    wrote_then (written o.display) (written o.expected ++ written o.new) c.put_number-at.ensures
    (wrote_then (written o.expected) (written o.new) c.put_number-at-2.ensures c.put_number.ensures)
