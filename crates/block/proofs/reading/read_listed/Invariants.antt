-- `block::reading::read_listed` meets its contract.
-- Assumes nothing.
use mathlib.Core.Path.{◌≡◌}
use lib.ListN.{length}
use Rattle.laws.proofs.Repeated.{Into}
use Rattle.block.specs.Block.{order_at}
use Rattle.block.proofs.reading.read_listed.Given as goal

abbrev pub invariant-loop-order : goal.invariant-loop-order
invariant-loop-order l = (length l.order-items ≡ l.count) × Into order_at l.s l.at l.count l.order-items l.order-index l.place
