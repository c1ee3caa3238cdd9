-- `block::writing::put_orders` meets its contract.
-- Assumes nothing.
use lib.ListN.{take}
use Rattle.laws.specs.Bytes.{joined}
use Rattle.laws.specs.Placed.{Wrote}
use Rattle.block.specs.Block.{order_bytes}
use Rattle.block.proofs.writing.put_orders.Given as goal

abbrev pub invariant-loop-order : goal.invariant-loop-order
invariant-loop-order l = Wrote l.initial.out l.initial.place (joined order_bytes (take l.order-index l.orders)) l.place l.out
