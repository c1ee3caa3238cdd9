-- `block::writing::orders_length` meets its contract.
-- Assumes nothing.
use mathlib.Core.Path.{◌≡◌}
use Prim.Native.Nat.{◌+◌, ◌*◌, ◌≤◌}
use lib.ListN.{length, take}
use Rattle.laws.specs.Bytes.{joined}
use Rattle.number.specs.Number.{written}
use Rattle.block.specs.Block.{order_bytes}
use Rattle.block.proofs.writing.orders_length.Given as goal

abbrev pub invariant-loop-order : goal.invariant-loop-order
invariant-loop-order l =
    (l.size ≡ length (written (length l.orders)) + length (joined order_bytes (take l.order-index l.orders))) × (l.size ≤ 5 + l.order-index * 15)
