-- `block::writing::put_orders` meets its contract.
-- Assumes nothing.
use mathlib.Core.Path.{◌≡◌, sym, ap}
use mathlib.Core.List.{◌++◌}
use native.Mathlib.Omega.{arith}
use lib.ListN.{length}
use Rattle.laws.specs.Placed.{Room}
use Rattle.laws.proofs.Placed.{room_same, room_then, wrote_same, wrote_then}
use Rattle.number.specs.Number.{written}
use Rattle.block.proofs.Lists.{begun, all_begun, range_at, room_more, wrote_more}
use Rattle.block.proofs.writing.put_orders.Goals as goal

pub put_order-place-requires : goal.put_order-place-requires
put_order-place-requires c =
    let orders = c.args.orders.now in
    let loop = c.loop-order in
    let room : Room c.args.out.now c.args.at (written (length c.args.orders.now) ++ begun c.args.orders.now (length c.args.orders.now)) =
    room_same (all_begun orders) c.requires.2 in (
      range_at orders loop.order-index c.loop-order-test.true c.requires.1,
      room_more orders loop.order-index c.loop-order-test.true
          (room_then (written (length orders)) (begun orders (length orders)) c.put_number-place.ensures room) loop.invariant,
    )

pub loop-order-preserved : goal.loop-order-preserved
loop-order-preserved c = wrote_more c.args.orders.now c.loop-order.order-index c.loop-order-test.true c.loop-order.invariant c.put_order-place.ensures

pub returns : goal.returns
returns c =
    let orders = c.args.orders.now in
    let loop = c.loop-order in
    let over : loop.order-index ≡ length orders = omega arith in
    wrote_same (sym (all_begun orders))
    (wrote_then (written (length orders)) (begun orders (length orders)) c.put_number-place.ensures (wrote_same (ap (begun orders) over) loop.invariant))
