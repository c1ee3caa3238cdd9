-- `block::writing::orders_length` meets its contract.
-- Assumes nothing.
use native.Mathlib.Omega.{arith}
use mathlib.Core.Path.{ap}
use lib.ListN.{length, length-append}
use Rattle.number.specs.Number.{written}
use Rattle.number.proofs.Written.{at_most_five}
use Rattle.block.proofs.Lists.{begun, begun_size, all_begun}
use Rattle.block.proofs.writing.orders_length.Goals as goal

pub loop-order-init : goal.loop-order-init
loop-order-init c = (omega (arith, c.length-size.ensures), omega (arith, c.length-size.ensures, at_most_five (length c.args.orders.now)))

pub loop-order-preserved : goal.loop-order-preserved
loop-order-preserved c =
    let loop = c.loop-order in
    let one = c.order_length-size.ensures in
    (omega (arith, loop.invariant.0, one.0, begun_size c.args.orders.now loop.order-index c.loop-order-test.true), omega (arith, loop.invariant.1, one.1))

pub returns : goal.returns
returns c =
    let orders = c.args.orders.now in
    let loop = c.loop-order in
    let whole = ap (begun orders) {x = loop.order-index} {y = length orders} (omega arith) in (
      omega (arith, loop.invariant.0, ap length whole, ap length (all_begun orders), length-append (written (length orders)) (begun orders (length orders))),
      omega (arith, loop.invariant.1, c.requires),
    )
