-- `block::writing::order_length` meets its contract.
-- Assumes nothing.
use mathlib.Core.Path.{◌≡◌}
use Prim.Native.Nat.{◌+◌}
use native.Mathlib.Omega.{arith}
use lib.ListN.{length}
use Rattle.number.proofs.Written.{at_most_five}
use Rattle.block.specs.Block.{order_bytes}
use Rattle.block.proofs.Lists.{order_size, order_most}
use Rattle.block.proofs.writing.order_length.Goals as goal

pub overflow_add-releases : goal.overflow_add-releases
overflow_add-releases c = let o = c.args.order in omega (arith, c.length.ensures, c.length-2.ensures, at_most_five o.expected, at_most_five o.new)

pub overflow_add-result : goal.overflow_add-result
overflow_add-result c =
    let sizes : c.length-3.result + (c.length.result + c.length-2.result) ≡ length (order_bytes c.args.order) = (omega (
      arith,
      c.length.ensures,
      c.length-2.ensures,
      c.length-3.ensures,
      order_size c.args.order,
    )) in
    omega (arith, sizes, order_most c.args.order)

pub returns : goal.returns
returns c =
    let sizes : c.length-3.result + (c.length.result + c.length-2.result) ≡ length (order_bytes c.args.order) = (omega (
      arith,
      c.length.ensures,
      c.length-2.ensures,
      c.length-3.ensures,
      order_size c.args.order,
    )) in
    (sizes, omega (arith, sizes, order_most c.args.order))
