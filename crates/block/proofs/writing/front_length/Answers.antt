-- `block::writing::front_length` meets its contract.
-- Assumes nothing.
use native.Mathlib.Omega.{arith}
use Rattle.number.proofs.Written.{at_most_five}
use Rattle.block.proofs.writing.front_length.Goals as goal

pub overflow_add-result-2 : goal.overflow_add-result-2
overflow_add-result-2 c = omega (arith, c.orders_length.ensures.1, c.length-stamp.ensures, at_most_five c.args.slot.0)

pub overflow_add-result-3 : goal.overflow_add-result-3
overflow_add-result-3 c = omega (arith, c.orders_length.ensures.1, c.length-stamp.ensures, at_most_five c.args.slot.0)

pub returns : goal.returns
returns c = (
  omega (arith, c.orders_length.ensures.0, c.length-stamp.ensures),
  omega (arith, c.orders_length.ensures.1, c.length-stamp.ensures, at_most_five c.args.slot.0),
)
