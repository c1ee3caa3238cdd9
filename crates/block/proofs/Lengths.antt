-- How long a block gets.
-- Assumes nothing.
use mathlib.Core.Path.{◌≡◌}
use mathlib.Core.List.{List, [], ◌∷◌, ◌++◌}
use Prim.Native.Nat.{◌+◌, ◌*◌, ◌≤◌}
use native.Mathlib.Omega.{arith}
use lib.ListN.{length, length-append}
use Rattle.laws.specs.Bytes.{joined}
use Rattle.laws.specs.Format.{Each}
use Rattle.laws.proofs.Every.{within_true}
use Rattle.number.specs.Number.{written}
use Rattle.number.proofs.Written.{at_most_five, shortest, at_least_one, two_groups}
use Rattle.order.specs.Order.{last_display}
use Rattle.order.specs.declared.Order.{Order}
use Rattle.order.proofs.Validity.{range_parts}
use Rattle.block.specs.Block.{Parts, order_bytes, orders_bytes, front_bytes, block_bytes, OrderFits, Fits}
use Rattle.block.proofs.Lists.{order_size}

order_bytes_law : (o : Order) → OrderFits o → (3 ≤ length (order_bytes o)) × (length (order_bytes o) ≤ 11)
order_bytes_law o fits =
    let (low, high) = within_true 0 last_display o.display (range_parts o fits).0 in
    let size = order_size o in
    let display = shortest o.display (omega arith) in (
      omega (arith, size, display, at_least_one o.expected, at_least_one o.new),
      omega (arith, size, display, at_most_five o.expected, at_most_five o.new),
    )

orders_most : (l : List Order) → Each OrderFits l → length (joined order_bytes l) ≤ length l * 11
orders_most [] each = omega arith
orders_most (o ∷ rest) (fits, each) =
    let (low, high) = order_bytes_law o fits in
    let more = orders_most rest each in
    omega (arith, length-append (order_bytes o) (joined order_bytes rest))

pub block_length_law : (p : Parts) → Fits p → (162 ≤ length (block_bytes p)) × (length (block_bytes p) ≤ 251)
unfolding front_bytes block_bytes
block_length_law p fits =
    let front = front_bytes p.link p.orders p.slot p.slot_signature in
    let (none, few) = within_true 0 8 (length p.orders) fits.count in
    let (from, to) = within_true 1 256 p.slot fits.slot in
    let count = shortest (length p.orders) (omega arith) in
    let orders = orders_most p.orders fits.orders in
    let stamp = two_groups p.slot (omega arith) in
    let whole : length (block_bytes p) ≡ 32 + (1 + length (joined order_bytes p.orders)) + length (written p.slot) + 128 =
    omega (
      arith,
      count,
      fits.link_size,
      fits.slot_signature_size,
      fits.block_signature_size,
      length-append front p.block_signature,
      length-append p.link (orders_bytes p.orders ++ (written p.slot ++ p.slot_signature)),
      length-append (orders_bytes p.orders) (written p.slot ++ p.slot_signature),
      length-append (written (length p.orders)) (joined order_bytes p.orders),
      length-append (written p.slot) p.slot_signature,
    )
    in
    (omega (arith, whole, at_least_one p.slot), omega (arith, whole, stamp, orders))
