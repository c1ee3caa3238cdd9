-- `block::writing::put_front` meets its contract.
-- Assumes nothing.
use mathlib.Core.Path.{◌≡◌, ap}
use native.Mathlib.Omega.{arith}
use borrow.Author.Rules.{rules}
use lib.ListN.{length}
use Rattle.laws.proofs.Every.{within_true}
use Rattle.laws.proofs.Placed.{wrote_same}
use Rattle.block.specs.Block.{orders_bytes}
use Rattle.block.proofs.Lists.{range_parts, unlisted_few}
use Rattle.block.proofs.Fronts.{room_for_link, room_for_orders, room_for_stamp, room_for_signature, front_wrote}
use Rattle.block.proofs.writing.put_front.Goals as goal

pub put_bytes-at-requires : goal.put_bytes-at-requires
put_bytes-at-requires c = room_for_link c.args.front.now c.requires.1

pub put_orders-at-requires : goal.put_orders-at-requires
put_orders-at-requires c =
    let f = c.args.front.now in
    let (few, ranged, _) = range_parts f.orders f.slot.0 c.requires.0 in
    let whole : length c.args.front.now.orders.list ≡ 8 = search rules in
    rw c.as_slice.ensures (omega (arith, few, unlisted_few f.orders whole few), ranged, room_for_orders f c.requires.1 c.put_bytes-at.ensures)

pub put_number-at-requires : goal.put_number-at-requires
put_number-at-requires c =
    let f = c.args.front.now in
    let listed = wrote_same (ap orders_bytes c.as_slice.ensures) c.put_orders-at.ensures in
    let (_, most) = within_true 1 256 f.slot.0 (range_parts f.orders f.slot.0 c.requires.0).2 in
    (omega arith, room_for_stamp f c.requires.1 c.put_bytes-at.ensures listed)

pub put_bytes-requires : goal.put_bytes-requires
put_bytes-requires c =
    let listed = wrote_same (ap orders_bytes c.as_slice.ensures) c.put_orders-at.ensures in
    room_for_signature c.args.front.now c.requires.1 c.put_bytes-at.ensures listed c.put_number-at.ensures

pub returns : goal.returns
returns c =
    let listed = wrote_same (ap orders_bytes c.as_slice.ensures) c.put_orders-at.ensures in
    front_wrote c.args.front.now c.requires.1 c.put_bytes-at.ensures listed c.put_number-at.ensures c.put_bytes.ensures
