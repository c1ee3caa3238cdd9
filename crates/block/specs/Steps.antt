-- What is read of a block on the way. No caller of the public calls needs these, but for `body_at`.
-- Assumes nothing.
use Rattle.std.specs.Prelude.{ℕ, ◌+◌, List, leb, length}
use Rattle.laws.specs.Told.{Told, gives, Found, found, found_as, then, unless}
use Rattle.laws.specs.Bytes.{bytes_at}
use Rattle.order.specs.declared.Order.{Order}
use Rattle.block.specs.Block.{number_in, orders_at, block_at}
use Rattle.block.specs.Answers.{listed}
use Rattle.block.specs.declared.Body.{Body}
use Rattle.block.specs.declared.Block.{Block}

-- the orders and the slot of a block
abbrev pub body_at : List ℕ → ℕ → Told (Found (List Order × ℕ))
body_at s at = then (block_at s at) λ b. found (b.value.orders, b.value.slot) b.next

-- a block, and what judging needs of one, put together from what is read as the code holds it
abbrev pub block_held : List ℕ → ℕ → Told (Found Block)
block_held s at =
    then (bytes_at 32 s at) λ link. then (found_as listed (orders_at s link.next)) λ orders. then (number_in 1 256 s orders.next) λ slot.
    then (bytes_at 64 s slot.next) λ first. then (bytes_at 64 s first.next) λ second.
    found
    (record {
      front = record { link = link.value; orders = orders.value; slot = record { 0 = slot.value }; slot_signature = first.value };
      block_signature = second.value;
    })
    second.next

-- the place after so many bytes
abbrev pub skipped : ℕ → List ℕ → ℕ → Told ℕ
skipped size s at = unless (leb (at + size) (length s)) 3 0 (gives (at + size))

abbrev pub body_held : List ℕ → ℕ → Told (Found Body)
body_held s at =
    then (skipped 32 s at) λ link. then (found_as listed (orders_at s link)) λ orders. then (number_in 1 256 s orders.next) λ slot.
    then (skipped 64 s slot.next) λ first. then (skipped 64 s first) λ second.
    found (record { orders = orders.value; slot = record { 0 = slot.value } }) second
