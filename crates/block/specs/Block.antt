-- 01, "Orders, blocks, chains": "A block is: 32 bytes of link, the number of orders (0 to 8), the orders (three numbers each), the slot (1 to 256),
-- 64 bytes of slot signature, 64 bytes of block signature."
-- Assumes nothing.
use Rattle.std.specs.Prelude.{ℕ, ◌≡◌, true, List, ◌++◌, length}
use Rattle.laws.specs.Told.{Told, gives, Found, found, then, unless}
use Rattle.laws.specs.Every.{within}
use Rattle.laws.specs.Bytes.{bytes_at, joined}
use Rattle.laws.specs.Repeated.{repeated}
use Rattle.laws.specs.Format.{Bytes, Each}
use Rattle.number.specs.Number.{written, number_at}
use Rattle.order.specs.Order.{last_display, order_in_range}
use Rattle.order.specs.declared.Order.{Order}

pub record Parts : Type 0 where
  pub link : List ℕ
  pub orders : List Order
  pub slot : ℕ
  pub slot_signature : List ℕ
  pub block_signature : List ℕ

-- a number that is judged at once: 3 and 4 as it is read, 5 out of its range
abbrev pub number_in : ℕ → ℕ → List ℕ → ℕ → Told (Found ℕ)
number_in least most s at = then (number_at s at) λ v. unless (within least most v.value) 5 0 (gives v)

abbrev pub order_at : List ℕ → ℕ → Told (Found Order)
order_at s at =
    then (number_in 0 last_display s at) λ display. then (number_at s display.next) λ expected. then (number_at s expected.next) λ new.
    found (record { display = display.value; expected = expected.value; new = new.value }) new.next

abbrev pub orders_at : List ℕ → ℕ → Told (Found (List Order))
orders_at s at = then (number_in 0 8 s at) λ count. repeated order_at count.value s count.next

-- the block at a place: "3, 4, 5 in byte order"
unfoldable pub block_at : List ℕ → ℕ → Told (Found Parts)
block_at s at =
    then (bytes_at 32 s at) λ link. then (orders_at s link.next) λ orders. then (number_in 1 256 s orders.next) λ slot.
    then (bytes_at 64 s slot.next) λ first. then (bytes_at 64 s first.next) λ second.
    found
    (record {
      link = link.value;
      orders = orders.value;
      slot = slot.value;
      slot_signature = first.value;
      block_signature = second.value;
    })
    second.next

-- the same bytes, written
abbrev pub order_bytes : Order → List ℕ
order_bytes o = written o.display ++ (written o.expected ++ written o.new)

abbrev pub orders_bytes : List Order → List ℕ
orders_bytes orders = written (length orders) ++ joined order_bytes orders

-- a block without its last 64 bytes: draft, block text and append share it
unfoldable pub front_bytes : (link : List ℕ) (orders : List Order) (slot : ℕ) (slot_signature : List ℕ) → List ℕ
front_bytes link orders slot slot_signature = link ++ (orders_bytes orders ++ (written slot ++ slot_signature))

unfoldable pub block_bytes : Parts → List ℕ
block_bytes p = front_bytes p.link p.orders p.slot p.slot_signature ++ p.block_signature

-- parts that are a block's
abbrev pub OrderFits : Order → Type 0
OrderFits o = order_in_range o ≡ true

pub record Fits (p : Parts) : Type 0 where
  pub link_size : length p.link ≡ 32
  pub link_bytes : Bytes p.link
  pub count : within 0 8 (length p.orders) ≡ true
  pub orders : Each OrderFits p.orders
  pub slot : within 1 256 p.slot ≡ true
  pub slot_signature_size : length p.slot_signature ≡ 64
  pub slot_signature_bytes : Bytes p.slot_signature
  pub block_signature_size : length p.block_signature ≡ 64
  pub block_signature_bytes : Bytes p.block_signature
