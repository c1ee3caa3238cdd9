-- Blocks are written and read inversely.
-- Assumes nothing.
use mathlib.Core.Path.{◌≡◌, refl, ap, fun_ext}
use mathlib.Core.Bool.{true}
use mathlib.Core.List.{List, ◌++◌, append_assoc}
use Prim.Native.Nat.{ℕ, ◌≤◌}
use lib.ListN.{length}
use Rattle.laws.specs.Told.{Told, Found, found, then}
use Rattle.laws.specs.Every.{within}
use Rattle.laws.specs.Bytes.{bytes_at}
use Rattle.laws.specs.Repeated.{repeated}
use Rattle.laws.specs.Format.{Bytes, Each, Inverse}
use native.Mathlib.Omega.{arith}
use lib.Dec.{lit≤}
use Rattle.laws.proofs.Every.{within_true}
use Rattle.laws.proofs.Told.{then_assoc, then_same}
use Rattle.laws.proofs.Formats.{fixed_bytes, tested, sequence, several, revalid, rewritten, reread}
use Rattle.number.specs.Number.{largest, written, number_at}
use Rattle.number.proofs.RoundTrip.{number_inverse}
use Rattle.order.specs.declared.Order.{Order}
use Rattle.order.proofs.Validity.{range_parts, in_its_range}
use Rattle.block.specs.Block.{Parts, number_in, order_at, orders_at, block_at, order_bytes, orders_bytes, front_bytes, block_bytes, OrderFits, Fits}

-- a number in its range
number_in_law : (least most : ℕ) → Inverse (λ v. (v ≤ largest) × (within least most v ≡ true)) written (number_in least most)
number_in_law least most = tested number_inverse (within least most) 5

-- ---- an order: three numbers
abbrev two_at : List ℕ → ℕ → Told (Found (ℕ × ℕ))
two_at s at = then (number_at s at) λ a. then (number_at s a.next) λ b. found (a.value, b.value) b.next

two_numbers_law : Inverse (λ (e : ℕ × ℕ). (e.0 ≤ largest) × (e.1 ≤ largest)) (λ e. written e.0 ++ written e.1) two_at
two_numbers_law = sequence number_inverse (λ a. number_inverse) (λ a b. (a, b)) (λ e. e.0) (λ e. e.1) (λ e. refl) (λ a b fine. (refl, refl))

order_nested : Inverse
    (λ (o : Order). ((o.display ≤ largest) × (within 0 63 o.display ≡ true)) × ((o.expected ≤ largest) × (o.new ≤ largest)))
    order_bytes
    (λ s at.
    then (number_in 0 63 s at) λ d.
    then (two_at s d.next) λ e.
    found (record { display = d.value; expected = e.value.0; new = e.value.1 }) e.next)
order_nested =
    sequence (number_in_law 0 63) (λ d. two_numbers_law) (λ d e. record { display = d; expected = e.0; new = e.1 }) (λ o. o.display)
    (λ o. (o.expected, o.new)) (λ o. refl) (λ d e fine. (refl, refl))

in_range_law : (most v : ℕ) → most ≤ largest → within 0 most v ≡ true → v ≤ largest
in_range_law most v small e = let (low, high) = within_true 0 most v e in omega arith

order_inverse : Inverse OrderFits order_bytes order_at
order_inverse =
    revalid (reread order_nested order_at (λ s at. simp then_assoc)) OrderFits (λ o fine. in_its_range o fine.0.1 fine.1.0 fine.1.1)
    (λ o fine. let (known, expected, new) = range_parts o fine in ((in_range_law 63 o.display (lit≤ tt) known, known), (expected, new)))

-- ---- the orders: how many, and each
abbrev OrdersFit : List Order → Type 0
OrdersFit l = (within 0 8 (length l) ≡ true) × Each OrderFits l

orders_inverse : Inverse OrdersFit orders_bytes orders_at
orders_inverse =
    revalid
    (reread
    (sequence (number_in_law 0 8) (λ count. several order_inverse count) (λ count l. l) length (λ l. l) (λ l. refl) (λ count l fine. (fine.0, refl)))
    orders_at
    (λ s at. ap (then (number_in 0 8 s at)) (fun_ext λ count. then_same (repeated order_at count.value s count.next))))
    OrdersFit (λ l fine. (fine.0.1, fine.1.1)) (λ l fine. ((in_range_law 8 (length l) (lit≤ tt) fine.0, fine.0), (refl, fine.1)))

-- ---- a block: the link, the orders, the slot and the two signatures
abbrev Signatures : Type 0
Signatures = List ℕ × List ℕ

abbrev signatures_at : List ℕ → ℕ → Told (Found Signatures)
signatures_at s at = then (bytes_at 64 s at) λ a. then (bytes_at 64 s a.next) λ b. found (a.value, b.value) b.next

abbrev Sized : ℕ → List ℕ → Type 0
Sized size l = (length l ≡ size) × Bytes l

signatures_inverse : Inverse (λ (e : Signatures). Sized 64 e.0 × Sized 64 e.1) (λ e. e.0 ++ e.1) signatures_at
signatures_inverse = sequence (fixed_bytes 64) (λ a. fixed_bytes 64) (λ a b. (a, b)) (λ e. e.0) (λ e. e.1) (λ e. refl) (λ a b fine. (refl, refl))

abbrev Stamped : Type 0
Stamped = ℕ × Signatures

abbrev stamped_at : List ℕ → ℕ → Told (Found Stamped)
stamped_at s at = then (number_in 1 256 s at) λ slot. then (signatures_at s slot.next) λ e. found (slot.value, e.value) e.next

stamped_inverse : Inverse
    (λ (e : Stamped). ((e.0 ≤ largest) × (within 1 256 e.0 ≡ true)) × (Sized 64 e.1.0 × Sized 64 e.1.1))
    (λ e. written e.0 ++ (e.1.0 ++ e.1.1)) stamped_at
stamped_inverse =
    sequence (number_in_law 1 256) (λ slot. signatures_inverse) (λ slot e. (slot, e)) (λ e. e.0) (λ e. e.1) (λ e. refl) (λ a b fine. (refl, refl))

abbrev Ordered : Type 0
Ordered = List Order × Stamped

abbrev ordered_at : List ℕ → ℕ → Told (Found Ordered)
ordered_at s at = then (orders_at s at) λ orders. then (stamped_at s orders.next) λ e. found (orders.value, e.value) e.next

ordered_inverse : Inverse
    (λ (e : Ordered). OrdersFit e.0 × (((e.1.0 ≤ largest) × (within 1 256 e.1.0 ≡ true)) × (Sized 64 e.1.1.0 × Sized 64 e.1.1.1)))
    (λ e. orders_bytes e.0 ++ (written e.1.0 ++ (e.1.1.0 ++ e.1.1.1))) ordered_at
ordered_inverse =
    sequence orders_inverse (λ orders. stamped_inverse) (λ orders e. (orders, e)) (λ e. e.0) (λ e. e.1) (λ e. refl) (λ a b fine. (refl, refl))

abbrev linked : List ℕ → Ordered → Parts
linked link e = record {
  link = link;
  orders = e.0;
  slot = e.1.0;
  slot_signature = e.1.1.0;
  block_signature = e.1.1.1;
}

abbrev behind_link : Parts → Ordered
behind_link p = (p.orders, (p.slot, (p.slot_signature, p.block_signature)))

abbrev Nested : Parts → Type 0
Nested p = Sized 32 p.link
    × (OrdersFit p.orders × (((p.slot ≤ largest) × (within 1 256 p.slot ≡ true)) × (Sized 64 p.slot_signature × Sized 64 p.block_signature)))

block_nested : Inverse
    Nested
    (λ p. p.link ++ (orders_bytes p.orders ++ (written p.slot ++ (p.slot_signature ++ p.block_signature))))
    (λ s at. then (bytes_at 32 s at) λ link. then (ordered_at s link.next) λ e. found (linked link.value e.value) e.next)
block_nested = sequence (fixed_bytes 32) (λ link. ordered_inverse) linked (λ p. p.link) behind_link (λ p. refl) (λ a b fine. (refl, refl))

to_fits : (p : Parts) → Nested p → Fits p
to_fits p n = record {
  link_size = n.0.0;
  link_bytes = n.0.1;
  count = n.1.0.0;
  orders = n.1.0.1;
  slot = n.1.1.0.1;
  slot_signature_size = n.1.1.1.0.0;
  slot_signature_bytes = n.1.1.1.0.1;
  block_signature_size = n.1.1.1.1.0;
  block_signature_bytes = n.1.1.1.1.1;
}

from_fits : (p : Parts) → Fits p → Nested p
from_fits p f =
    let slots = within_true 1 256 p.slot f.slot in (
      (f.link_size, f.link_bytes),
      (
        (f.count, f.orders),
        (
          (omega (arith, slots.1), f.slot),
          ((f.slot_signature_size, f.slot_signature_bytes), (f.block_signature_size, f.block_signature_bytes)),
        ),
      ),
    )

-- what is written reads back, whatever follows it, and every block that reads writes back to the same bytes
pub block_inverse : Inverse Fits block_bytes block_at
unfolding block_at front_bytes block_bytes
block_inverse =
    revalid
    (rewritten
    (reread block_nested block_at (λ s at. simp then_assoc))
    block_bytes (λ p. simp append_assoc))
    Fits to_fits from_fits
