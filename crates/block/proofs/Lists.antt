-- Orders as the code holds them, a count and a list of eight: their bytes, order by order.
-- Assumes nothing.
use mathlib.Core.Path.{◌≡◌, refl, sym, ap, ◌∙◌}
use mathlib.Core.List.{List, ◌++◌}
use Prim.Native.Nat.{ℕ, ◌+◌, ◌<◌, ◌≤◌}
use native.Mathlib.Omega.{arith}
use native.Mathlib.Numerals.{add-one}
use lib.ListN.{length, take, get_or, length-append}
use lib.Seq.{length-take-le, take_all}
use mathlib.Core.Bool.{Bool, true, false}
use lib.Dec.{leb}
use borrow.Author.Tests.{leb-true}
use Rattle.std.specs.List.{list_all}
use Rattle.laws.specs.Every.{both, within}
use Rattle.laws.proofs.Every.{both_true}
use Rattle.laws.specs.Bytes.{joined}
use Rattle.laws.specs.Placed.{Room, Wrote}
use Rattle.laws.proofs.Placed.{wrote_length, wrote_then}
use Rattle.laws.proofs.Taken.{joined_more, joined_less}
use Rattle.std.proofs.lemmas.List.Folds.{list_all_at}
use Rattle.number.specs.Number.{written}
use Rattle.number.proofs.Written.{at_most_five}
use Rattle.order.specs.Order.{order_in_range}
use Rattle.order.specs.declared.Order.{Order}
use Rattle.block.specs.declared.Orders.{Orders}
use Rattle.block.specs.Block.{order_bytes, orders_bytes, front_bytes, block_bytes}
use Rattle.block.specs.Answers.{no_order, unlisted}
use Rattle.block.specs.Blocks.{parts_in, in_range, front_of}
use Rattle.block.specs.declared.Block.{Block}
use Rattle.block.specs.declared.Front.{Front}

pub order_size : (o : Order) → length (order_bytes o) ≡ length (written o.display) + (length (written o.expected) + length (written o.new))
order_size o =
    length-append (written o.display) (written o.expected ++ written o.new)
    ∙ ap (λ (n : ℕ). length (written o.display) + n) (length-append (written o.expected) (written o.new))

pub order_most : (o : Order) → length (order_bytes o) ≤ 15
order_most o = omega (arith, order_size o, at_most_five o.display, at_most_five o.expected, at_most_five o.new)

abbrev pub begun : List Order → ℕ → List ℕ
begun l i = joined order_bytes (take i l)

module _ (l : List Order) where
  pub all_begun : orders_bytes l ≡ written (length l) ++ begun l (length l)
  all_begun = ap (λ (k : List Order). written (length l) ++ joined order_bytes k) (sym (take_all (length l) l (omega arith)))

  module _ (i : ℕ) (more : i < length l) where
    begun_more : begun l (i + 1) ≡ begun l i ++ order_bytes (get_or l i no_order)
    begun_more = rw (add-one, joined_more order_bytes l i no_order more)

    pub begun_size : length (begun l (i + 1)) ≡ length (begun l i) + length (order_bytes (get_or l i no_order))
    begun_size = ap length begun_more ∙ length-append (begun l i) (order_bytes (get_or l i no_order))

    -- room for all of them is room for the next one
    pub room_more : {out : List ℕ} {at place : ℕ} {later : List ℕ} → Room out at (begun l (length l)) → Wrote out at (begun l i) place later
        → Room later place (order_bytes (get_or l i no_order))
    room_more room wrote = record {
      enough = omega (
        arith,
        room.enough,
        wrote.place,
        begun_size,
        joined_less order_bytes l (i + 1) (length l) (omega arith),
        wrote_length wrote,
      );
    }

    pub wrote_more : {out : List ℕ} {at place next : ℕ} {between later : List ℕ} → Wrote out at (begun l i) place between
        → Wrote between place (order_bytes (get_or l i no_order)) next later → Wrote out at (begun l (i + 1)) next later
    wrote_more before after = rw begun_more (wrote_then (begun l i) (order_bytes (get_or l i no_order)) before after)

    -- orders in their ranges: and so the one at a place of the list
    pub range_at : list_all order_in_range l ≡ true → order_in_range (get_or l i no_order) ≡ true
    range_at all = by_test (order_in_range (get_or l i no_order)) refl
      where
        by_test : (β : Bool) → order_in_range (get_or l i no_order) ≡ β → β ≡ true
        by_test true is = refl
        by_test false is = sym (list_all_at order_in_range l i no_order more is) ∙ all

-- orders and a slot in their ranges: at most eight orders, each in its own
pub range_parts : (o : Orders) (slot : ℕ) → in_range o slot ≡ true → (o.count ≤ 8) × (list_all order_in_range (unlisted o) ≡ true) × (within 1 256 slot ≡ true)
range_parts o slot e =
    let (few, rest) = both_true (leb o.count 8) (both (list_all order_in_range (unlisted o)) (within 1 256 slot)) e in
    let (orders, stamp) = both_true (list_all order_in_range (unlisted o)) (within 1 256 slot) rest in
    (leb-true _ _ few, orders, stamp)

pub few : (o : Orders) (slot : ℕ) → in_range o slot ≡ true → o.count ≤ 8
few o slot e = (range_parts o slot e).0

pub front_size : (f : Front) → length f.link ≡ 32 → length f.slot_signature ≡ 64
    → length (front_of f) ≡ 32 + (length (orders_bytes (unlisted f.orders)) + (length (written f.slot.0) + 64))
unfolding front_bytes
front_size f link signature =
    let orders = orders_bytes (unlisted f.orders) in
    omega (
      arith,
      link,
      signature,
      length-append f.link (orders ++ (written f.slot.0 ++ f.slot_signature)),
      length-append orders (written f.slot.0 ++ f.slot_signature),
      length-append (written f.slot.0) f.slot_signature,
    )

-- and with bytes behind it, from what was counted
pub size_with : (f : Front) (behind : List ℕ) → length f.link ≡ 32 → length f.slot_signature ≡ 64
    → (orders : List Order) → orders ≡ unlisted f.orders
    → (size : ℕ) → size ≡ 32 + (length (orders_bytes orders) + (length (written f.slot.0) + 64))
    → size + length behind ≡ length (front_of f ++ behind)
size_with f behind link signature orders listed size is =
    omega (
      arith,
      is,
      ap (λ (l : List Order). length (orders_bytes l)) listed,
      front_size f link signature,
      length-append (front_of f) behind,
    )

pub block_pieces : (b : Block) → block_bytes (parts_in b) ≡ front_of b.front ++ b.block_signature
unfolding block_bytes
block_pieces b = refl

-- at most eight orders stand in the list
pub unlisted_few : (o : Orders) → length o.list ≡ 8 → o.count ≤ 8 → length (unlisted o) ≡ o.count
unlisted_few o whole few = length-take-le o.count o.list (omega arith)
