-- A block as the code holds it, and its parts.
-- Assumes nothing.
use Rattle.std.specs.Prelude.{ℕ, ◌+◌, Bool, List, [], ◌∷◌, ◌++◌, leb, length, replicate}
use Rattle.std.specs.List.{list_all}
use Rattle.laws.specs.Every.{both, within}
use Rattle.laws.specs.Told.{Told, gives, refuses, Found}
use Rattle.number.specs.Number.{written}
use Rattle.order.specs.Order.{order_in_range}
use Rattle.order.specs.declared.Order.{Order}
use Rattle.block.specs.Block.{Parts, orders_bytes, front_bytes}
use Rattle.block.specs.Answers.{listed, unlisted}
use Rattle.block.specs.declared.Front.{Front}
use Rattle.block.specs.declared.Block.{Block}
use Rattle.block.specs.declared.Orders.{Orders}

abbrev pub parts_in : Block → Parts
parts_in b = record {
  link = b.front.link;
  orders = unlisted b.front.orders;
  slot = b.front.slot.0;
  slot_signature = b.front.slot_signature;
  block_signature = b.block_signature;
}

abbrev pub block_in : Parts → Block
block_in p = record {
  front = record {
    link = p.link;
    orders = listed p.orders;
    slot = record { 0 = p.slot };
    slot_signature = p.slot_signature;
  };
  block_signature = p.block_signature;
}

-- a host is given zeros beside a refusal
abbrev pub no_parts : Parts
no_parts = record { link = replicate 32 0; orders = []; slot = 0; slot_signature = replicate 64 0; block_signature = replicate 64 0 }

abbrev pub block_of : Told (Found Parts) → Block
block_of (gives r) = block_in r.value
block_of (refuses number place) = block_in no_parts

-- what writing judges: "order count, display or slot out of its range", and of the orders "a release above the largest"
abbrev pub in_range : Orders → ℕ → Bool
in_range orders slot = both (leb orders.count 8) (both (list_all order_in_range (unlisted orders)) (within 1 256 slot))

abbrev pub front_fits : Front → Bool
front_fits f = in_range f.orders f.slot.0

abbrev pub front_of : Front → List ℕ
front_of f = front_bytes f.link (unlisted f.orders) f.slot.0 f.slot_signature

-- how many bytes a block takes
abbrev pub block_length : List Order → ℕ → ℕ
block_length orders slot = 32 + (length (orders_bytes orders) + (length (written slot) + 128))

-- 01: "the four letters `slot` followed by the slot as a number"
abbrev pub slot_text : ℕ → List ℕ
slot_text slot = (115 ∷ 108 ∷ 111 ∷ 116 ∷ []) ++ written slot
