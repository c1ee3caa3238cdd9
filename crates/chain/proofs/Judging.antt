-- One block judged behind the blocks before it: what the loops over its link and its orders keep.
-- Assumes nothing.
use Prim.Native.Nat.{ℕ, ◌+◌, ◌-◌, ◌<◌, ◌≤◌}
use mathlib.Core.Path.{◌≡◌, ap, ◌∙◌}
use mathlib.Core.Bool.{true, false}
use mathlib.Core.List.{List, ◌∷◌}
use native.Mathlib.Omega.{arith}
use native.Mathlib.Numerals.{add-one}
use lib.Dec.{ltb}
use lib.ListN.{length, take, drop, get_or}
use lib.Seq.{drop-cons, get_or-take, length-take-le}
use Rattle.laws.specs.Told.{gives, refuses, Found, found, then}
use Rattle.laws.specs.Every.{same}
use Rattle.laws.specs.Bytes.{part}
use Rattle.order.specs.Order.{valid, taken, obeyed}
use Rattle.order.specs.declared.Order.{Order}
use Rattle.block.specs.Block.{Parts, block_at}
use Rattle.block.specs.Steps.{body_at}
use Rattle.block.proofs.Bodies.{Stands, stands, body_read, body_refused}
use Rattle.chain.specs.Chain.{link_of, Way, admitted, joining, judged}
use Rattle.chain.specs.declared.Standing.{Standing}

-- the orders from one place on
module _ (orders : List Order) (i : ℕ) (d : Order) (more : i < length orders) where
  pub obeyed_next : (releases : List ℕ) → valid releases (get_or orders i d) ≡ true
      → obeyed releases (drop i orders) ≡ obeyed (taken releases (get_or orders i d)) (drop (i + 1) orders)
  obeyed_next releases fine = rw (add-one, drop-cons orders i d more, fine)

  pub obeyed_fails : (releases : List ℕ) → valid releases (get_or orders i d) ≡ false → obeyed releases (drop i orders) ≡ refuses 10 0
  obeyed_fails releases bad = rw (drop-cons orders i d more, bad)

-- a block whose orders and slot were read
module _ (chain : List ℕ) (before : Standing) (orders : List Order) (slot next : ℕ)
    (told : body_at chain before.length ≡ found (orders, slot) next) where
  pub read_block : (b : Found Parts) × (block_at chain before.length ≡ gives b) × (b.value.orders ≡ orders) × (b.value.slot ≡ slot) × (b.next ≡ next)
  read_block = body_read chain before.length orders slot next told

  pub read_stands : Stands chain before.length read_block.0
  read_stands = stands chain before.length read_block.0 read_block.1

  pub begins : before.length + 32 ≤ length chain
  begins = read_stands.starts

  pub ends : (before.length + 162 ≤ next) × (next ≤ length chain)
  ends = (omega (arith, read_stands.long, read_block.4), omega (arith, read_stands.ends, read_block.4))

  abbrev carried : List ℕ
  carried = part chain before.length 32

  pub other_link : same carried before.link ≡ false → then (block_at chain before.length) (joining chain before) ≡ refuses 9 0
  other_link bad = rw (read_block.1, read_stands.link, bad)

  module _ (linked : same carried before.link ≡ true) where
    by_orders : then (block_at chain before.length) (joining chain before)
        ≡ then (obeyed before.releases orders) λ releases.
        gives
        (record {
          count = record { 0 = before.count.0 + 1 };
          length = next;
          stamp = record { 0 = slot };
          link = link_of (part chain before.length (next - before.length));
          releases = releases;
        })
    by_orders = rw (read_block.1, read_stands.link, linked, read_block.2, read_block.3, read_block.4)

    pub other_orders : (number place : ℕ) → obeyed before.releases orders ≡ refuses number place
        → then (block_at chain before.length) (joining chain before) ≡ refuses number place
    other_orders number place bad = by_orders ∙ rw bad

    pub joins : (releases : List ℕ) → obeyed before.releases orders ≡ gives releases
        → then (block_at chain before.length) (joining chain before)
        ≡ gives
        (record {
          count = record { 0 = before.count.0 + 1 };
          length = next;
          stamp = record { 0 = slot };
          link = link_of (part chain before.length (next - before.length));
          releases = releases;
        })
    joins releases fine = by_orders ∙ rw fine

-- a block that does not read
pub unread : (way : Way) (clock : ℕ) (chain : List ℕ) (before : Standing) (number place : ℕ) → body_at chain before.length ≡ refuses number place
    → judged way clock chain before ≡ refuses number place
unfolding judged
unread way clock chain before number place e = rw (body_refused chain before.length number place e)

-- a block that reads: 6, then 7 and 8, then the rest
module _ (way : Way) (clock : ℕ) (chain : List ℕ) (before : Standing) (orders : List Order) (slot next : ℕ)
    (told : body_at chain before.length ≡ found (orders, slot) next) where
  abbrev block_told : (b : Found Parts) × (block_at chain before.length ≡ gives b) × (b.value.orders ≡ orders) × (b.value.slot ≡ slot) × (b.next ≡ next)
  block_told = read_block chain before orders slot next told

  pub stamp_not_above : ltb before.stamp.0 slot ≡ false → judged way clock chain before ≡ refuses 6 0
  unfolding judged
  stamp_not_above h = rw (block_told.1, block_told.3, h)

  module _ (above : ltb before.stamp.0 slot ≡ true) where
    pub not_admitted : (number place : ℕ) → admitted way clock before.count.0 slot ≡ refuses number place
        → judged way clock chain before ≡ refuses number place
    unfolding judged
    not_admitted number place e = rw (block_told.1, block_told.3, above, e)

    pub joined_if_admitted : admitted way clock before.count.0 slot ≡ gives tt
        → judged way clock chain before ≡ then (block_at chain before.length) (joining chain before)
    unfolding judged
    joined_if_admitted e = rw (block_told.1, block_told.3, above, e)
