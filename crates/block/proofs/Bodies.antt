-- A block's orders and slot are read without its link and signatures: only their room is asked for.
-- Assumes nothing.
use mathlib.Core.Path.{◌≡◌, refl, sym, ap, ◌∙◌, subst}
use mathlib.Core.List.{List}
use Prim.Native.Nat.{ℕ, ◌+◌, ◌-◌, ◌<◌, ◌≤◌}
use native.Mathlib.Omega.{arith}
use lib.Dec.{leb}
use lib.ListN.{length}
use lib.Seq.{take_at}
use borrow.Author.Tests.{leb-true}
use Rattle.laws.specs.Told.{gives, refuses, Found, found, found_as}
use Rattle.laws.specs.Bytes.{part, bytes_at}
use Rattle.laws.specs.Every.{within}
use Rattle.laws.proofs.Every.{within_true}
use Rattle.laws.proofs.Repeated.{repeated_moves, repeated_length}
use Rattle.number.specs.Number.{number_at}
use Rattle.number.proofs.Groups.{number_ends}
use Rattle.laws.proofs.Told.{found_as_gives, then_assoc, then_unless, then_gives, then_refuses, unless_gives, gives_same}
use Rattle.order.specs.declared.Order.{Order}
use Rattle.block.specs.Block.{Parts, order_at, orders_at, block_at, number_in}
use Rattle.block.specs.Answers.{listed, unlisted, body_of}
use Rattle.block.specs.declared.Body.{Body}
use Rattle.block.specs.Blocks.{block_in}
use Rattle.block.specs.Steps.{body_at, block_held, body_held}

-- the parts are put together as they are read
pub block_is_held : (s : List ℕ) (at : ℕ) → found_as block_in (block_at s at) ≡ block_held s at
unfolding block_at
block_is_held s at = simp then_assoc

pub body_is_held : (s : List ℕ) (at : ℕ) → found_as body_of (body_at s at) ≡ body_held s at
unfolding block_at
body_is_held s at = simp (then_assoc, then_unless)

-- a block that was read, piece by piece
pub record Pieces (s : List ℕ) (at : ℕ) (b : Found Parts) : Type 0 where
  pub link : Found (List ℕ)
  pub orders : Found (List Order)
  pub slot : Found ℕ
  pub first : Found (List ℕ)
  pub second : Found (List ℕ)
  pub link_reads : bytes_at 32 s at ≡ gives link
  pub orders_read : orders_at s link.next ≡ gives orders
  pub slot_reads : number_in 1 256 s orders.next ≡ gives slot
  pub first_reads : bytes_at 64 s slot.next ≡ gives first
  pub second_reads : bytes_at 64 s first.next ≡ gives second
  pub is : found
      (record {
        link = link.value;
        orders = orders.value;
        slot = slot.value;
        slot_signature = first.value;
        block_signature = second.value;
      })
      second.next
      ≡ gives b

pub pieces : (s : List ℕ) (at : ℕ) (b : Found Parts) → block_at s at ≡ gives b → Pieces s at b
unfolding block_at
pieces s at b e =
    let (link, link_reads, rest) = then_gives (bytes_at 32 s at) _ b e in
    let (orders, orders_read, rest') = then_gives (orders_at s link.next) _ b rest in
    let (slot, slot_reads, rest'') = then_gives (number_in 1 256 s orders.next) _ b rest' in
    let (first, first_reads, rest''') = then_gives (bytes_at 64 s slot.next) _ b rest'' in
    let (second, second_reads, is) = then_gives (bytes_at 64 s first.next) _ b rest''' in
    record {
      link = link;
      orders = orders;
      slot = slot;
      first = first;
      second = second;
      link_reads = link_reads;
      orders_read = orders_read;
      slot_reads = slot_reads;
      first_reads = first_reads;
      second_reads = second_reads;
      is = is;
    }

-- where a block's other parts stand
pub record Stands (s : List ℕ) (at : ℕ) (b : Found Parts) : Type 0 where
  pub starts : at + 32 ≤ length s
  pub ends : b.next ≤ length s
  pub long : at + 162 ≤ b.next
  pub few : length b.value.orders ≤ 8
  pub link : b.value.link ≡ part s at 32
  pub slot_signature : b.value.slot_signature ≡ part s (b.next - 128) 64
  pub block_signature : b.value.block_signature ≡ part s (b.next - 64) 64

part_reads : (size : ℕ) (s : List ℕ) (at : ℕ) (r : Found (List ℕ)) → bytes_at size s at ≡ gives r
    → (at + size ≤ length s) × (r.value ≡ part s at size) × (r.next ≡ at + size)
part_reads size s at r e =
    let (room, is) = unless_gives (leb (at + size) (length s)) 3 0 (found (part s at size) (at + size)) r e in
    subst (λ (q : Found (List ℕ)). (at + size ≤ length s) × (q.value ≡ part s at size) × (q.next ≡ at + size)) (gives_same is)
    (leb-true _ _ room, refl, refl)

number_in_moves : (least most : ℕ) (s : List ℕ) (at : ℕ) (r : Found ℕ) → number_in least most s at ≡ gives r → (at < r.next) × (r.value ≤ most)
number_in_moves least most s at r e =
    let (q, reads, fits) = then_gives (number_at s at) _ r e in
    let (inside, is) = unless_gives (within least most q.value) 5 0 (gives q) r fits in
    subst (λ (q : Found ℕ). (at < q.next) × (q.value ≤ most)) (gives_same is) ((number_ends s at q reads).moves, (within_true _ _ _ inside).1)

order_moves : (s : List ℕ) (at : ℕ) (r : Found Order) → order_at s at ≡ gives r → at ≤ r.next
order_moves s at r e =
    let (display, reads, rest) = then_gives (number_in 0 63 s at) _ r e in
    let (expected, reads', rest') = then_gives (number_at s display.next) _ r rest in
    let (new, reads'', is) = then_gives (number_at s expected.next) _ r rest' in
    let (one, _) = number_in_moves 0 63 s at display reads in
    let two = (number_ends s display.next expected reads').moves in
    let three = (number_ends s expected.next new reads'').moves in
    subst (λ (q : Found Order). at ≤ q.next) (gives_same is) (omega arith)

orders_move : (s : List ℕ) (at : ℕ) (r : Found (List Order)) → orders_at s at ≡ gives r → (at < r.next) × (length r.value ≤ 8)
orders_move s at r e =
    let (count, reads, rest) = then_gives (number_in 0 8 s at) _ r e in
    let (one, few) = number_in_moves 0 8 s at count reads in
    let more = repeated_moves order_at s (order_moves s) count.value count.next r rest in
    let long = repeated_length order_at count.value s count.next r rest in
    (omega arith, omega arith)

stands_by : (s : List ℕ) (at : ℕ) (b : Found Parts) → Pieces s at b → Stands s at b
stands_by s at b p =
    let (l-room, l-is, l-next) = part_reads 32 s at p.link p.link_reads in
    let (f-room, f-is, f-next) = part_reads 64 s p.slot.next p.first p.first_reads in
    let (s-room, s-is, s-next) = part_reads 64 s p.first.next p.second p.second_reads in
    let (o-next, few) = orders_move s p.link.next p.orders p.orders_read in
    let (t-next, _) = number_in_moves 1 256 s p.orders.next p.slot p.slot_reads in
    let first_at : p.second.next - 128 ≡ p.slot.next = omega arith in
    let second_at : p.second.next - 64 ≡ p.first.next = omega arith in
    subst (Stands s at) (gives_same p.is)
    (record {
      starts = l-room;
      ends = omega arith;
      long = omega arith;
      few = few;
      link = l-is;
      slot_signature = f-is ∙ ap (λ (n : ℕ). part s n 64) (sym first_at);
      block_signature = s-is ∙ ap (λ (n : ℕ). part s n 64) (sym second_at);
    })

pub stands : (s : List ℕ) (at : ℕ) (b : Found Parts) → block_at s at ≡ gives b → Stands s at b
stands s at b e = stands_by s at b (pieces s at b e)

-- a body tells of the block
pub body_refused : (s : List ℕ) (at number place : ℕ) → body_at s at ≡ refuses number place → block_at s at ≡ refuses number place
body_refused s at number place e = then_refuses (block_at s at) _ number place e

pub body_read : (s : List ℕ) (at : ℕ) (orders : List Order) (slot next : ℕ) → body_at s at ≡ found (orders, slot) next
    → (b : Found Parts) × (block_at s at ≡ gives b) × (b.value.orders ≡ orders) × (b.value.slot ≡ slot) × (b.next ≡ next)
body_read s at orders slot next e =
    let (b, reads, told) = then_gives (block_at s at) _ (record { value = (orders, slot); next = next }) e in
    let same = gives_same told in
    (b, reads, ap (λ r. r.value.0) same, ap (λ r. r.value.1) same, ap (λ r. r.next) same)

-- a body as the code holds it tells of the block
pub unlisted_listed : (l : List Order) → unlisted (listed l) ≡ l
unlisted_listed l = take_at l _ (length l) refl

pub body_told : (s : List ℕ) (at : ℕ) (body : Body) (next : ℕ) → found body next ≡ found_as body_of (body_at s at)
    → body_at s at ≡ found (unlisted body.orders, body.slot.0) next
body_told s at body next e =
    let (b, reads, held) = found_as_gives body_of (body_at s at) body next e in
    let orders : b.0 ≡ unlisted body.orders = sym (unlisted_listed b.0) ∙ ap (λ (q : Body). unlisted q.orders) held in
    let slot : b.1 ≡ body.slot.0 = ap (λ (q : Body). q.slot.0) held in
    reads ∙ (λ i. found (orders i, slot i) next)
