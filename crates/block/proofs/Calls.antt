-- What `block::write` and `block::read` do one after the other, in the words of their contracts: `answers` and `leaves` are the two clauses of the
-- write's, `block_at` and `block_of` stand in those of the read's.
-- Assumes nothing.
use mathlib.Core.Path.{◌≡◌, sym, ap, ◌∙◌, subst}
use mathlib.Core.Bool.{Bool, true}
use mathlib.Core.List.{List}
use Prim.Native.Nat.{ℕ, ◌+◌, ◌-◌, ◌≤◌, zero-le}
use native.Mathlib.Omega.{arith}
use lib.ListN.{length, replicate}
use lib.Seq.{length-take-le, take-append_seam}
use borrow.Author.Tests.{le-leb}
use Rattle.std.specs.List.{list_all}
use Rattle.laws.specs.Told.{Told, gives, Found, found}
use Rattle.laws.specs.Bytes.{part}
use Rattle.laws.specs.Tabulate.{Tailed}
use Rattle.laws.specs.Placed.{placed, placed_if, placing_if}
use Rattle.laws.specs.Format.{Bytes}
use Rattle.laws.proofs.Told.{unless_gives}
use Rattle.laws.proofs.Every.{within_true, within_here}
use Rattle.laws.proofs.Each.{every_each, each_every}
use Rattle.laws.proofs.Tabulate.{tailed_is}
use Rattle.laws.proofs.Calls.{placed_reads_back, read_is_placed}
use Rattle.order.specs.Order.{order_in_range}
use Rattle.block.specs.Block.{Parts, block_at, block_bytes, Fits}
use Rattle.block.specs.Answers.{no_order, unlisted}
use Rattle.block.specs.Blocks.{parts_in, block_in, block_of, front_fits}
use Rattle.block.specs.Typed.{Typed}
use Rattle.block.specs.declared.Block.{Block}
use Rattle.block.proofs.RoundTrip.{block_inverse}
use Rattle.block.proofs.Lists.{range_parts, few}

abbrev pub answers : Block → List ℕ → ℕ → Told ℕ
answers block out at = placed_if (front_fits block.front) 5 out at (block_bytes (parts_in block))

abbrev pub leaves : Block → List ℕ → ℕ → List ℕ
leaves block out at = placing_if (front_fits block.front) out at (block_bytes (parts_in block))

-- ---- what the write judges of a block, and what a block's parts are to fit
fit_parts : (b : Block) → Typed b → front_fits b.front ≡ true → Fits (parts_in b)
fit_parts b typed fine =
    let o = b.front.orders in
    let (few_orders, ranged, stamp) = range_parts o b.front.slot.0 fine in
    let size : length (unlisted o) ≡ o.count = length-take-le o.count o.list (omega (arith, typed.list_size)) in
    record {
      link_size = typed.link_size;
      link_bytes = typed.link_bytes;
      count = within_here 0 8 (length (unlisted o)) zero-le (omega arith);
      orders = every_each order_in_range (unlisted o) ranged;
      slot = stamp;
      slot_signature_size = typed.slot_signature_size;
      slot_signature_bytes = typed.slot_signature_bytes;
      block_signature_size = typed.block_signature_size;
      block_signature_bytes = typed.block_signature_bytes;
    }

parts_fit : (p : Parts) → Fits p → front_fits (block_in p).front ≡ true
parts_fit p fits =
    let (_, most) = within_true 0 8 (length p.orders) fits.count in
    let ranged : list_all order_in_range (unlisted (block_in p).front.orders) ≡ true =
    ap (list_all order_in_range) (take-append_seam p.orders _) ∙ each_every order_in_range p.orders fits.orders in
    rw (le-leb (length p.orders) 8 most, ranged) fits.slot

parts_back : (p : Parts) → parts_in (block_in p) ≡ p
parts_back p = λ i. record {
  link = p.link;
  orders = take-append_seam p.orders (replicate (8 - length p.orders) no_order) i;
  slot = p.slot;
  slot_signature = p.slot_signature;
  block_signature = p.block_signature;
}

block_back : (b : Block) → b.front.orders.count ≤ 8 → Tailed 8 no_order b.front.orders.list b.front.orders.count → block_in (parts_in b) ≡ b
block_back b most zeros =
    let o = b.front.orders in
    let (size, list) = tailed_is 8 no_order o.list o.count most zeros in
    λ i. record {
      front = record {
        link = b.front.link;
        orders = record { count = size i; list = sym list i };
        slot = b.front.slot;
        slot_signature = b.front.slot_signature;
      };
      block_signature = b.block_signature;
    }

-- ---- the write, and then the read
module _ (b : Block) (typed : Typed b) (out : List ℕ) (at next : ℕ) (wrote : answers b out at ≡ gives next) where
  judged : (front_fits b.front ≡ true) × (placed out at (block_bytes (parts_in b)) ≡ gives next)
  judged = unless_gives (front_fits b.front) 5 0 (placed out at (block_bytes (parts_in b))) next wrote

  -- where the write gives a next place, the read of what it leaves gives the block's parts and that place
  pub writing_then_reading_gives_the_same_block : block_at (leaves b out at) at ≡ found (parts_in b) next
  writing_then_reading_gives_the_same_block =
      ap (λ (fine : Bool). block_at (placing_if fine out at (block_bytes (parts_in b))) at) judged.0
      ∙ placed_reads_back block_inverse out at (parts_in b) next (fit_parts b typed judged.0) judged.1

  -- and so the block, if zeros stand past its orders, as they do in every block that is read
  pub and_the_zeros_past_its_orders : Tailed 8 no_order b.front.orders.list b.front.orders.count → block_of (block_at (leaves b out at) at) ≡ b
  and_the_zeros_past_its_orders zeros =
      ap block_of writing_then_reading_gives_the_same_block ∙ block_back b (few b.front.orders b.front.slot.0 judged.0) zeros

-- ---- the read, and then the write
module _ (s : List ℕ) (at : ℕ) (r : Found Parts) (bytes : Bytes s) (reads : block_at s at ≡ gives r) (out : List ℕ) (to : ℕ)
    (room : to + (r.next - at) ≤ length out) where
  abbrev Back : Bool → List ℕ → Type 0
  Back fine written = (placed_if fine 5 out to written ≡ gives (to + (r.next - at)))
      × (part (placing_if fine out to written) to (r.next - at) ≡ part s at (r.next - at))

  -- a block that the read gives, the write takes wherever there is room for as many bytes, and leaves the same bytes there
  pub a_block_that_reads_writes_back_to_the_same_bytes : (b : Block) → b ≡ block_of (block_at s at)
      → (answers b out to ≡ gives (to + (r.next - at))) × (part (leaves b out to) to (r.next - at) ≡ part s at (r.next - at))
  a_block_that_reads_writes_back_to_the_same_bytes b is =
      let p = r.value in
      let fine = parts_fit p (block_inverse.only_written s at r bytes reads).0 in
      let same = sym (parts_back p) in
      subst (λ (q : Block). Back (front_fits q.front) (block_bytes (parts_in q))) (sym (is ∙ ap block_of reads))
      (subst (λ (β : Bool). Back β (block_bytes (parts_in (block_in p)))) (sym fine)
      (subst (λ (q : Parts). Back true (block_bytes q)) same (read_is_placed block_inverse s at r bytes reads out to room)))
