-- A block's types say what `Typed` says: of whatever machine values the code holds as a block, what its row tells.
-- Assumes nothing.
use mathlib.Core.List.{List, [], ◌∷◌}
use Prim.Native.Nat.{ℕ}
use mir.Val.{Val}
use denote.Laws.{Is}
use denote.Array.{each}
use denote.Shadow.{shadow}
use denote.Struct.Field.{u8-field}
use Rattle.laws.specs.Format.{Bytes}
use Rattle.laws.proofs.Bytes.{bytes_nil, bytes_cons}
use Rattle.block.specs.Typed.{Typed}
use Rattle.block.specs.declared.Block.{Block}
use Rattle.block.specs.contracts.Block as block

bytes_of : (xs : List ℕ) (us : List Val) → shadow (each ℕ u8-field.row.own_val xs us) → Bytes xs
bytes_of [] us here = bytes_nil
bytes_of (x ∷ xs) [] here = absurd here
bytes_of (x ∷ xs) (u ∷ us) (here, rest) = bytes_cons x xs here.1 (bytes_of xs us rest)

pub every_block_that_the_code_holds_is_typed : (b : Block) (vs : List Val) → Is block.the_row b vs → Typed b
every_block_that_the_code_holds_is_typed b vs is =
    let front = is.1.1.0 in
    let link = front.1.1.0 in
    let orders = front.1.1.1.0 in
    let list = orders.1.1.1.0 in
    let slot_signature = front.1.1.1.1.1.0 in
    let block_signature = is.1.1.1.0 in
    record {
      link_size = link.1.0.1;
      link_bytes = bytes_of b.front.link link.0 link.1.1;
      list_size = list.1.0.1;
      slot_signature_size = slot_signature.1.0.1;
      slot_signature_bytes = bytes_of b.front.slot_signature slot_signature.0 slot_signature.1.1;
      block_signature_size = block_signature.1.0.1;
      block_signature_bytes = bytes_of b.block_signature block_signature.0 block_signature.1.1;
    }
