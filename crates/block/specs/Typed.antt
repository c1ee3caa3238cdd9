-- What a block's types say of it wherever the code holds one: the sizes of its arrays, and what a byte can be.
-- Assumes nothing.
use Rattle.std.specs.Prelude.{◌≡◌, length}
use Rattle.laws.specs.Format.{Bytes}
use Rattle.block.specs.declared.Block.{Block}

pub record Typed (b : Block) : Type 0 where
  pub link_size : length b.front.link ≡ 32
  pub link_bytes : Bytes b.front.link
  pub list_size : length b.front.orders.list ≡ 8
  pub slot_signature_size : length b.front.slot_signature ≡ 64
  pub slot_signature_bytes : Bytes b.front.slot_signature
  pub block_signature_size : length b.block_signature ≡ 64
  pub block_signature_bytes : Bytes b.block_signature
