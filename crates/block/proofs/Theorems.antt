-- What a reader may take from this crate: a block is written and read inversely, so no two blocks share their bytes and no block has two forms; and
-- 01's "It has 162 to 251 bytes".
-- Assumes nothing.
use mathlib.Core.Path.{◌≡◌}
use mathlib.Core.List.{List, ◌++◌}
use Prim.Native.Nat.{ℕ, ◌+◌, ◌≤◌}
use lib.ListN.{length, drop}
use Rattle.laws.specs.Told.{gives, Found, found}
use Rattle.laws.specs.Format.{Bytes}
use Rattle.laws.proofs.Format.{different_bytes, one_form}
use Rattle.block.specs.Block.{Parts, block_bytes, block_at, Fits}
use Rattle.block.proofs.RoundTrip.{block_inverse}
use Rattle.block.proofs.Lengths.{block_length_law}

-- what is written reads back as the same block, whatever stands before and after it
pub written_block_reads_back : (before after : List ℕ) (p : Parts) → Fits p
    → block_at (before ++ (block_bytes p ++ after)) (length before) ≡ found p (length before + length (block_bytes p))
written_block_reads_back = block_inverse.reads_back

-- a block that reads is written back to the same bytes
pub read_block_writes_back : (s : List ℕ) (at : ℕ) (r : Found Parts) → Bytes s → block_at s at ≡ gives r
    → Fits r.value × (r.next ≡ at + length (block_bytes r.value)) × (drop at s ≡ block_bytes r.value ++ drop r.next s)
read_block_writes_back = block_inverse.only_written

pub different_blocks_have_different_bytes : (p q : Parts) → Fits p → Fits q → block_bytes p ≡ block_bytes q → p ≡ q
different_blocks_have_different_bytes = different_bytes block_inverse

pub one_block_has_one_form : (s s' : List ℕ) (at at' : ℕ) (r r' : Found Parts) → Bytes s → Bytes s' → block_at s at ≡ gives r → block_at s' at' ≡ gives r'
    → r.value ≡ r'.value → (bytes : List ℕ) × (drop at s ≡ bytes ++ drop r.next s) × (drop at' s' ≡ bytes ++ drop r'.next s')
one_block_has_one_form = one_form block_inverse

pub a_block_has_162_to_251_bytes : (p : Parts) → Fits p → (162 ≤ length (block_bytes p)) × (length (block_bytes p) ≤ 251)
a_block_has_162_to_251_bytes = block_length_law
