-- 01, "Orders, blocks, chains": "each step gives the next block, the end, or a refusal as for a single block, after which it stays where it is. A place at
-- or past the chain's end gives the end."
-- Assumes nothing.
use Rattle.std.specs.Prelude.{ℕ, List, leb, length, Option, Some, None}
use Rattle.laws.specs.Pick.{pick}
use Rattle.laws.specs.Told.{Told, gives, refuses, Found, then}
use Rattle.block.specs.Block.{Parts, block_at}
use Rattle.block.specs.Blocks.{block_in, no_parts}
use Rattle.block.specs.declared.Block.{Block}

pub data Ahead : Type 0 where
  block : Found Parts → Ahead
  end : Ahead

abbrev pub step_at : List ℕ → ℕ → Told Ahead
step_at chain at = pick (leb (length chain) at) (gives end) (then (block_at chain at) λ b. gives (block b))

-- where the walk stands after a step
abbrev pub place_after : ℕ → Told Ahead → ℕ
place_after at (gives (block b)) = b.next
place_after at (gives end) = at
place_after at (refuses number place) = at

-- what lies ahead as the code holds it: the block and the place after it, and the block alone
abbrev pub held : Ahead → Option (Block × ℕ)
held (block b) = Some (block_in b.value, b.next)
held end = None

abbrev pub block_of : Ahead → Option Block
block_of (block b) = Some (block_in b.value)
block_of end = None

-- a host is given zeros where there is no block
abbrev pub block_beside : Told Ahead → Block
block_beside (gives (block b)) = block_in b.value
block_beside (gives end) = block_in no_parts
block_beside (refuses number place) = block_in no_parts
