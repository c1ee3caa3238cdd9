-- The settled part of a summary counts the settled blocks, and their bytes.
-- Assumes nothing.
use mathlib.Core.Path.{◌≡◌, ◌∙◌}
use mathlib.Core.List.{List}
use native.Mathlib.Omega.{arith}
use lib.ListN.{length}
use Rattle.block.specs.Block.{Parts}
use Rattle.chain.specs.Chain.{held, none}
use Rattle.chain.specs.Blocks.{chain_bytes, settled_of, Accepted}
use Rattle.chain.specs.declared.Opened.{Opened}
use Rattle.chain.specs.declared.Summary.{Summary}
use Rattle.chain.proofs.Theorems.{each_block_counts_once, the_lengths_add_up}

module _ (o : Opened) (blocks : List Parts) (s : Summary) (a : Accepted o held blocks s) where
  pub settled_count : s.settled.count.0 ≡ length (settled_of o blocks)
  settled_count = each_block_counts_once (none o) (settled_of o blocks) s.settled a.settled ∙ omega arith

  pub settled_length : s.settled.length ≡ length (chain_bytes (settled_of o blocks))
  settled_length = the_lengths_add_up (none o) (settled_of o blocks) s.settled a.settled ∙ omega arith
