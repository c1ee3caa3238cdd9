-- What a report says of blocks, with no byte in sight but for lengths.
-- Assumes nothing.
use Rattle.std.specs.Prelude.{ℕ, ◌≤◌, ◌≡◌, List, length, take}
use Rattle.laws.specs.Told.{gives}
use Rattle.block.specs.Block.{Parts}
use Rattle.chain.specs.Chain.{opened, held}
use Rattle.chain.specs.Blocks.{chain_bytes, settled_of, Accepted}
use Rattle.chain.specs.declared.Opened.{Opened}
use Rattle.chain.specs.declared.Summary.{Summary}
use Rattle.report.specs.Report.{Report}

-- the buffer holds an accepted chain, and the report is on its blocks: "the held and settled block counts, the settled bytes' length, and the
-- releases after the settled blocks"
pub record Reports (genesis : List ℕ) (clock : ℕ) (buffer : List ℕ) (size : ℕ) (r : Report) : Type 0 where
  pub o : Opened
  pub opens : opened genesis clock ≡ gives o
  pub inside : size ≤ length buffer
  pub blocks : List Parts
  pub are : take size buffer ≡ chain_bytes blocks
  pub s : Summary
  pub accepted : Accepted o held blocks s
  pub counts_held : r.held ≡ length blocks
  pub counts_settled : r.settled ≡ length (settled_of o blocks)
  pub takes : r.length ≡ length (chain_bytes (settled_of o blocks))
  pub leaves : r.releases ≡ s.settled.releases
