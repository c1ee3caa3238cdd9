-- `genesis::sheet::entry` meets its contract: the code's table is the definition's.
-- Assumes nothing.
use mathlib.Core.Path.{refl}
use Rattle.genesis.specs.Depths.{depths}
use Rattle.genesis.proofs.sheet.entry.Goals as goal

pub returns : goal.returns
unfolding depths
returns c = refl
