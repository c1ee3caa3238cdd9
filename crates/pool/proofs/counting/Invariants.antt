-- `pool::counting` meets its contract.
-- Assumes nothing.
use Rattle.std.proofs.Common.{◌≡◌, take}
use Rattle.std.specs.List.{filter}
use Rattle.pool.specs.Pool.{counts, pool_of}
use Rattle.pool.proofs.counting.Given as goal

abbrev pub invariant-loop-entry : goal.invariant-loop-entry
invariant-loop-entry l = l.kept ≡ pool_of (filter (counts l.held) (take l.entry-index l.entry-items))
