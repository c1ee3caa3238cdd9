-- `pool::take` meets its contract.
-- Assumes nothing.
use Rattle.std.proofs.Common.{◌≡◌, take}
use Rattle.pool.specs.Pool.{orders_of, taking}
use Rattle.pool.specs.Answers.{taken_of}
use Rattle.pool.proofs.take.Given as goal

abbrev pub invariant-loop-entry : goal.invariant-loop-entry
invariant-loop-entry l = l.taken ≡ taken_of (taking l.limit l.fn.releases (orders_of (take l.entry-index l.entry-items)))
