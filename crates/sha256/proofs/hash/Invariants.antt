-- `sha256::hash` meets its contract. The loop's invariant: the hash is that of the first n blocks.
-- Assumes nothing.
use Rattle.std.proofs.Common.{◌≡◌}
use Rattle.sha256.specs.Sha256.{padded, hashed}
use Rattle.sha256.proofs.hash.Given as goal

abbrev pub invariant-loop-n : goal.invariant-loop-n
invariant-loop-n l = l.hash ≡ hashed (padded l.s) l.n
