use Rattle.std.proofs.Common.{◌≤◌, length}
use Rattle.worked.proofs.run.Given as goal

abbrev pub invariant-loop : goal.invariant-loop
invariant-loop g l = l.used ≤ length l.line
