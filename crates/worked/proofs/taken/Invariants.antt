use Rattle.std.proofs.Common.{◌≤◌, length}
use Rattle.worked.proofs.taken.Given as goal

abbrev pub invariant-loop-byte : goal.invariant-loop-byte
invariant-loop-byte g l = l.next ≤ length l.line
