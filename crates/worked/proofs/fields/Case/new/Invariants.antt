use Rattle.std.proofs.Common.{◌≤◌, length}
use Rattle.worked.proofs.fields.Case.new.Given as goal

abbrev pub invariant-loop-end : goal.invariant-loop-end
invariant-loop-end l = l.at ≤ length l.bytes
