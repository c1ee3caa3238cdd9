-- `chain::pass::pass` meets its contract.
-- Assumes nothing.
use Prim.Native.Nat.{◌-◌}
use lib.ListN.{length}
use Rattle.chain.specs.Answers.{way_of}
use Rattle.chain.proofs.Passing.{Kept}
use Rattle.chain.proofs.pass.pass.Given as goal

abbrev pub invariant-loop-whole : goal.invariant-loop-whole
invariant-loop-whole l = Kept l.opened (way_of l.way) l.chain l.whole l.settled

abbrev pub decreases-loop-whole : goal.decreases-loop-whole
decreases-loop-whole l = length l.chain - l.whole.length
