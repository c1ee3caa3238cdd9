-- `lms::tree::root` meets its contract. The loop's invariant: the value is that of the node i steps above the leaf.
-- Assumes nothing.
use Rattle.std.proofs.Common.{◌≡◌}
use Rattle.lms.specs.Lms.{identifier, climbed}
use Rattle.lms.proofs.tree.root.Given as goal

abbrev pub invariant-loop-i : goal.invariant-loop-i
invariant-loop-i l = l.value ≡ climbed (identifier l.key) l.node l.signature l.initial.value l.i
