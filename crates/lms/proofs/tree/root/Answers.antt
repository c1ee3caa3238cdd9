-- `lms::tree::root` meets its contract. The loop's invariant: the value is that of the node i steps above the leaf.
-- Assumes nothing.
use Rattle.std.proofs.Common.{◌≡◌, ◌∙◌, arith}
use Rattle.lms.specs.Lms.{root_from}
use Rattle.lms.proofs.tree.root.Goals as goal

pub returns : goal.returns
unfolding root_from
returns c =
    let all : c.loop-i.i ≡ 5 = omega arith in
    c.loop-i.invariant ∙ rw (all, c.leaf-value.ensures)
