-- `chain::pass::pass` meets its contract.
-- Assumes nothing.
use mathlib.Core.Bool.{true, false}
use mathlib.Core.Path.{◌≡◌, sym, ◌∙◌}
use Rattle.chain.specs.Chain.{settles}
use Rattle.chain.specs.Answers.{way_of}
use Rattle.chain.proofs.Passing.{kept_refused, kept_less, kept_next, kept_over}
use Rattle.chain.proofs.pass.pass.Goals as goal

pub returns-in-Err : goal.returns-in-Err
returns-in-Err c =
    let loop = c.loop-whole in
    let a = c.args in
    kept_refused a.opened (way_of a.way) a.chain.now loop.whole loop.settled loop.invariant c.loop-whole-test.true _ 0 (sym c.in-Err.ensures)

pub loop-whole-smaller-then-more_slots_ago : goal.loop-whole-smaller-then-more_slots_ago
loop-whole-smaller-then-more_slots_ago c =
    let loop = c.loop-whole in
    let a = c.args in
    kept_less a.opened (way_of a.way) a.chain.now loop.whole loop.settled loop.invariant c.loop-whole-test.true _ (sym c.in-Ok.ensures)

pub loop-whole-preserved-then-more_slots_ago : goal.loop-whole-preserved-then-more_slots_ago
loop-whole-preserved-then-more_slots_ago c =
    let loop = c.loop-whole in
    let a = c.args in
    let after = c.in-Ok.after in
    let is : settles a.opened after.stamp.0 ≡ true = sym (rw c.depth-depth.ensures at c.more_slots_ago.ensures) ∙ c.if-more_slots_ago.true in
    kept_next a.opened (way_of a.way) a.chain.now loop.whole loop.settled loop.invariant c.loop-whole-test.true after (sym c.in-Ok.ensures) _ (rw is)

pub loop-whole-smaller : goal.loop-whole-smaller
loop-whole-smaller c =
    let loop = c.loop-whole in
    let a = c.args in
    kept_less a.opened (way_of a.way) a.chain.now loop.whole loop.settled loop.invariant c.loop-whole-test.true _ (sym c.in-Ok.ensures)

pub loop-whole-preserved : goal.loop-whole-preserved
loop-whole-preserved c =
    let loop = c.loop-whole in
    let a = c.args in
    let after = c.in-Ok.after in
    let is : settles a.opened after.stamp.0 ≡ false = sym (rw c.depth-depth.ensures at c.more_slots_ago.ensures) ∙ c.if-more_slots_ago.false in
    kept_next a.opened (way_of a.way) a.chain.now loop.whole loop.settled loop.invariant c.loop-whole-test.true after (sym c.in-Ok.ensures) _ (rw is)

pub returns : goal.returns
returns c =
    let loop = c.loop-whole in
    kept_over c.args.opened (way_of c.args.way) c.args.chain.now loop.whole loop.settled loop.invariant c.loop-whole-test.false
