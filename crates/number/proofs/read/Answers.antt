-- `number::read` meets its contract, by the number's first group.
-- Assumes nothing.
use mathlib.Core.Path.{◌∙◌, sym}
use Rattle.number.proofs.Groups.{number_cut, number_one, number_more}
use Rattle.number.proofs.read.Goals as goal

pub returns-then-s-at : goal.returns-then-s-at
returns-then-s-at c = sym (number_cut _ _ c.if-s-at.true)

pub returns-then-first-lt128 : goal.returns-then-first-lt128
returns-then-first-lt128 c = sym (number_one _ _ c.if-s-at.false c.if-first-lt128.true)

pub returns : goal.returns
returns c = c.rest.ensures ∙ sym (number_more _ _ c.if-s-at.false c.if-first-lt128.false)
