-- `number::length` meets its contract: each branch says between which powers of 128 the number lies.
-- Assumes nothing.
use mathlib.Core.Path.{sym}
use lib.Dec.{lit≤}
use Rattle.number.proofs.Written.{shortest, sized, longest}
use Rattle.number.proofs.length.Goals as goal

pub returns-then-value-lt128 : goal.returns-then-value-lt128
returns-then-value-lt128 c = sym (shortest c.args.value c.if-value-lt128.true)

pub returns-then-value-lt16384 : goal.returns-then-value-lt16384
returns-then-value-lt16384 c = sym (sized 0 c.args.value c.if-value-lt128.false c.if-value-lt16384.true (lit≤ tt))

pub returns-then-value-lt2097152 : goal.returns-then-value-lt2097152
returns-then-value-lt2097152 c = sym (sized 1 c.args.value c.if-value-lt16384.false c.if-value-lt2097152.true (lit≤ tt))

pub returns-then-value-lt268435456 : goal.returns-then-value-lt268435456
returns-then-value-lt268435456 c = sym (sized 2 c.args.value c.if-value-lt2097152.false c.if-value-lt268435456.true (lit≤ tt))

pub returns-else-value-lt268435456 : goal.returns-else-value-lt268435456
returns-else-value-lt268435456 c = sym (longest c.args.value c.if-value-lt268435456.false)
