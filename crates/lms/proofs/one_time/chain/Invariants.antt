-- `lms::one_time::chain` meets its contract. The loop's invariant: the value has gone the steps up to j.
-- Assumes nothing.
use Rattle.std.proofs.Common.{◌≡◌, ◌-◌}
use Rattle.lms.specs.Lms.{chained}
use Rattle.lms.proofs.one_time.chain.Given as goal

abbrev pub invariant-loop-j : goal.invariant-loop-j
invariant-loop-j l = l.value ≡ chained l.front l.digit l.initial.value (l.j - l.digit)
