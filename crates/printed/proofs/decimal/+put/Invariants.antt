-- `printed::decimal::put` calls itself for the digits above the lowest, and the number that is left is its measure.
-- Assumes nothing.
use Rattle.printed.proofs.decimal.+put.Given as goal

abbrev pub decreases-put : goal.decreases-put
decreases-put l = l.value
