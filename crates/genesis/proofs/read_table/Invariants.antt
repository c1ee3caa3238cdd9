-- `genesis::read_table` meets its contract.
-- Assumes nothing.
use mathlib.Core.Path.{◌≡◌}
use lib.ListN.{length}
use Rattle.laws.proofs.Repeated.{Into}
use Rattle.number.specs.Number.{number_at}
use Rattle.genesis.proofs.read_table.Given as goal

abbrev pub invariant-loop-release : goal.invariant-loop-release
invariant-loop-release l = (length l.release-items ≡ 64) × Into number_at l.bytes l.at 64 l.release-items l.release-index l.keys_at
