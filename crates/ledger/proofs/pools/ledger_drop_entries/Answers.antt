-- `ledger::ledger_drop_entries` meets its contract.
-- Assumes nothing.
use Rattle.ledger.proofs.Crossing.{pool_crosses}
use Rattle.ledger.proofs.pools.ledger_drop_entries.Goals as goal

pub returns : goal.returns
returns c = pool_crosses _ _ _ _ _ _ c.drop.ensures.answer c.drop.ensures.pool c.refused-refusal.ensures.0 c.refused-refusal.ensures.1
