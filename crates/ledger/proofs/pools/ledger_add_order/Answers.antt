-- `ledger::ledger_add_order` meets its contract.
-- Assumes nothing.
use Rattle.ledger.proofs.Crossing.{pool_crosses}
use Rattle.ledger.proofs.pools.ledger_add_order.Goals as goal

pub returns : goal.returns
returns c = pool_crosses _ _ _ _ _ _ c.add.ensures.answer c.add.ensures.pool c.refused-refusal.ensures.0 c.refused-refusal.ensures.1
