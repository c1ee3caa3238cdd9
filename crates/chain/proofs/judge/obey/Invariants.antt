-- `chain::judge::obey` meets its contract: the orders that are left take the releases on.
-- Assumes nothing.
use mathlib.Core.Path.{◌≡◌}
use lib.ListN.{drop}
use Rattle.order.specs.Order.{obeyed}
use Rattle.chain.proofs.judge.obey.Given as goal

abbrev pub invariant-loop-order : goal.invariant-loop-order
invariant-loop-order l = obeyed l.initial.releases l.orders ≡ obeyed l.releases (drop l.order-index l.orders)
