-- `pool::shares_fit` meets its contract.
-- Assumes nothing.
use Rattle.std.proofs.Common.{◌<◌, ◌≤◌, rules, refl, tests}
use Rattle.std.proofs.lemmas.Iterator.{cases_from_all, YieldsList-from_range}
use Rattle.pool.specs.Pool.{depots, depot_room, share_of}
use Rattle.pool.proofs.Shares.{shares_answer}
use Rattle.pool.proofs.shares_fit.Goals as goal

pub returns : goal.returns
returns c =
    let l = c.args.entries.now in
    shares_answer l c.all.result
    (cases_from_all _ _ _ (λ depot. share_of depot l ≤ depot_room) (λ depot. depot_room < share_of depot l) c.all.ensures.ran
    (YieldsList-from_range 0 depots depots refl refl) (λ x q k. search (rules, tests)) (λ x q k. search (rules, tests)))
