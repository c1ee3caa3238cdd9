-- `sha256::rounds::compress` meets its contract.
-- Assumes nothing.
use Rattle.std.proofs.Common.{get_or, rules}
use Rattle.sha256.specs.Sha256.{◌⊞◌, schedule, working, compressed}
use Rattle.sha256.proofs.Made.{made}
use Rattle.sha256.proofs.rounds.compress.Goals as goal

pub returns : goal.returns
unfolding compressed
returns c =
    let hash = c.args.hash in
    made _ (λ i. get_or hash i 0 ⊞ get_or (working (schedule c.args.block 64) hash 64) i 0) _ 8 (λ i y later small k. search rules) _ c.from_fn.ensures.items
