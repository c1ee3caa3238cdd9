-- `pool::Pool::of` meets its contract.
-- Assumes nothing.
use Rattle.std.proofs.Common.{◌≡◌, ◌∙◌, ◌++◌, ◌-◌, ap, rules, length, replicate}
use Rattle.std.proofs.lemmas.List.{drop-replicate}
use Rattle.pool.specs.Pool.{no_entry, room}
use Rattle.pool.proofs.Pool.of.Goals as goal

pub returns : goal.returns
returns c =
    let l = c.args.entries.now in
    let zeros : c.default-all.result ≡ no_entry = search rules in
    rw c.copy_from_slice.ensures.after
    (ap (λ rest. record { count = length l; entries = l ++ rest }) (drop-replicate (length l) room c.default-all.result ∙ ap (replicate (room - length l)) zeros))
