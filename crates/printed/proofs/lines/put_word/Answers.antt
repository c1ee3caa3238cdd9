-- `printed::lines::put_word` meets its contract.
-- Assumes nothing.
use mathlib.Core.List.{[], ◌∷◌}
use Rattle.laws.proofs.Placed.{wrote_then}
use Rattle.printed.specs.Decimal.{decimal}
use Rattle.printed.proofs.Decimals.{wrote_one}
use Rattle.printed.proofs.lines.put_word.Goals as goal

pub returns : goal.returns
returns c =
    wrote_then (decimal c.args.value) (c.args.behind ∷ []) c.put-end.ensures
    (wrote_one c.put-end.new.out c.put-end.result c.args.behind)
