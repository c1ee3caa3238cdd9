-- `printed::lines::put_first` meets its contract.
-- Assumes nothing.
use mathlib.Core.List.{◌++◌}
use Rattle.laws.proofs.Placed.{wrote_then}
use Rattle.printed.specs.Station.{word}
use Rattle.printed.proofs.lines.put_first.Goals as goal

pub returns : goal.returns
returns c =
    let a = c.args in
    wrote_then (word a.clock.0 32) (word a.held.0 32 ++ word a.settled.0 10) c.put_word-at.ensures
    (wrote_then (word a.held.0 32) (word a.settled.0 10) c.put_word-at-2.ensures c.put_word.ensures)
