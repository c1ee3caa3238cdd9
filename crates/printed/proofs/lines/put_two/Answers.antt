-- `printed::lines::put_two` meets its contract.
-- Assumes nothing.
use Rattle.laws.proofs.Placed.{wrote_then}
use Rattle.printed.specs.Station.{word}
use Rattle.printed.proofs.lines.put_two.Goals as goal

pub returns : goal.returns
returns c =
    let a = c.args in
    wrote_then (word a.first 32) (word a.second 10) c.put_word-at.ensures c.put_word.ensures
