-- What the answers of this crate tell.
-- Assumes nothing.
use Rattle.std.specs.Prelude.{length}
use Rattle.laws.specs.Told.{Told, given_or}
use Rattle.laws.specs.Tabulate.{tailed}
use Rattle.pool.specs.Pool.{Taking, room, no_entry}
use Rattle.pool.specs.declared.Pool.{Pool}
use Rattle.pool.specs.declared.Taken.{Taken}

-- a refusal leaves the pool as it came
abbrev pub pool_or : Pool → Told Pool → Pool
pool_or before t = given_or before t

-- orders that were taken, in a list of 64 with zeros behind them
abbrev pub taken_of : Taking → Taken
taken_of t = record { count = length t.orders; orders = tailed room no_entry.order t.orders; releases = t.releases }
