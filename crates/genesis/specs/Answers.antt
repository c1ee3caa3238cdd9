-- The table of zeros that a host is given beside a refusal.
-- Assumes nothing.
use Rattle.std.specs.Prelude.{ℕ, List, replicate}
use Rattle.laws.specs.Told.{Told, given_or}
use Rattle.genesis.specs.Genesis.{genesis_of, table_with}
use Rattle.genesis.specs.declared.Genesis.{Genesis}

abbrev pub no_table : Genesis
no_table = table_with 0 0 0 (replicate 64 0) 0

abbrev pub table_of : List ℕ → Genesis
table_of s = given_or no_table (genesis_of s)
