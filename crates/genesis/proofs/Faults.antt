-- Every fault of a table is one refusal.
-- Assumes nothing.
use mathlib.Core.Path.{◌≡◌, refl, sym}
use mathlib.Core.Bool.{Bool, true, false}
use mathlib.Core.List.{List}
use Prim.Native.Nat.{ℕ, ◌+◌, ◌*◌}
use Rattle.laws.specs.Told.{Told, gives, refuses, Found, found, then, unless}
use Rattle.laws.specs.Every.{both}
use Rattle.laws.specs.Repeated.{repeated}
use Rattle.laws.proofs.Told.{gives_not_refuses}
use Rattle.number.specs.Number.{number_at}
use Rattle.genesis.specs.Genesis.{head_at, rules, ended, table_at, faulty, genesis_of}
use Rattle.genesis.specs.declared.Head.{Head}

pub no_fault : {A : Type 0} (t : Told A) (a : A) → faulty t ≡ gives a → t ≡ gives a
no_fault (gives b) a e = e
no_fault (refuses number place) a e = gives_not_refuses e
