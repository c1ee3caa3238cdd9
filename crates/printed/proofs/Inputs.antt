-- The input, taken apart piece by piece.
-- Assumes nothing.
use Prim.Native.Nat.{ℕ}
use mathlib.Core.Path.{◌≡◌}
use mathlib.Core.List.{List}
use lib.ListN.{drop}
use Rattle.laws.specs.Told.{refuses, found}
use Rattle.number.specs.Number.{number_at}
use Rattle.printed.specs.Station.{genesis_at, stated, answered}

-- what an input asks for
pub no_genesis : (input : List ℕ) (number place : ℕ) → genesis_at input ≡ refuses number place → answered input ≡ refuses number place
unfolding answered
no_genesis input number place e = rw e

module _ (input genesis : List ℕ) (to : ℕ) (begins : genesis_at input ≡ found genesis to) where
  pub no_clock : (number place : ℕ) → number_at input to ≡ refuses number place → answered input ≡ refuses 2 0
  unfolding answered
  no_clock number place e = rw (begins, e)

  pub all_read : (clock at : ℕ) → number_at input to ≡ found clock at → answered input ≡ stated genesis clock (drop at input)
  unfolding answered
  all_read clock at e = rw (begins, e)
