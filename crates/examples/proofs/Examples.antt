-- 01's twelve examples, computed from the definitions.
-- Assumes nothing.
use mathlib.Core.Path.{◌≡◌, refl}
use mathlib.Core.Bool.{true}
use Rattle.std.specs.List.{list_all}
use Rattle.number.specs.Number.{groups, written, read_groups, number_at}
use Rattle.examples.specs.Cases.{holds, cases}

pub worked_by_hand : list_all holds cases ≡ true
unfolding written groups number_at read_groups
worked_by_hand = refl
