-- `block::writing::slot_text` meets its contract.
-- Assumes nothing.
use mathlib.Core.List.{List, [], ◌∷◌}
use Prim.Native.Nat.{ℕ}
use native.Mathlib.Omega.{arith}
use Rattle.number.proofs.Written.{at_most_five}
use Rattle.block.proofs.writing.slot_text.Goals as goal

abbrev letters : List ℕ
letters = 115 ∷ 108 ∷ 111 ∷ 116 ∷ []

pub overflow_add-length : goal.overflow_add-length
overflow_add-length c = omega (arith, c.length.ensures, at_most_five c.args.slot.0)
