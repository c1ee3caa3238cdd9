-- `number::put` meets its contract. The loop's invariant: what is left to write, written from here, makes the whole.
-- Assumes nothing.
use mathlib.Core.Path.{◌≡◌}
use Prim.Native.Nat.{◌+◌, ◌<◌, ◌≤◌, ◌^◌}
use lib.ListN.{length}
use lib.Seq.{sets}
use Rattle.number.specs.Number.{written}
use Rattle.number.proofs.put.Given as goal

abbrev pub invariant-loop-left : goal.invariant-loop-left
invariant-loop-left l =
    (l.left < 128 ^ 5) × (length l.out ≡ length l.initial.out) × (l.place + length (written l.left) ≤ length l.out)
    × (sets l.initial.out l.at (written l.value) ≡ sets l.out l.place (written l.left))

abbrev pub decreases-loop-left : goal.decreases-loop-left
decreases-loop-left l = l.left
