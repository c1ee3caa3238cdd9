-- `buffer::put` meets its contract. The loop's invariant: what is left, written from here, makes the whole.
-- Assumes nothing.
use mathlib.Core.Path.{◌≡◌}
use Prim.Native.Nat.{◌+◌}
use lib.ListN.{length, drop}
use lib.Seq.{sets}
use Rattle.buffer.proofs.put.Given as goal

abbrev pub invariant-loop-i : goal.invariant-loop-i
invariant-loop-i l =
    (length l.out ≡ length l.initial.out) × (sets l.initial.out l.at l.bytes ≡ sets l.out (l.at + l.i) (drop l.i l.bytes))
