-- `number::put` meets its contract. The loop's invariant: what is left to write, written from here, makes the whole.
-- Assumes nothing.
use mathlib.Core.Path.{refl, ◌∙◌, sym}
use Prim.Native.Nat.{◌+◌, ◌/◌, ◌≤◌}
use native.Mathlib.Omega.{arith}
use lib.ListN.{length, length-set}
use Rattle.number.specs.Number.{written}
use Rattle.number.proofs.Written.{longer, shortest, sets_last, sets_more}
use Rattle.number.proofs.put.Goals as goal

pub bounds-out-place : goal.bounds-out-place
bounds-out-place c =
    let one_more : c.loop-left.place + 1 + length (written (c.loop-left.left / 128)) ≤ length c.loop-left.out = (let loop = c.loop-left in
    omega (arith, longer loop.left (length (written (loop.left / 128))) c.loop-left-test.true loop.invariant.0 refl)) in
    omega (arith, one_more)

pub loop-left-preserved : goal.loop-left-preserved
loop-left-preserved c =
    let one_more : c.loop-left.place + 1 + length (written (c.loop-left.left / 128)) ≤ length c.loop-left.out = (let loop = c.loop-left in
    omega (arith, longer loop.left (length (written (loop.left / 128))) c.loop-left-test.true loop.invariant.0 refl)) in
    let loop = c.loop-left in (
      omega arith,
      simp length-set loop.invariant.1,
      simp length-set one_more,
      loop.invariant.3 ∙ sets_more loop.out loop.place loop.left c.loop-left-test.true loop.invariant.0,
    )

pub bounds-out-place-2 : goal.bounds-out-place-2
bounds-out-place-2 c = omega (arith, shortest c.loop-left.left c.loop-left-test.false)

pub returns : goal.returns
returns c =
    let loop = c.loop-left in
    sym (loop.invariant.3 ∙ sets_last loop.out loop.place loop.left c.loop-left-test.false)
