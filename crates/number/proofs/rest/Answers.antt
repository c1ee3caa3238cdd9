-- `number::rest` meets its contract. The loop's invariant: the groups passed make `value`, the rest counts `scale` times.
-- Assumes nothing.
use mathlib.Core.Path.{◌∙◌, sym}
use Prim.Native.Nat.{◌%◌, ◌≤◌}
use native.Mathlib.Omega.{arith}
use native.Mathlib.Nat.{mul-le-mul_right, pow-suc}
use native.Mathlib.Numerals.{add-one}
use lib.ListN.{get_or}
use Rattle.number.proofs.Groups.{small_scale, turn_cut, turn_none, turn_last, turn_more, turns_over}
use Rattle.number.proofs.rest.Goals as goal

pub returns-then-s-at : goal.returns-then-s-at
returns-then-s-at c =
    let loop = c.loop-groups in
    sym (loop.invariant.3 ∙ turn_cut loop.value loop.scale loop._groups _ loop.at c.loop-groups-test.true c.if-s-at.true)

pub returns-then-group-eq0 : goal.returns-then-group-eq0
returns-then-group-eq0 c =
    let loop = c.loop-groups in
    sym
    (loop.invariant.3
    ∙ turn_none loop.value loop.scale loop._groups _ loop.at c.loop-groups-test.true c.if-s-at.false
    c.if-group-eq0.true)

pub overflow_mul-result : goal.overflow_mul-result
overflow_mul-result c =
    let small = small_scale _ _ c.loop-groups-test.true c.loop-groups.invariant.1 in
    omega (arith, small, mul-le-mul_right c.loop-groups.scale c.if-group-lt128.true)

pub overflow_add-result : goal.overflow_add-result
overflow_add-result c =
    let small = small_scale _ _ c.loop-groups-test.true c.loop-groups.invariant.1 in
    omega (arith, small, mul-le-mul_right c.loop-groups.scale c.if-group-lt128.true)

pub returns-then-group-lt128 : goal.returns-then-group-lt128
returns-then-group-lt128 c =
    let loop = c.loop-groups in
    sym
    (loop.invariant.3
    ∙ turn_last loop.value loop.scale loop._groups _ loop.at c.loop-groups-test.true
    c.if-s-at.false (omega arith) c.if-group-lt128.true)

pub overflow_mul-value : goal.overflow_mul-value
overflow_mul-value c =
    let small = small_scale _ _ c.loop-groups-test.true c.loop-groups.invariant.1 in
    let group-small : get_or c.args.s.now c.loop-groups.at 0 % 128 ≤ 127 = omega arith in
    omega (arith, small, mul-le-mul_right c.loop-groups.scale group-small)

pub overflow_add-value : goal.overflow_add-value
overflow_add-value c =
    let small = small_scale _ _ c.loop-groups-test.true c.loop-groups.invariant.1 in
    let group-small : get_or c.args.s.now c.loop-groups.at 0 % 128 ≤ 127 = omega arith in
    omega (arith, small, mul-le-mul_right c.loop-groups.scale group-small)

pub overflow_mul-scale : goal.overflow_mul-scale
overflow_mul-scale c =
    let small = small_scale _ _ c.loop-groups-test.true c.loop-groups.invariant.1 in
    omega (arith, small)

pub loop-groups-preserved : goal.loop-groups-preserved
loop-groups-preserved c =
    let group-small : get_or c.args.s.now c.loop-groups.at 0 % 128 ≤ 127 = omega arith in
    let loop = c.loop-groups in (
      omega arith,
      rw (add-one, pow-suc, ← loop.invariant.1),
      omega (arith, mul-le-mul_right loop.scale group-small),
      loop.invariant.3
          ∙ turn_more loop.value loop.scale loop._groups _ loop.at c.loop-groups-test.true
          c.if-s-at.false c.if-group-lt128.false,
    )

pub returns : goal.returns
returns c =
    let loop = c.loop-groups in
    sym (loop.invariant.3 ∙ turns_over loop.value loop.scale loop._groups _ loop.at c.loop-groups-test.false)
