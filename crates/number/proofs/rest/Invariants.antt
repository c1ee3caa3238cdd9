-- `number::rest` meets its contract. The loop's invariant: the groups passed make `value`, the rest counts `scale` times.
-- Assumes nothing.
use mathlib.Core.Path.{◌≡◌}
use Prim.Native.Nat.{◌-◌, ◌^◌, ◌<◌, ◌≤◌}
use Rattle.number.specs.Number.{read_groups}
use Rattle.number.specs.Steps.{finished}
use Rattle.number.proofs.rest.Given as goal

abbrev pub invariant-loop-groups : goal.invariant-loop-groups
invariant-loop-groups l =
    (l._groups ≤ 5) × (l.scale ≡ 128 ^ l._groups) × (l.value < l.scale)
    × (finished l.low 128 (read_groups 4 l.s l.from) ≡ finished l.value l.scale (read_groups (5 - l._groups) l.s l.at))
