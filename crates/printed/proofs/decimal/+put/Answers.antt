-- `printed::decimal::put` meets its contract: there is room for the higher digits, and behind these for the lowest.
-- Assumes nothing.
use Prim.Native.Nat.{ℕ, ◌/◌, ◌%◌, ◌^◌, ◌<◌, ◌≤◌}
use mathlib.Core.Path.{sym, ap}
use mathlib.Core.List.{List, [], ◌∷◌, ◌++◌}
use native.Mathlib.Omega.{arith}
use lib.ListN.{length}
use Rattle.laws.specs.Placed.{Room}
use Rattle.laws.proofs.Placed.{room_same, room_first, room_then, wrote_same, wrote_then}
use Rattle.printed.specs.Decimal.{digit, decimal}
use Rattle.printed.proofs.Decimals.{decimal_one, decimal_more, wrote_one}
use Rattle.printed.proofs.decimal.+put.Goals as goal

-- room for the higher digits, and then for the lowest
room : (out : List ℕ) (at value : ℕ) → 10 ≤ value → value < 10 ^ 20 → Room out at (decimal value) → Room out at (decimal (value / 10) ++ (digit (value % 10) ∷ []))
room out at value many small enough = room_same (decimal_more value many small) enough

pub bounds-out-at : goal.bounds-out-at
bounds-out-at t c = omega (arith, c.requires.enough, ap length (decimal_one c.args.value c.if-value-lt10.true))

pub returns-then-value-lt10 : goal.returns-then-value-lt10
returns-then-value-lt10 t c =
    let a = c.args in
    wrote_same (sym (decimal_one a.value c.if-value-lt10.true)) (wrote_one a.out.now a.at (digit a.value))

pub put-last-requires : goal.put-last-requires
put-last-requires t c =
    let a = c.args in
    let v = a.value in
    let small : v < 10 ^ 20 = omega arith in
    (omega arith, room_first (decimal (v / 10)) (digit (v % 10) ∷ []) (room a.out.now a.at v c.if-value-lt10.false small c.requires))

-- room for the lowest digit behind the others
pub bounds-out-last : goal.bounds-out-last
bounds-out-last t c =
    let a = c.args in
    let v = a.value in
    let small : v < 10 ^ 20 = omega arith in
    let last = room_then (decimal (v / 10)) (digit (v % 10) ∷ []) c.put-last.ensures (room a.out.now a.at v c.if-value-lt10.false small c.requires) in
    omega (arith, last.enough)

pub overflow_add-result-2 : goal.overflow_add-result-2
overflow_add-result-2 t c =
    let a = c.args in
    let v = a.value in
    let small : v < 10 ^ 20 = omega arith in
    let last = room_then (decimal (v / 10)) (digit (v % 10) ∷ []) c.put-last.ensures (room a.out.now a.at v c.if-value-lt10.false small c.requires) in
    omega (arith, last.enough)

pub returns : goal.returns
returns t c =
    let v = c.args.value in
    let small : v < 10 ^ 20 = omega (arith, c.ranges.value) in
    wrote_same (sym (decimal_more v c.if-value-lt10.false small))
    (wrote_then (decimal (v / 10)) (digit (v % 10) ∷ []) c.put-last.ensures (wrote_one c.put-last.new.out c.put-last.result (digit (v % 10))))
