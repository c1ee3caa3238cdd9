-- What a valid order is, and one in its range, part by part.
-- Assumes nothing.
use mathlib.Core.Path.{◌≡◌}
use mathlib.Core.Bool.{true}
use mathlib.Core.List.{List}
use Prim.Native.Nat.{ℕ, ◌<◌, ◌≤◌}
use lib.Dec.{ltb, leb, eqb}
use lib.ListN.{get_or}
use borrow.Author.Tests.{le-leb, ltb-true, leb-true, eqb-true}
use Rattle.laws.specs.Every.{both, within}
use Rattle.laws.proofs.Every.{both_true}
use Rattle.number.specs.Number.{largest}
use Rattle.order.specs.Order.{displays, last_display, order_in_range, valid}
use Rattle.order.specs.declared.Order.{Order}

pub valid_parts : (releases : List ℕ) (o : Order) → valid releases o ≡ true
    → (o.display < displays) × (get_or releases o.display 0 ≡ o.expected) × (o.expected < o.new)
valid_parts releases o e =
    let (known, rest) = both_true (ltb o.display displays) (both (eqb (get_or releases o.display 0) o.expected) (ltb o.expected o.new)) e in
    let (there, greater) = both_true (eqb (get_or releases o.display 0) o.expected) (ltb o.expected o.new) rest in
    (ltb-true _ _ known, eqb-true _ _ there, ltb-true _ _ greater)

-- an order in its range
pub range_parts : (o : Order) → order_in_range o ≡ true → (within 0 last_display o.display ≡ true) × (o.expected ≤ largest) × (o.new ≤ largest)
range_parts o e =
    let (known, releases) = both_true (within 0 last_display o.display) (both (leb o.expected largest) (leb o.new largest)) e in
    let (expected, new) = both_true (leb o.expected largest) (leb o.new largest) releases in
    (known, leb-true _ _ expected, leb-true _ _ new)

pub in_its_range : (o : Order) → within 0 last_display o.display ≡ true → o.expected ≤ largest → o.new ≤ largest → order_in_range o ≡ true
in_its_range o known expected new = rw (known, le-leb _ _ expected) (le-leb _ _ new)
