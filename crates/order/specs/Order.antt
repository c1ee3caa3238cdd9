-- 01, "Orders, blocks, chains": "An order names a display (0 to 63), the release it expects there and the new release."
-- Assumes nothing.
use Rattle.std.specs.Prelude.{ℕ, ◌-◌, Bool, List, [], ◌∷◌, ltb, leb, eqb, get_or, set}
use Rattle.laws.specs.Pick.{pick}
use Rattle.laws.specs.Told.{Told, gives, unless}
use Rattle.laws.specs.Every.{both, within}
use Rattle.number.specs.Number.{largest}
use Rattle.order.specs.declared.Order.{Order}

abbrev pub displays : ℕ
displays = 64

abbrev pub last_display : ℕ
last_display = displays - 1

-- what is 5 in an offer or a block to be written and 18 in the pool, if it does not hold: a display above 63, "a release above the largest"
abbrev pub order_in_range : Order → Bool
order_in_range o = both (within 0 last_display o.display) (both (leb o.expected largest) (leb o.new largest))

-- "valid at a state exactly if the display's release equals the expected one and the new one is greater"
abbrev pub valid : List ℕ → Order → Bool
valid releases o =
    both (ltb o.display displays)
    (both (eqb (get_or releases o.display 0) o.expected) (ltb o.expected o.new))

-- "A valid order puts the new release there; no other display changes."
abbrev pub applied : List ℕ → Order → List ℕ
applied releases o = set releases o.display o.new

-- an order that is not valid where it stands changes nothing
abbrev pub taken : List ℕ → Order → List ℕ
taken releases o = pick (valid releases o) (applied releases o) releases

-- the releases after orders that are valid one after the other, or 10
abbrev pub obeyed : List ℕ → List Order → Told (List ℕ)
obeyed releases [] = gives releases
obeyed releases (o ∷ rest) = unless (valid releases o) 10 0 (obeyed (applied releases o) rest)
