-- 02, h: orders "rearranged with each display's own in their sequence".
-- Assumes nothing.
use Rattle.std.specs.Prelude.{ℕ, ◌≡◌, Bool, List, eqb}
use Rattle.std.specs.List.{filter}
use Rattle.order.specs.declared.Order.{Order}

abbrev pub on : ℕ → Order → Bool
on display o = eqb o.display display

-- for every display the two lists have the same orders of that display, in the same sequence
abbrev pub Rearranged : List Order → List Order → Type 0
Rearranged xs ys = (display : ℕ) → filter (on display) xs ≡ filter (on display) ys
