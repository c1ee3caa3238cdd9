-- What a reader may take of orders: it matters who sent first only for one and the same display (02, h).
-- Assumes nothing.
use Prim.Native.Nat.{ℕ}
use mathlib.Core.Path.{◌≡◌, refl, sym, ap, ◌∙◌}
use mathlib.Core.List.{List, [], ◌∷◌}
use lib.ListN.{length, get_or, replicate}
use lib.Seq.{ext_get_or}
use Rattle.laws.specs.Told.{gives, refuses}
use Rattle.order.specs.Order.{displays, obeyed}
use Rattle.order.specs.Rearranged.{Rearranged}
use Rattle.order.specs.declared.Order.{Order}
use Rattle.order.proofs.Displays.{own, each_display, as_many, all_displays}

-- "orders valid one after the other, rearranged with each display's own in their sequence, stay valid throughout and end in the same releases"
pub rearranged_orders_end_in_the_same_releases : (releases : List ℕ) (orders others : List Order) (after : List ℕ) → length releases ≡ displays
    → obeyed releases orders ≡ gives after → Rearranged orders others → obeyed releases others ≡ gives after
rearranged_orders_end_in_the_same_releases releases orders others after many e rearranged =
    let done =
    all_displays releases others (λ display. get_or after display 0) many
    (λ display. ap (own (get_or releases display 0)) (sym (rearranged display)) ∙ each_display releases orders after many e display) in
    let equally-many = as_many releases others done.after done.obeys ∙ sym (as_many releases orders after e) in
    let ends : done.after ≡ after = ext_get_or 0 done.after after equally-many (λ display _. done.leaves display) in
    done.obeys ∙ ap gives ends

-- and it does matter for one display: of these two the second is not valid where it stands first
abbrev first_order : Order
first_order = record { display = 0; expected = 0; new = 1 }

abbrev second_order : Order
second_order = record { display = 0; expected = 1; new = 2 }

pub two_orders_of_one_display : obeyed (replicate 64 0) (first_order ∷ second_order ∷ []) ≡ gives (2 ∷ replicate 63 0)
two_orders_of_one_display = refl

pub are_not_valid_the_other_way_round : obeyed (replicate 64 0) (second_order ∷ first_order ∷ []) ≡ refuses 10 0
are_not_valid_the_other_way_round = refl
