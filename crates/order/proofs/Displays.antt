-- Orders display by display: what all of them come to is what each display's own come to, and they are valid one after the other exactly if each
-- display's own are.
-- Assumes nothing.
use Prim.Native.Nat.{ℕ, zero, suc, ◌<◌}
use mathlib.Core.Path.{◌≡◌, refl, sym, ap, subst, ◌∙◌}
use mathlib.Core.Bool.{Bool, true, false}
use mathlib.Core.List.{List, [], ◌∷◌}
use native.Mathlib.Omega.{arith}
use lib.Dec.{ltb, eqb}
use lib.ListN.{length, get_or, set, length-set}
use borrow.Author.Tests.{eqb-true, eqb-false, eq-eqb}
use Rattle.std.specs.List.{filter}
use Rattle.laws.specs.Told.{Told, gives, unless}
use Rattle.laws.specs.Every.{both}
use Rattle.laws.proofs.Told.{gives_same, unless_gives}
use Rattle.order.specs.Order.{displays, valid, applied, obeyed}
use Rattle.order.specs.Rearranged.{on}
use Rattle.order.specs.declared.Order.{Order}
use Rattle.order.proofs.Validity.{valid_parts}

-- a display's own orders, one after the other, from its release
abbrev fine : ℕ → Order → Bool
fine release o = both (ltb o.display displays) (both (eqb release o.expected) (ltb o.expected o.new))

abbrev pub own : ℕ → List Order → Told ℕ
own release [] = gives release
own release (o ∷ rest) = unless (fine release o) 10 0 (own o.new rest)

set_here : (l : List ℕ) (at value : ℕ) → at < length l → get_or (set l at value) at 0 ≡ value
set_here [] at value h = absurd (omega arith)
set_here (x ∷ l) zero value h = refl
set_here (x ∷ l) (suc at) value h = set_here l at value (omega arith)

set_elsewhere : (l : List ℕ) (at other value : ℕ) → (at ≡ other → ⊥) → get_or (set l at value) other 0 ≡ get_or l other 0
set_elsewhere [] at other value h = refl
set_elsewhere (x ∷ l) zero zero value h = absurd (h refl)
set_elsewhere (x ∷ l) zero (suc other) value h = refl
set_elsewhere (x ∷ l) (suc at) zero value h = refl
set_elsewhere (x ∷ l) (suc at) (suc other) value h = set_elsewhere l at other value (λ e. h (ap suc e))

-- what an order that is valid leaves at each display is what one more order of that display's own leaves there
module _ (releases : List ℕ) (many : length releases ≡ displays) (o : Order) (rest : List Order) (good : valid releases o ≡ true) where
  pub one_more : (display : ℕ) → own (get_or releases display 0) (filter (on display) (o ∷ rest)) ≡ own (get_or (applied releases o) display 0) (filter (on display) rest)
  one_more display = by_test (on display o) refl
    where
      by_test : (β : Bool) → on display o ≡ β
          → own (get_or releases display 0) (filter (on display) (o ∷ rest)) ≡ own (get_or (applied releases o) display 0) (filter (on display) rest)
      by_test true is =
          let same : o.display ≡ display = eqb-true _ _ is in
          let here : get_or (applied releases o) display 0 ≡ o.new = subst (λ (d : ℕ). get_or (applied releases o) d 0 ≡ o.new) same (set_here releases o.display o.new (omega (arith, (valid_parts releases o good).0))) in
          let passes : fine (get_or releases display 0) o ≡ true = subst (λ (d : ℕ). fine (get_or releases d 0) o ≡ true) same good in
          rw (is, passes, here)
      by_test false is =
          let other = set_elsewhere releases o.display display o.new (eqb-false _ _ is) in
          rw (is, other)

pub each_display : (releases : List ℕ) (orders : List Order) (after : List ℕ) → length releases ≡ displays → obeyed releases orders ≡ gives after
    → (display : ℕ) → own (get_or releases display 0) (filter (on display) orders) ≡ gives (get_or after display 0)
each_display releases [] after many e display = ap (λ (l : List ℕ). gives (get_or l display 0)) (gives_same e)
each_display releases (o ∷ rest) after many e display =
    let (good, more) = unless_gives (valid releases o) 10 0 _ after e in
    one_more releases many o rest good display ∙ each_display (applied releases o) rest after (length-set releases o.display o.new ∙ many) more display

pub as_many : (releases : List ℕ) (orders : List Order) (after : List ℕ) → obeyed releases orders ≡ gives after → length after ≡ length releases
as_many releases [] after e = ap length (sym (gives_same e))
as_many releases (o ∷ rest) after e =
    let (good, more) = unless_gives (valid releases o) 10 0 _ after e in
    as_many (applied releases o) rest after more ∙ length-set releases o.display o.new

-- and back: orders each of whose displays' own are valid one after the other are so together
pub record Obeyed (releases : List ℕ) (orders : List Order) (at : ℕ → ℕ) : Type 0 where
  pub after : List ℕ
  pub obeys : obeyed releases orders ≡ gives after
  pub leaves : (display : ℕ) → get_or after display 0 ≡ at display

pub all_displays : (releases : List ℕ) (orders : List Order) (at : ℕ → ℕ) → length releases ≡ displays
    → ((display : ℕ) → own (get_or releases display 0) (filter (on display) orders) ≡ gives (at display)) → Obeyed releases orders at
all_displays releases [] at many each = record { after = releases; obeys = refl; leaves = λ display. gives_same (each display) }
all_displays releases (o ∷ rest) at many each =
    let good = first in
    let later =
    all_displays (applied releases o) rest at (length-set releases o.display o.new ∙ many)
    (λ display. sym (one_more releases many o rest good display) ∙ each display) in
    let goes_on : obeyed releases (o ∷ rest) ≡ obeyed (applied releases o) rest = rw good in
    record { after = later.after; obeys = goes_on ∙ later.obeys; leaves = later.leaves }
  where
    itself : on o.display o ≡ true
    itself = eq-eqb o.display o.display refl

    first : valid releases o ≡ true
    first =
        let e : unless (fine (get_or releases o.display 0) o) 10 0 (own o.new (filter (on o.display) rest)) ≡ gives (at o.display) = rw itself at (each o.display) in
        (unless_gives _ 10 0 _ _ e).0
