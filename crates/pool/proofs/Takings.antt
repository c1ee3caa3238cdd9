-- What is taken of orders: no more than asked for, each valid where it stands, and in its range if the pool fits.
-- Assumes nothing.
use mathlib.Core.Path.{◌≡◌, refl}
use mathlib.Core.Bool.{Bool, true, false}
use mathlib.Core.List.{List, [], ◌∷◌, ◌++◌}
use Prim.Native.Nat.{ℕ, ◌<◌, ◌≤◌, zero-le}
use native.Mathlib.Omega.{arith}
use lib.Dec.{ltb, leb}
use lib.ListN.{length, length-append, take}
use Rattle.std.proofs.lemmas.List.{length-take}
use borrow.Author.Tests.{ltb-true, leb-true}
use Rattle.std.specs.List.{fold, list_all}
use Rattle.laws.specs.Pick.{pick}
use Rattle.laws.specs.Told.{gives, then}
use Rattle.laws.specs.Every.{both, within}
use Rattle.laws.specs.Format.{Each}
use Rattle.laws.proofs.Every.{both_true}
use Rattle.laws.proofs.Each.{each_append, each_weaker, each_those, every_each}
use Rattle.order.specs.Order.{order_in_range, valid, applied, obeyed}
use Rattle.order.specs.declared.Order.{Order}
use Rattle.chain.specs.declared.Opened.{Opened}
use Rattle.chain.specs.declared.Summary.{Summary}
use Rattle.pool.specs.Pool.{room, depots, entries_in, entry_fits, entries_fit, shares_fit, present_fits, pool_fits, counts, counting, orders_of, Taking, take_one, taking}
use Rattle.pool.specs.declared.Entry.{Entry}
use Rattle.pool.specs.declared.Pool.{Pool}

-- orders that are valid one after the other, and then more of them
pub obeyed_append : (releases : List ℕ) (xs ys : List Order) → obeyed releases (xs ++ ys) ≡ then (obeyed releases xs) λ after. obeyed after ys
obeyed_append releases [] ys = refl
obeyed_append releases (x ∷ xs) ys = grind (arith, obeyed_append (applied releases x) xs ys)

-- what is kept with each order that is taken
pub record Fine (limit : ℕ) (releases : List ℕ) (t : Taking) : Type 0 where
  pub few : length t.orders ≤ limit
  pub obeys : obeyed releases t.orders ≡ gives t.releases

module _ (limit : ℕ) (releases : List ℕ) where
  fine_one : (t : Taking) (o : Order) → Fine limit releases t → Fine limit releases (take_one limit t o)
  fine_one t o fine = record {
    few = grind (arith, fine.few, length-append);
    obeys = grind (arith, fine.obeys, obeyed_append releases t.orders (o ∷ []));
  }

  fine_all : (orders : List Order) (t : Taking) → Fine limit releases t → Fine limit releases (fold (take_one limit) t orders)
  fine_all [] t fine = fine
  fine_all (o ∷ rest) t fine = fine_all rest (take_one limit t o) (fine_one t o fine)

  pub taking_fine : (orders : List Order) → Fine limit releases (taking limit releases orders)
  unfolding taking
  taking_fine orders = fine_all orders (record { orders = []; releases = releases }) (record { few = zero-le; obeys = refl })

-- what holds of all of them holds of those that are taken
module _ (P : Order → Type 0) (limit : ℕ) where
  each_taken : (orders : List Order) (t : Taking) → Each P orders → Each P t.orders → Each P (fold (take_one limit) t orders).orders
  each_taken [] t each so_far = so_far
  each_taken (o ∷ rest) t (here, more) so_far =
      each_taken rest (take_one limit t o) more (by_test (both (ltb (length t.orders) limit) (valid t.releases o)))
    where
      by_test : (β : Bool) → Each P (pick β (record { orders = t.orders ++ (o ∷ []); releases = applied t.releases o }) t).orders
      by_test true = each_append P t.orders (o ∷ []) so_far (here, tt)
      by_test false = so_far

  pub taking_each : (releases : List ℕ) (orders : List Order) → Each P orders → Each P (taking limit releases orders).orders
  unfolding taking
  taking_each releases orders each = each_taken orders (record { orders = []; releases = releases }) each tt

-- what an entry that fits is
pub entry_parts : (clock : ℕ) (e : Entry) → entry_fits clock e ≡ true
    → (order_in_range e.order ≡ true) × (e.depot < depots) × (within 1 clock e.slot.0 ≡ true)
entry_parts clock e fits =
    let (order, rest) = both_true (order_in_range e.order) (both (ltb e.depot depots) (within 1 clock e.slot.0)) fits in
    let (known, slot) = both_true (ltb e.depot depots) (within 1 clock e.slot.0) rest in
    (order, ltb-true e.depot depots known, slot)

-- the orders of a pool that fits are in their range, and so are those of the entries that count
each_orders : (l : List Entry) → Each (λ e. order_in_range e.order ≡ true) l → Each (λ o. order_in_range o ≡ true) (orders_of l)
each_orders [] each = tt
each_orders (e ∷ l) (here, rest) = (here, each_orders l rest)

pub taken_few : {A : Type 0} (n : ℕ) (l : List A) → length (take n l) ≤ n
taken_few n l = omega (arith, length-take n l)

pub entries_parts : (clock : ℕ) (p : Pool) → entries_fit clock p ≡ true → (p.count ≤ room) × Each (λ e. entry_fits clock e ≡ true) (entries_in p)
entries_parts clock p fits =
    let (few, all) = both_true (leb p.count room) (list_all (entry_fits clock) (entries_in p)) fits in
    (leb-true p.count room few, every_each (entry_fits clock) (entries_in p) all)

-- of a pool to which an order may be added
module _ (clock : ℕ) (p : Pool) (fits : present_fits clock p ≡ true) where
  pub present_known : Each (λ e. e.depot < depots) (entries_in p)
  present_known =
      let (entries, _) = both_true (entries_fit clock p) (shares_fit (entries_in p)) fits in
      each_weaker (λ e fine. (entry_parts clock e fine).1) (entries_in p) (entries_parts clock p entries).1

  pub present_shares : shares_fit (entries_in p) ≡ true
  present_shares = (both_true (entries_fit clock p) (shares_fit (entries_in p)) fits).1

module _ (o : Opened) (held : Summary) (p : Pool) (fits : pool_fits o held p ≡ true) where
  pub counting_fit : Each (λ e. entry_fits o.clock.0 e ≡ true) (counting held p)
  counting_fit =
      let (entries, _) = both_true (entries_fit o.clock.0 p) (shares_fit (counting held p)) fits in
      each_those (λ e. entry_fits o.clock.0 e ≡ true) (counts held) (entries_in p) (entries_parts o.clock.0 p entries).1

  pub counting_in_range : Each (λ order. order_in_range order ≡ true) (orders_of (counting held p))
  counting_in_range = each_orders (counting held p) (each_weaker (λ e fine. (entry_parts o.clock.0 e fine).0) (counting held p) counting_fit)

  pub counting_shares : shares_fit (counting held p) ≡ true
  counting_shares = (both_true (entries_fit o.clock.0 p) (shares_fit (counting held p)) fits).1
