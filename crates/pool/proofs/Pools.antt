-- What the loops over a pool keep: the entries that count so far, and the orders taken so far, each with zeros behind them.
-- Assumes nothing.
use Prim.Native.Nat.{ℕ, ◌+◌, ◌<◌, ◌≤◌}
use mathlib.Core.Path.{◌≡◌, refl, sym, ap, ◌∙◌}
use mathlib.Core.Bool.{Bool}
use mathlib.Core.List.{List, [], ◌∷◌, ◌++◌, append-nil}
use native.Mathlib.Omega.{arith}
use lib.Dec.{ltb}
use lib.ListN.{length, take, get_or, set, replicate, length-append}
use Rattle.std.specs.List.{filter, fold}
use Rattle.std.proofs.lemmas.List.{map_more, length-map}
use Rattle.std.proofs.lemmas.List.Elements.{filter_more}
use Rattle.laws.specs.Pick.{pick}
use Rattle.laws.specs.Every.{both}
use Rattle.laws.proofs.Fold.{folded_append, those_fewer, tailed_add}
use Rattle.order.specs.Order.{valid, applied}
use Rattle.order.specs.declared.Order.{Order}
use Rattle.pool.specs.Pool.{room, no_entry, pool_of, pushed, orders_of, Taking, take_one, taking}
use Rattle.pool.specs.Answers.{taken_of}
use Rattle.pool.specs.declared.Entry.{Entry}
use Rattle.pool.specs.declared.Taken.{Taken}
use Rattle.pool.proofs.Takings.{taken_few}

-- an entry behind those of a pool
pub pool_add : (l : List Entry) (e : Entry) → length l < room → pushed (pool_of l) e ≡ pool_of (l ++ (e ∷ []))
pool_add l e less =
    λ i. record { count = sym (length-append l (e ∷ [])) i; entries = tailed_add room no_entry l e less i }

-- the entries that pass so far are no more than those looked at, and one more of them is one more pushed
module _ (test : Entry → Bool) (l : List Entry) (i : ℕ) where
  pub kept_few : length (filter test (take i l)) ≤ i
  kept_few = omega (arith, those_fewer test (take i l), taken_few i l)

  pub kept_more : i < length l → length l ≤ room
      → pool_of (filter test (take (i + 1) l))
      ≡ pick (test (get_or l i no_entry)) (pushed (pool_of (filter test (take i l))) (get_or l i no_entry)) (pool_of (filter test (take i l)))
  kept_more more long =
      grind (arith, filter_more test l i no_entry more, pool_add (filter test (take i l)) (get_or l i no_entry), kept_few, append-nil)

-- ---- the orders that are taken
-- one more order after some are taken
abbrev pub one_taken : ℕ → Taken → Order → Taken
one_taken limit t o =
    pick (both (ltb t.count limit) (valid t.releases o))
    (record { count = t.count + 1; orders = set t.orders t.count o; releases = applied t.releases o }) t

module _ (limit : ℕ) (t : Taking) (o : Order) where
  abbrev with_it : Taking
  with_it = record { orders = t.orders ++ (o ∷ []); releases = applied t.releases o }

  one_few : length (take_one limit t o).orders ≤ length t.orders + 1
  one_few = grind (arith, length-append)

  taken_add : length t.orders < room → taken_of (take_one limit t o) ≡ one_taken limit (taken_of t) o
  taken_add less = grind (arith, length-append, tailed_add room no_entry.order t.orders o)

all_few : (limit : ℕ) (t : Taking) (orders : List Order) → length (fold (take_one limit) t orders).orders ≤ length t.orders + length orders
all_few limit t [] = omega arith
all_few limit t (o ∷ rest) = omega (arith, one_few limit t o, all_few limit (take_one limit t o) rest)

module _ (limit : ℕ) (releases : List ℕ) where
  abbrev start : Taking
  start = record { orders = []; releases = releases }

  pub none_taken : taken_of (taking limit releases []) ≡ record { count = 0; orders = replicate room no_entry.order; releases = releases }
  unfolding taking
  none_taken = refl

  module _ (l : List Entry) (i : ℕ) where
    pub few_taken : length (taking limit releases (orders_of (take i l))).orders ≤ i
    unfolding taking
    few_taken = omega (arith, all_few limit start (orders_of (take i l)), length-map (take i l) (λ (e : Entry). e.order), taken_few i l)

    pub more_taken : i < length l → length l ≤ room
        → taken_of (taking limit releases (orders_of (take (i + 1) l)))
        ≡ one_taken limit (taken_of (taking limit releases (orders_of (take i l)))) (get_or l i no_entry).order
    unfolding taking
    more_taken more long =
        let order = (get_or l i no_entry).order in
        let before = fold (take_one limit) start (orders_of (take i l)) in
        let one : fold (take_one limit) start (orders_of (take (i + 1) l)) ≡ take_one limit before order =
        rw (map_more (λ (e : Entry). e.order) l i no_entry more) (folded_append (take_one limit) start (orders_of (take i l)) (order ∷ [])) in
        ap taken_of one ∙ taken_add limit before order (omega (arith, few_taken))
