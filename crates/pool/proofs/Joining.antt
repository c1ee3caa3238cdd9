-- An order behind the entries that are present.
-- Assumes nothing.
use Prim.Native.Nat.{ℕ, ◌<◌}
use mathlib.Core.Path.{◌≡◌, refl}
use mathlib.Core.Bool.{Bool, true}
use native.Mathlib.Omega.{arith}
use mathlib.Core.List.{List, [], ◌∷◌}
use lib.ListN.{length}
use lib.Seq.{take-append_seam}
use borrow.Author.Tests.{lt-ltb}
use Rattle.std.specs.List.{filter}
use Rattle.laws.specs.Told.{gives}
use Rattle.order.specs.Order.{order_in_range, valid}
use Rattle.order.specs.declared.Order.{Order}
use Rattle.chain.specs.declared.Opened.{Opened}
use Rattle.chain.specs.declared.Summary.{Summary}
use Rattle.pool.specs.Pool.{room, depots, depot_room, entries_in, pool_of, pushed, orders_of, share_of, taking, joined, present_fits}
use Rattle.pool.specs.declared.Entry.{Entry}
use Rattle.pool.specs.declared.Pool.{Pool}
use Rattle.pool.proofs.Pools.{pool_add}
use Rattle.pool.proofs.Shares.{room_left}
use Rattle.pool.proofs.Takings.{present_known, present_shares}

-- a pool of entries holds these
pub entries_of : (l : List Entry) → entries_in (pool_of l) ≡ l
entries_of l = take-append_seam l _

-- what passed a test passes it again
pub those_twice : {A : Type 0} (test : A → Bool) (l : List A) → filter test (filter test l) ≡ filter test l
those_twice test [] = refl
those_twice test (a ∷ l) = grind (arith, those_twice test l)

-- a depot with room in its share has room in the pool
module _ (clock : ℕ) (p : Pool) (fits : present_fits clock p ≡ true) where
  pub room_for_one : (depot : ℕ) → depot < depots → share_of depot (entries_in p) < depot_room → length (entries_in p) < room
  room_for_one depot known less = room_left (entries_in p) depot (present_known clock p fits) (present_shares clock p fits) known less

  pub joins : (o : Opened) (held : Summary) (counted : List Entry) (order : Order) (depot : ℕ) → order_in_range order ≡ true → depot < depots
      → valid (taking room held.whole.releases (orders_of counted)).releases order ≡ true → share_of depot (entries_in p) < depot_room
      → joined o held counted (entries_in p) order depot
      ≡ gives (pushed (pool_of (entries_in p)) (record { order = order; slot = o.clock; depot = depot }))
  joins o held counted order depot inside known fine less =
      let few = room_for_one depot known less in
      rw (inside, lt-ltb depot depots known, fine, lt-ltb _ depot_room less, lt-ltb _ room few, pool_add (entries_in p) (record { order = order; slot = o.clock; depot = depot }) few)
