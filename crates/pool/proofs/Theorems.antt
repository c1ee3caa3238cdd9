-- What a reader may take from this crate. 02, d: "past the earlier refusals, 20 depends only on how many of the asker's own entries count, and .. 13 can
-- no longer occur", of the call that adds, which counts all entries present. 02, i: "the first and then the second answer as the old call did, wherever
-- that did not refuse". 02, n: "a dropped entry could not have become valid later".
-- Assumes nothing.
use Prim.Native.Nat.{ℕ, ◌<◌, ◌≤◌}
use mathlib.Core.Path.{◌≡◌, sym, ap, ◌∙◌}
use mathlib.Core.Bool.{true, false}
use mathlib.Core.List.{List, [], ◌∷◌, ◌++◌}
use native.Mathlib.Omega.{arith}
use lib.Dec.{ltb}
use lib.ListN.{length, take}
use borrow.Author.Tests.{le-ltb, lt-ltb, ltb-true, le-leb}
use Rattle.std.specs.List.{filter}
use Rattle.laws.specs.Told.{Told, gives, refuses, then, unless, number_of}
use Rattle.laws.specs.Repeated.{repeated}
use Rattle.laws.proofs.Cases.{lt_cases}
use Rattle.laws.proofs.Told.{gives_not_refuses, then_gives, unless_gives}
use Rattle.laws.proofs.Each.{each_every}
use Rattle.laws.proofs.Fold.{those_fewer}
use Rattle.laws.proofs.Every.{both_true}
use Rattle.number.specs.Number.{number_at}
use Rattle.order.specs.Order.{order_in_range, valid, obeyed}
use Rattle.order.specs.declared.Order.{Order}
use Rattle.genesis.specs.Genesis.{head_at, table_at, faulty, genesis_of}
use Rattle.chain.specs.Chain.{opened, held, begun, passed, bad, held_chain, holding}
use Rattle.chain.specs.declared.Opened.{Opened}
use Rattle.chain.specs.Blocks.{followed}
use Rattle.chain.specs.declared.Standing.{Standing}
use Rattle.chain.proofs.Theorems.{no_release_falls}
use Rattle.chain.proofs.Releases.{obeyed_raises}
use Rattle.block.specs.Block.{Parts}
use Rattle.chain.specs.declared.Summary.{Summary}
use Rattle.pool.specs.Pool.{room, depots, depot_room, pool_of, counting, orders_of, share_of, taking, entries_in, entry_fits, entries_fit, shares_fit, present_fits, pool_fits, counts, offer_fits, joined, added, dropped}
use Rattle.pool.specs.Pooling.{offered}
use Rattle.pool.specs.declared.Entry.{Entry}
use Rattle.pool.specs.declared.Pool.{Pool}
use Rattle.pool.proofs.Takings.{taken_few, entries_parts, counting_fit, counting_shares}
use Rattle.pool.proofs.Joining.{entries_of, room_for_one, those_twice}

-- past the refusals that come before 20: 1, 2, 17 (the call holds `h`), 18, 5 and 14
pub record Past (genesis : List ℕ) (clock : ℕ) (buffer : List ℕ) (size : ℕ) (pool : Pool) (order : Order) (depot : ℕ) (h : Opened × Summary) : Type 0 where
  pub holds : holding genesis clock buffer size ≡ gives h
  pub fits : present_fits h.0.clock.0 pool ≡ true
  pub offer : offer_fits order depot ≡ true
  pub good : valid (taking room h.1.whole.releases (orders_of (counting h.1 pool))).releases order ≡ true

module _ (genesis : List ℕ) (clock : ℕ) (buffer : List ℕ) (size : ℕ) (pool : Pool) (order : Order) (depot : ℕ) (h : Opened × Summary)
    (past : Past genesis clock buffer size pool order depot h) where
  -- how many of the entries present are the asker's own
  abbrev own : ℕ
  own = share_of depot (entries_in pool)

  room_for_it : own < depot_room → length (entries_in pool) < room
  room_for_it less =
      let (_, known) = both_true (order_in_range order) (ltb depot depots) past.offer in
      room_for_one h.0.clock.0 pool past.fits depot (ltb-true depot depots known) less

  pub refused_with_20_if_sixteen_are_its_own : depot_room ≤ own → added genesis clock buffer size pool order depot ≡ refuses 20 0
  refused_with_20_if_sixteen_are_its_own many = rw (past.holds, past.fits, past.offer, past.good, le-ltb own depot_room many)

  pub taken_if_fewer_are : own < depot_room
      → added genesis clock buffer size pool order depot
      ≡ gives (pool_of (entries_in pool ++ (record { order = order; slot = h.0.clock; depot = depot } ∷ [])))
  taken_if_fewer_are less = rw (past.holds, past.fits, past.offer, past.good, lt-ltb own depot_room less, lt-ltb _ room (room_for_it less))

-- two pools that agree on how many entries are the asker's own, both past the earlier refusals, meet 20 alike
pub pools_alike_in_the_askers_own_meet_20_alike : (genesis : List ℕ) (clock : ℕ) (buffer : List ℕ) (size : ℕ) (pool pool' : Pool) (order : Order) (depot : ℕ)
    (h : Opened × Summary) → Past genesis clock buffer size pool order depot h → Past genesis clock buffer size pool' order depot h
    → share_of depot (entries_in pool) ≡ share_of depot (entries_in pool') → added genesis clock buffer size pool order depot ≡ refuses 20 0
    → added genesis clock buffer size pool' order depot ≡ refuses 20 0
pools_alike_in_the_askers_own_meet_20_alike genesis clock buffer size pool pool' order depot h past past' alike e =
    lt_cases (share_of depot (entries_in pool)) depot_room
    (λ less. gives_not_refuses (sym e ∙ taken_if_fewer_are genesis clock buffer size pool order depot h past less))
    (λ many. refused_with_20_if_sixteen_are_its_own genesis clock buffer size pool' order depot h past' (omega (arith, alike, many)))

-- ---- the two calls, and the one that they were
module _ (genesis : List ℕ) (clock : ℕ) (buffer : List ℕ) (size : ℕ) (pool : Pool) (order : Order) (depot : ℕ) (h : Opened × Summary)
    (holds : holding genesis clock buffer size ≡ gives h) (fits : pool_fits h.0 h.1 pool ≡ true) where
  abbrev l : List Entry
  l = counting h.1 pool

  pub dropping_leaves_what_counts : dropped genesis clock buffer size pool ≡ gives (pool_of l)
  dropping_leaves_what_counts = rw (holds, fits)

  few : length l ≤ room
  few =
      let (entries, _) = both_true (entries_fit h.0.clock.0 pool) (shares_fit l) fits in
      let some : length (entries_in pool) ≤ room = omega (arith, taken_few pool.count pool.entries, (entries_parts h.0.clock.0 pool entries).0) in
      omega (arith, those_fewer (counts h.1) (entries_in pool))

  present : present_fits h.0.clock.0 (pool_of l) ≡ true
  present =
      rw (
        le-leb (length l) room few,
        entries_of l,
        each_every (entry_fits h.0.clock.0) l (counting_fit h.0 h.1 pool fits),
        counting_shares h.0 h.1 pool fits,
      )

  counted : counting h.1 (pool_of l) ≡ l
  counted = ap (filter (counts h.1)) (entries_of l) ∙ those_twice (counts h.1) (entries_in pool)

  -- refusals past 18 too
  pub and_then_adding_answers_as_pooling_did : added genesis clock buffer size (pool_of l) order depot ≡ offered genesis clock buffer size pool order depot
  and_then_adding_answers_as_pooling_did = rw (holds, present, fits, counted, entries_of l)

pub drop_and_then_add_answer_as_pooling_did : (genesis : List ℕ) (clock : ℕ) (buffer : List ℕ) (size : ℕ) (pool : Pool) (order : Order) (depot : ℕ) (after : Pool)
    → offered genesis clock buffer size pool order depot ≡ gives after
    → (cleared-pool : Pool) × (dropped genesis clock buffer size pool ≡ gives cleared-pool) × (added genesis clock buffer size cleared-pool order depot ≡ gives after)
drop_and_then_add_answer_as_pooling_did genesis clock buffer size pool order depot after e =
    let (h, holds, rest) = then_gives (holding genesis clock buffer size) _ after e in
    let (fits, _) = unless_gives (pool_fits h.0 h.1 pool) 18 0 _ after rest in (
      pool_of (counting h.1 pool),
      dropping_leaves_what_counts genesis clock buffer size pool order depot h holds fits,
      and_then_adding_answers_as_pooling_did genesis clock buffer size pool order depot h holds fits ∙ e,
    )

-- ---- 02, n: "a dropped entry could not have become valid later in any chain that extends the settled blocks": neither behind blocks that follow them,
-- nor behind some orders of the next block. It was dropped since it no longer counts
pub a_dropped_entry_is_never_valid_again : (s : Summary) (e : Entry) → counts s e ≡ false
    → (blocks : List Parts) (after : Standing) → followed s.settled blocks ≡ gives after
    → (orders : List Order) (releases : List ℕ) → obeyed after.releases orders ≡ gives releases
    → valid releases e.order ≡ false
a_dropped_entry_is_never_valid_again s e stopped blocks after extends orders releases further =
    grind (arith, no_release_falls s.settled blocks after extends e.order.display, obeyed_raises after.releases orders releases further e.order.display)

-- ---- 13 can no longer occur
abbrev Never : {A : Type 0} → Told A → Type 0
Never t = number_of t ≡ 13 → ⊥

never_faulty : {A : Type 0} (t : Told A) → Never (faulty t)
never_faulty (gives a) e = absurd (omega arith)
never_faulty (refuses number place) e = absurd (omega arith)

never_bad : {A : Type 0} (t : Told A) → Never (bad t)
never_bad (gives a) e = absurd (omega arith)
never_bad (refuses number place) e = absurd (omega arith)

-- what every call begins with is refused with 1, 2 or 17
never_genesis : (genesis : List ℕ) → Never (genesis_of genesis)
unfolding genesis_of
never_genesis genesis =
    never_faulty (then (head_at genesis) λ h. then (repeated number_at 64 genesis h.next) λ releases. table_at genesis h.value releases)

never_opened : (genesis : List ℕ) (clock : ℕ) → Never (opened genesis clock)
never_opened genesis clock e = grind (arith, never_genesis genesis)

never_held : (o : Opened) (buffer : List ℕ) (size : ℕ) → Never (held_chain o buffer size)
unfolding held_chain
never_held o buffer size e = grind (arith, never_bad (passed o held (take size buffer) (begun o)))

never_holding : (genesis : List ℕ) (clock : ℕ) (buffer : List ℕ) (size : ℕ) → Never (holding genesis clock buffer size)
never_holding genesis clock buffer size e = grind (arith, never_opened genesis clock, λ (o : Opened). never_held o buffer size)

module _ (genesis : List ℕ) (clock : ℕ) (buffer : List ℕ) (size : ℕ) (pool : Pool) (order : Order) (depot : ℕ) where
  -- a depot with room in its share has room in the pool
  never_joined : (h : Opened × Summary) → present_fits h.0.clock.0 pool ≡ true → Never (joined h.0 h.1 (counting h.1 pool) (entries_in pool) order depot)
  never_joined h fits e = grind (arith, room_for_one h.0.clock.0 pool fits depot)

  never_added : (t : Told (Opened × Summary)) → Never t
      → Never (then t λ h. unless (present_fits h.0.clock.0 pool) 18 0 (joined h.0 h.1 (counting h.1 pool) (entries_in pool) order depot))
  never_added (gives h) never = λ e. grind (arith, never_joined h)
  never_added (refuses number place) never = never

  pub thirteen_never_occurs : number_of (added genesis clock buffer size pool order depot) ≡ 13 → ⊥
  thirteen_never_occurs = never_added (holding genesis clock buffer size) (never_holding genesis clock buffer size)
