-- One controller's pool: whatever is added to it, it never meets 18.
-- Assumes nothing.
use Prim.Native.Nat.{ℕ, ◌≤◌}
use mathlib.Core.Path.{◌≡◌, refl, sym, ap, subst}
use mathlib.Core.Bool.{true}
use mathlib.Core.List.{List, [], ◌∷◌, ◌++◌}
use native.Mathlib.Omega.{arith}
use lib.Dec.{ltb}
use lib.ListN.{length, length-append}
use borrow.Author.Tests.{lt-ltb, ltb-true, le-leb}
use Rattle.laws.specs.Told.{Told, gives, refuses}
use Rattle.laws.specs.Format.{Each}
use Rattle.laws.proofs.Told.{gives_same, then_gives, unless_gives}
use Rattle.laws.proofs.Every.{both_true, within_true, within_here}
use Rattle.laws.proofs.Fold.{those_fewer}
use Rattle.laws.proofs.Each.{each_every, each_weaker, each_append, each_those}
use Rattle.order.specs.Order.{order_in_range, valid}
use Rattle.order.specs.declared.Order.{Order}
use Rattle.chain.specs.Chain.{opened, held_chain, holding}
use Rattle.chain.specs.declared.Opened.{Opened}
use Rattle.chain.specs.declared.Summary.{Summary}
use Rattle.pool.specs.Pool.{room, depots, depot_room, entries_in, pool_of, entry_fits, entries_fit, share_of, shares_fit, pool_fits, offer_fits, counts, counting, orders_of, taking, joined, cleared, present_fits}
use Rattle.pool.specs.Answers.{pool_or}
use Rattle.pool.specs.declared.Entry.{Entry}
use Rattle.pool.specs.declared.Pool.{Pool}
use Rattle.pool.proofs.Joining.{entries_of}
use Rattle.pool.proofs.Shares.{fewer_fit, one_more_fits}
use Rattle.pool.proofs.Takings.{entry_parts, entries_parts, taken_few}
use Rattle.issue.proofs.Appended.{opened_link}
use Rattle.runs.specs.Runs.{Node, Pooling, drop, add, pools}

-- a pool that meets no 18, whatever counts of it: its entries fit, and no depot has more than its share of them all
pub record Pooled (clock : ℕ) (pool : Pool) : Type 0 where
  pub entries : entries_fit clock pool ≡ true
  pub shares : shares_fit (entries_in pool) ≡ true

pub pooled_fits : (o : Opened) (h : Summary) (pool : Pool) → Pooled o.clock.0 pool → pool_fits o h pool ≡ true
pooled_fits o h pool pooled = rw pooled.entries (fewer_fit (counts h) (entries_in pool) pooled.shares)

pub pooled_none : (clock : ℕ) (pool : Pool) → pool.count ≡ 0 → Pooled clock pool
pooled_none clock pool none = record { entries = rw none; shares = rw none }

entry_later : (clock clock' : ℕ) → clock ≤ clock' → (e : Entry) → entry_fits clock e ≡ true → entry_fits clock' e ≡ true
entry_later clock clock' h e fits =
    let (order, known, there) = entry_parts clock e fits in
    let (low, high) = within_true 1 clock e.slot.0 there in
    rw (order, lt-ltb e.depot depots known) (within_here 1 clock' e.slot.0 low (omega arith))

-- entries that fit, as a pool
of_entries : (clock : ℕ) (l : List Entry) → length l ≤ room → Each (λ e. entry_fits clock e ≡ true) l → shares_fit l ≡ true → Pooled clock (pool_of l)
of_entries clock l few fit shares = record {
  entries = rw (le-leb (length l) room few, entries_of l) (each_every (entry_fits clock) l fit);
  shares = rw (entries_of l) shares;
}

pub pooled_later : (clock clock' : ℕ) (pool : Pool) → clock ≤ clock' → Pooled clock pool → Pooled clock' pool
pooled_later clock clock' pool h pooled =
    let (few, fit) = entries_parts clock pool pooled.entries in
    record {
      entries = rw (le-leb pool.count room few) (each_every (entry_fits clock') (entries_in pool) (each_weaker (entry_later clock clock' h) (entries_in pool) fit));
      shares = pooled.shares;
    }

-- one entry more
joined_pooled : (o : Opened) (h : Summary) (counted l : List Entry) (order : Order) (depot : ℕ) (pool : Pool) → 1 ≤ o.clock.0
    → Each (λ e. entry_fits o.clock.0 e ≡ true) l → shares_fit l ≡ true → joined o h counted l order depot ≡ gives pool → Pooled o.clock.0 pool
joined_pooled o h counted l order depot pool low fit shares e =
    let new : Entry = record { order = order; slot = o.clock; depot = depot } in
    let (offer, rest) = unless_gives (offer_fits order depot) 5 0 _ pool e in
    let (ranged, known) = both_true (order_in_range order) (ltb depot depots) offer in
    let (_, rest') = unless_gives (valid (taking room h.whole.releases (orders_of counted)).releases order) 14 0 _ pool rest in
    let (own, rest'') = unless_gives (ltb (share_of depot l) depot_room) 20 0 _ pool rest' in
    let (less, is) = unless_gives (ltb (length l) room) 13 0 _ pool rest'' in
    subst (Pooled o.clock.0) (gives_same is)
    (of_entries o.clock.0 (l ++ (new ∷ []))
    (omega (arith, length-append l (new ∷ []), ltb-true (length l) room less))
    (each_append (λ e. entry_fits o.clock.0 e ≡ true) l (new ∷ []) fit
    (rw (ranged, known) (within_here 1 o.clock.0 o.clock.0 low (omega arith)), tt))
    (one_more_fits l new shares (ltb-true (share_of depot l) depot_room own)))

-- or some fewer
cleared_pooled : (o : Opened) (h : Summary) (pool after : Pool) → Pooled o.clock.0 pool → cleared o h pool ≡ gives after → Pooled o.clock.0 after
cleared_pooled o h pool after pooled e =
    let l = counting h pool in
    let (few, fit) = entries_parts o.clock.0 pool pooled.entries in
    let (_, is) = unless_gives (pool_fits o h pool) 18 0 (gives (pool_of l)) after e in
    subst (Pooled o.clock.0) (gives_same is)
    (of_entries o.clock.0 l (omega (arith, those_fewer (counts h) (entries_in pool), taken_few pool.count pool.entries, few))
    (each_those (λ e. entry_fits o.clock.0 e ≡ true) (counts h) (entries_in pool) fit) (fewer_fit (counts h) (entries_in pool) pooled.shares))

module _ (genesis : List ℕ) (clock : ℕ) (s : Node) (pooled : Pooled clock s.pool) where
  -- what a call holds is opened at the slot
  shown : (h : Opened × Summary) → holding genesis clock s.buffer s.size ≡ gives h → (1 ≤ h.0.clock.0) × (h.0.clock.0 ≡ clock)
  shown h holds =
      let (o, opens, rest) = then_gives (opened genesis clock) _ h holds in
      let (_, _, is) = then_gives (held_chain o s.buffer s.size) _ h rest in
      let (_, fits, same) = opened_link genesis clock o opens in
      let (low, _) = within_true 1 256 o.clock.0 fits in
      subst (λ (q : Opened). (1 ≤ q.clock.0) × (q.clock.0 ≡ clock)) (ap (λ (q : Opened × Summary). q.0) (gives_same is)) (low, same)

  there : (h : Opened × Summary) → holding genesis clock s.buffer s.size ≡ gives h → Pooled h.0.clock.0 s.pool
  there h holds = subst (λ (n : ℕ). Pooled n s.pool) (sym (shown h holds).1) pooled

  given_pooled : (p : Pooling) (after : Pool) → pools genesis clock s p ≡ gives after → Pooled clock after
  given_pooled drop after e =
      let (h, holds, rest) = then_gives (holding genesis clock s.buffer s.size) _ after e in
      subst (λ (n : ℕ). Pooled n after) (shown h holds).1 (cleared_pooled h.0 h.1 s.pool after (there h holds) rest)
  given_pooled (add order depot) after e =
      let (h, holds, rest) = then_gives (holding genesis clock s.buffer s.size) _ after e in
      let (_, join) = unless_gives (present_fits h.0.clock.0 s.pool) 18 0 _ after rest in
      subst (λ (n : ℕ). Pooled n after) (shown h holds).1
      (joined_pooled h.0 h.1 (counting h.1 s.pool) (entries_in s.pool) order depot after (shown h holds).0
      (entries_parts h.0.clock.0 s.pool (there h holds).entries).1 (there h holds).shares join)

  pub pooled_then : (p : Pooling) → Pooled clock (pool_or s.pool (pools genesis clock s p))
  pooled_then p = by_answer (pools genesis clock s p) refl
    where
      by_answer : (t : Told Pool) → pools genesis clock s p ≡ t → Pooled clock (pool_or s.pool t)
      by_answer (gives after) e = given_pooled p after e
      by_answer (refuses number place) e = pooled
