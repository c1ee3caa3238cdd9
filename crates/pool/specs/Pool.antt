-- 01, "Pool an order": "The pool is up to 64 entries, each an order and its entry slot." 02, d: "Each entry carries its depot, 0 to 3".
-- Assumes nothing.
use Rattle.std.specs.Prelude.{ℕ, zero, suc, Bool, true, List, [], ◌∷◌, ◌++◌, ◌+◌, map, ltb, leb, eqb, length, take, get_or, set}
use Rattle.std.specs.List.{filter, fold, list_all}
use Rattle.laws.specs.Pick.{pick}
use Rattle.laws.specs.Told.{Told, gives, then, unless}
use Rattle.laws.specs.Every.{both, within}
use Rattle.laws.specs.Tabulate.{tailed}
use Rattle.order.specs.Order.{order_in_range, valid, applied}
use Rattle.order.specs.declared.Order.{Order}
use Rattle.chain.specs.Chain.{holding}
use Rattle.chain.specs.declared.Opened.{Opened}
use Rattle.chain.specs.declared.Summary.{Summary}
use Rattle.pool.specs.declared.Entry.{Entry}
use Rattle.pool.specs.declared.Pool.{Pool}

abbrev pub room : ℕ
room = 64

abbrev pub depots : ℕ
depots = 4

-- "a depot may have at most 16 counting entries"; where an order is added, of all that are present (02, i)
abbrev pub depot_room : ℕ
depot_room = 16

abbrev pub no_entry : Entry
no_entry = record { order = record { display = 0; expected = 0; new = 0 }; slot = record { 0 = 0 }; depot = 0 }

-- a pool's entries, and the pool of entries: "places past the count hold zeros"
abbrev pub entries_in : Pool → List Entry
entries_in p = take p.count p.entries

abbrev pub pool_of : List Entry → Pool
pool_of l = record { count = length l; entries = tailed room no_entry l }

-- a pool, and an entry behind those within its count
abbrev pub pushed : Pool → Entry → Pool
pushed p e = record { count = p.count + 1; entries = set p.entries p.count e }

-- 18: "count above 64, or within the count an entry with a display above 63, slot 0 or slot above now"; 02, b: or "a release above the largest"; d: or
-- "a depot above 3"
abbrev pub entry_fits : ℕ → Entry → Bool
entry_fits clock e = both (order_in_range e.order) (both (ltb e.depot depots) (within 1 clock e.slot.0))

abbrev pub entries_fit : ℕ → Pool → Bool
entries_fit clock p = both (leb p.count room) (list_all (entry_fits clock) (entries_in p))

-- how many of some entries are a depot's
abbrev pub is_of : ℕ → Entry → Bool
is_of depot e = eqb e.depot depot

abbrev pub share_of : ℕ → List Entry → ℕ
share_of depot entries = length (filter (is_of depot) entries)

-- none of the first depots has more than its share
abbrev pub shares_below : ℕ → List Entry → Bool
shares_below zero entries = true
shares_below (suc depot) entries = both (shares_below depot entries) (leb (share_of depot entries) depot_room)

abbrev pub shares_fit : List Entry → Bool
shares_fit entries = shares_below depots entries

-- 02, n: "An entry now stops counting when its display's settled release is above the release that it expects, and not before"
abbrev pub counts : Summary → Entry → Bool
counts held e = leb (get_or held.settled.releases e.order.display 0) e.order.expected

abbrev pub counting : Summary → Pool → List Entry
counting held p = filter (counts held) (entries_in p)

-- 18, as a whole; 02, d: or "more than 16 counting entries of one depot"
abbrev pub pool_fits : Opened → Summary → Pool → Bool
pool_fits o held p = both (entries_fit o.clock.0 p) (shares_fit (counting held p))

abbrev pub orders_of : List Entry → List Order
orders_of entries = map (λ e. e.order) entries

-- orders that were taken, and the releases after them
pub record Taking : Type 0 where
  pub orders : List Order
  pub releases : List ℕ

-- "take each that is valid at that point, until" so many "are taken"
abbrev pub take_one : ℕ → Taking → Order → Taking
take_one limit t o =
    pick (both (ltb (length t.orders) limit) (valid t.releases o))
    (record { orders = t.orders ++ (o ∷ []); releases = applied t.releases o }) t

unfoldable pub taking : ℕ → List ℕ → List Order → Taking
taking limit releases orders = fold (take_one limit) (record { orders = []; releases = releases }) orders

-- an order and a depot that may be offered
abbrev pub offer_fits : Order → ℕ → Bool
offer_fits order depot = both (order_in_range order) (ltb depot depots)

-- the pool after an order is added: 5, 14, 20, 13. It is judged behind those that count, and it needs room beside all that are present
abbrev pub joined : Opened → Summary → (counted present : List Entry) → Order → (depot : ℕ) → Told Pool
joined o held counted present order depot =
    unless (offer_fits order depot) 5 0
    (unless (valid (taking room held.whole.releases (orders_of counted)).releases order) 14 0
    (unless (ltb (share_of depot present) depot_room) 20 0
    (unless (ltb (length present) room) 13 0
    (gives (pool_of (present ++ (record { order = order; slot = o.clock; depot = depot } ∷ [])))))))

-- "its full-pool and depot checks are over all entries present": 18 of the call that adds
abbrev pub present_fits : ℕ → Pool → Bool
present_fits clock p = both (entries_fit clock p) (shares_fit (entries_in p))

-- 02, i: "the other only adds an order"; 1, 2, 17, 18, 5, 14, 20, 13
abbrev pub added : (genesis : List ℕ) (clock : ℕ) (held : List ℕ) (size : ℕ) → Pool → Order → (depot : ℕ) → Told Pool
added genesis clock held size pool order depot =
    then (holding genesis clock held size) λ h.
    unless (present_fits h.0.clock.0 pool) 18 0 (joined h.0 h.1 (counting h.1 pool) (entries_in pool) order depot)

-- "one call drops the entries that no longer count": 18
abbrev pub cleared : Opened → Summary → Pool → Told Pool
cleared o held p = unless (pool_fits o held p) 18 0 (gives (pool_of (counting held p)))

-- 1, 2, 17, 18
abbrev pub dropped : (genesis : List ℕ) (clock : ℕ) (held : List ℕ) (size : ℕ) → Pool → Told Pool
dropped genesis clock held size pool = then (holding genesis clock held size) λ h. cleared h.0 h.1 pool
