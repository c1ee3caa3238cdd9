-- 01, "Genesis": "In order: n, t and u as numbers, the starting release of displays 0 to 63 as 64 numbers, then n keys of 32 bytes, and nothing
-- after."
-- Assumes nothing.
use Rattle.std.specs.Prelude.{ℕ, ◌+◌, ◌-◌, ◌*◌, ◌%◌, Bool, List, ltb, leb, eqb, length}
use Rattle.laws.specs.Pick.{pick}
use Rattle.laws.specs.Told.{Told, gives, refuses, Found, found, then, unless}
use Rattle.laws.specs.Every.{both, within}
use Rattle.laws.specs.Depth.{depth_for}
use Rattle.laws.specs.Repeated.{repeated}
use Rattle.number.specs.Number.{number_at}
use Rattle.genesis.specs.declared.Genesis.{Genesis}
use Rattle.genesis.specs.declared.Head.{Head}

-- n, t and u, and the place of the releases
abbrev pub head_at : List ℕ → Told (Found Head)
head_at s =
    then (number_at s 0) λ n. then (number_at s n.next) λ t. then (number_at s t.next) λ u.
    found (record { n = n.value; t = t.value; u = u.value }) u.next

-- "n is 1 to 31"; 02, e: "Allow every n of at least 3t + 1"
abbrev pub enough : (n t : ℕ) → Bool
enough n t = both (within 1 31 n) (leb (3 * t + 1) n)

-- "u, the slots that an order stays pooled, is 1 to 64"; 02, n: it "has no effect"
abbrev pub rules : Head → Bool
rules h = both (enough h.n h.t) (within 1 64 h.u)

-- "and nothing after": what may follow the keys, which end at a place
abbrev pub ended : List ℕ → ℕ → Bool
ended s place = eqb place (length s)

-- a table by its parts, the last one where the keys begin in the bytes
abbrev pub table_with : (n t u : ℕ) (releases : List ℕ) (keys : ℕ) → Genesis
table_with n t u releases keys = record { n = n; t = t; u = u; releases = releases; keys_at = keys }

abbrev pub table_at : List ℕ → Head → Found (List ℕ) → Told Genesis
table_at s h releases =
    unless (both (rules h) (ended s (releases.next + 32 * h.n))) 1 0
    (gives (table_with h.n h.t h.u releases.value releases.next))

-- the table, or the first fault
abbrev pub table_in : List ℕ → Told Genesis
table_in s = then (head_at s) λ h. then (repeated number_at 64 s h.next) λ releases. table_at s h.value releases

-- every fault of a genesis is refusal 1
abbrev pub faulty : {A : Type 0} → Told A → Told A
faulty (gives a) = gives a
faulty (refuses number place) = refuses 1 0

unfoldable pub genesis_of : List ℕ → Told Genesis
genesis_of s = faulty (table_in s)

-- "The turn in slot j belongs to controller i with i − 1 = (j − 1) mod n." A table of no controllers has no turns
abbrev pub turn : Genesis → ℕ → ℕ
turn g slot = pick (ltb 0 g.n) ((slot - 1) % g.n + 1) 0

-- refusal 2: "now is not 1 to 256"
abbrev pub clock_fits : Genesis → ℕ → Bool
clock_fits g clock = within 1 256 clock

-- 02, e and f: a block is settled when it lies more than so many slots back; 0 for numbers that no genesis gives
abbrev pub depth_of : (n t : ℕ) → ℕ
depth_of n t = pick (enough n t) (depth_for n t) 0

abbrev pub depth : Genesis → ℕ
depth g = depth_of g.n g.t

-- the place of a controller's key in the bytes: 1, then 12
abbrev pub key_at : List ℕ → ℕ → Told ℕ
key_at s controller =
    then (genesis_of s) λ g. unless (within 1 g.n controller) 12 0 (gives (g.keys_at + 32 * (controller - 1)))
