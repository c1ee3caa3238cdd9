-- No release falls along a chain: an order only takes effect where it raises one.
-- Assumes nothing.
use Prim.Native.Nat.{ℕ, zero, suc, ◌≤◌}
use mathlib.Core.Path.{◌≡◌, ap, subst}
use mathlib.Core.List.{List, [], ◌∷◌}
use native.Mathlib.Omega.{arith}
use lib.Dec.{ltb}
use lib.ListN.{get_or, set}
use Rattle.laws.specs.Every.{same}
use Rattle.laws.specs.Told.{gives}
use Rattle.laws.proofs.Told.{gives_same, then_gives, unless_gives}
use Rattle.order.specs.Order.{valid, applied, obeyed}
use Rattle.order.specs.declared.Order.{Order}
use Rattle.order.proofs.Validity.{valid_parts}
use Rattle.block.specs.Block.{Parts}
use Rattle.chain.specs.Blocks.{follows, followed, NoneFell}
use Rattle.chain.specs.declared.Standing.{Standing}

set_raises : (l : List ℕ) (at value : ℕ) → get_or l at 0 ≤ value → NoneFell l (set l at value)
set_raises [] at value h display = omega arith
set_raises (x ∷ l) zero value h zero = h
set_raises (x ∷ l) zero value h (suc display) = omega arith
set_raises (x ∷ l) (suc at) value h zero = omega arith
set_raises (x ∷ l) (suc at) value h (suc display) = set_raises l at value h display

pub obeyed_raises : (releases : List ℕ) (orders : List Order) (after : List ℕ) → obeyed releases orders ≡ gives after → NoneFell releases after
obeyed_raises releases [] after e display = omega (arith, ap (λ (l : List ℕ). get_or l display 0) (gives_same e))
obeyed_raises releases (order ∷ rest) after e display =
    let (fine, more) = unless_gives (valid releases order) 10 0 _ after e in
    let (_, is, greater) = valid_parts releases order fine in
    let one = set_raises releases order.display order.new (omega (arith, is)) display in
    omega (arith, obeyed_raises (applied releases order) rest after more display)

follows_raises : (s : Standing) (p : Parts) (after : Standing) → follows s p ≡ gives after → NoneFell s.releases after.releases
unfolding follows
follows_raises s p after e =
    let (_, rest) = unless_gives (ltb s.stamp.0 p.slot) 6 0 _ after e in
    let (_, rest') = unless_gives (same p.link s.link) 9 0 _ after rest in
    let (releases, obeys, is) = then_gives (obeyed s.releases p.orders) _ after rest' in
    subst (λ (q : Standing). NoneFell s.releases q.releases) (gives_same is) (obeyed_raises s.releases p.orders releases obeys)

pub followed_raises : (s : Standing) (blocks : List Parts) (after : Standing) → followed s blocks ≡ gives after → NoneFell s.releases after.releases
followed_raises s [] after e display = omega (arith, ap (λ (q : Standing). get_or q.releases display 0) (gives_same e))
followed_raises s (p ∷ rest) after e display =
    let (next, one, more) = then_gives (follows s p) _ after e in
    omega (arith, follows_raises s p next one display, followed_raises next rest after more display)
