-- Blocks that follow one another: what each adds, and what they add together.
-- Assumes nothing.
use Prim.Native.Nat.{ℕ, ◌+◌, ◌<◌, ◌≤◌}
use mathlib.Core.Path.{◌≡◌, refl, sym, ap, ◌∙◌, subst}
use mathlib.Core.List.{List, [], ◌∷◌, ◌++◌}
use native.Mathlib.Omega.{arith}
use lib.Dec.{T, ltb}
use lib.ListN.{length, length-append}
use borrow.Author.Tests.{ltb-true}
use Rattle.laws.specs.Told.{Told, gives, refuses, then}
use Rattle.laws.specs.Every.{same}
use Rattle.laws.specs.Format.{Each}
use Rattle.laws.proofs.Told.{gives_same, then_gives, unless_gives}
use Rattle.laws.proofs.Every.{same_is, within_true}
use Rattle.block.specs.Block.{Parts, block_bytes, Fits}
use Rattle.order.specs.Order.{obeyed}
use Rattle.chain.specs.Chain.{link_of}
use Rattle.chain.specs.declared.Standing.{Standing}
use Rattle.chain.specs.Blocks.{chain_bytes, follows, followed, Rising, Below, last_stamp}

-- what one block adds
pub record Added (before : Standing) (p : Parts) (after : Standing) : Type 0 where
  pub later : before.stamp.0 < p.slot
  pub linked : p.link ≡ before.link
  pub obeys : obeyed before.releases p.orders ≡ gives after.releases
  pub count : after.count.0 ≡ before.count.0 + 1
  pub size : after.length ≡ before.length + length (block_bytes p)
  pub stamp : after.stamp.0 ≡ p.slot
  pub link : after.link ≡ link_of (block_bytes p)

pub added : (before : Standing) (p : Parts) (after : Standing) → follows before p ≡ gives after → Added before p after
unfolding follows
added before p after e =
    let (above, rest) = unless_gives (ltb before.stamp.0 p.slot) 6 0 _ after e in
    let (linked, rest') = unless_gives (same p.link before.link) 9 0 _ after rest in
    let (releases, obeys, is) = then_gives (obeyed before.releases p.orders) _ after rest' in
    subst (Added before p) (gives_same is)
    (record {
      later = ltb-true _ _ above;
      linked = same_is _ _ (subst T (sym linked) tt);
      obeys = obeys;
      count = refl;
      size = refl;
      stamp = refl;
      link = refl;
    })

pub followed_append : (s : Standing) (xs ys : List Parts) → followed s (xs ++ ys) ≡ then (followed s xs) (λ after. followed after ys)
followed_append s [] ys = refl
followed_append s (p ∷ xs) ys = go (follows s p) (λ after. followed_append after xs ys)
  where
    go : (t : Told Standing) → ((after : Standing) → followed after (xs ++ ys) ≡ then (followed after xs) (λ last. followed last ys))
        → then t (λ after. followed after (xs ++ ys)) ≡ then (then t (λ after. followed after xs)) (λ last. followed last ys)
    go (gives after) again = again after
    go (refuses number place) again = refl

-- the first of some blocks that follow, and the others
pub first_follows : (s : Standing) (p : Parts) (rest : List Parts) (last : Standing) → followed s (p ∷ rest) ≡ gives last
    → (after : Standing) × (follows s p ≡ gives after) × (followed after rest ≡ gives last)
first_follows s p rest last e = then_gives (follows s p) _ last e

pub front_follows : (s : Standing) (xs ys : List Parts) (last : Standing) → followed s (xs ++ ys) ≡ gives last
    → (middle : Standing) × (followed s xs ≡ gives middle) × (followed middle ys ≡ gives last)
front_follows s xs ys last e = then_gives (followed s xs) _ last (sym (followed_append s xs ys) ∙ e)

-- what several blocks add
pub record Adds (before : Standing) (blocks : List Parts) (after : Standing) : Type 0 where
  pub rises : Rising before.stamp.0 blocks
  pub count : after.count.0 ≡ before.count.0 + length blocks
  pub size : after.length ≡ before.length + length (chain_bytes blocks)
  pub stamp : after.stamp.0 ≡ last_stamp before.stamp.0 blocks

pub adds : (before : Standing) (blocks : List Parts) (after : Standing) → followed before blocks ≡ gives after → Adds before blocks after
adds before [] after e =
    subst (Adds before []) (gives_same e) (record { rises = tt; count = omega arith; size = omega arith; stamp = refl })
adds before (p ∷ rest) after e =
    let (next, one, others) = first_follows before p rest after e in
    let a = added before p next one in
    let more = adds next rest after others in
    record {
      rises = (a.later, subst (λ (n : ℕ). Rising n rest) a.stamp more.rises);
      count = omega arith;
      size = omega (arith, length-append (block_bytes p) (chain_bytes rest));
      stamp = more.stamp ∙ ap (λ (n : ℕ). last_stamp n rest) a.stamp;
    }

-- stamps that rise within 1 to 256 are few
pub rising_few : (from : ℕ) (blocks : List Parts) → from ≤ 256 → Each Fits blocks → Rising from blocks → from + length blocks ≤ 256
rising_few from [] low fits rises = omega arith
rising_few from (p ∷ rest) low (fit, fits) (later, rises) =
    let (_, high) = within_true 1 256 p.slot fit.slot in
    omega (arith, rising_few p.slot rest high fits rises)

-- ---- the last stamp is the greatest
rising_last : (from : ℕ) (blocks : List Parts) → Rising from blocks → from ≤ last_stamp from blocks
rising_last from [] rises = omega arith
rising_last from (p ∷ rest) (later, rises) = omega (arith, rising_last p.slot rest rises)

pub last_below : (from clock : ℕ) (blocks : List Parts) → Rising from blocks → last_stamp from blocks < clock → Below clock blocks
last_below from clock [] rises h = tt
last_below from clock (p ∷ rest) (later, rises) h =
    (omega (arith, rising_last p.slot rest rises), last_below p.slot clock rest rises h)

pub below_last : (from clock : ℕ) (blocks : List Parts) → from < clock → Below clock blocks → last_stamp from blocks < clock
below_last from clock [] h below = h
below_last from clock (p ∷ rest) h (one, below) = below_last p.slot clock rest one below

-- ---- links
pub first_link : (s : Standing) (p : Parts) (rest : List Parts) (last : Standing) → followed s (p ∷ rest) ≡ gives last → p.link ≡ s.link
first_link s p rest last e = let (after, one, _) = first_follows s p rest last e in (added s p after one).linked

pub next_link : (s : Standing) (xs : List Parts) (p q : Parts) (ys : List Parts) (last : Standing) → followed s (xs ++ (p ∷ (q ∷ ys))) ≡ gives last
    → q.link ≡ link_of (block_bytes p)
next_link s xs p q ys last e =
    let (middle, _, behind) = front_follows s xs (p ∷ (q ∷ ys)) last e in
    let (after, one, others) = first_follows middle p (q ∷ ys) last behind in
    first_link after q ys last others ∙ (added middle p after one).link
