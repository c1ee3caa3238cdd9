-- The settled blocks of a chain: those from the front, and the summary that a pass over the chain keeps of them.
-- Assumes nothing.
use Prim.Native.Nat.{ℕ, ◌+◌, ◌<◌}
use mathlib.Core.Path.{◌≡◌, refl, sym, ap, ◌∙◌, subst}
use mathlib.Core.Bool.{Bool, true, false}
use mathlib.Core.List.{List, [], ◌∷◌, ◌++◌}
use native.Mathlib.Omega.{arith}
use borrow.Author.Tests.{le-ltb, ltb-false}
use Rattle.laws.specs.Pick.{pick}
use Rattle.laws.specs.Told.{Told, gives, refuses, then}
use Rattle.laws.specs.Format.{Each}
use Rattle.laws.proofs.Told.{gives_same, then_gives}
use Rattle.genesis.specs.Genesis.{depth}
use Rattle.block.specs.Block.{Parts}
use Rattle.chain.specs.Chain.{settles}
use Rattle.chain.specs.declared.Opened.{Opened}
use Rattle.chain.specs.declared.Standing.{Standing}
use Rattle.chain.specs.declared.Summary.{Summary}
use Rattle.chain.specs.Blocks.{follows, followed, settled_of, Rising}
use Rattle.chain.proofs.Following.{added, first_follows}

-- ---- the summary, block by block
-- a summary whose whole part goes on
abbrev pub onward : Opened → Summary → Standing → Summary
onward o s whole = record { whole = whole; settled = pick (settles o whole.stamp.0) whole s.settled }

abbrev pub summed : Opened → Summary → List Parts → Told Summary
summed o s [] = gives s
summed o s (p ∷ rest) = then (follows s.whole p) λ whole. summed o (onward o s whole) rest

module _ (o : Opened) where
  pub first_summed : (s : Summary) (p : Parts) (rest : List Parts) (e : Summary) → summed o s (p ∷ rest) ≡ gives e
      → (after : Standing) × (follows s.whole p ≡ gives after) × (summed o (onward o s after) rest ≡ gives e)
  first_summed s p rest e is = then_gives (follows s.whole p) _ e is

  pub next_summed : (s : Summary) (p : Parts) (rest : List Parts) (after : Standing) → follows s.whole p ≡ gives after
      → summed o s (p ∷ rest) ≡ summed o (onward o s after) rest
  next_summed s p rest after e = rw e

  pub summed_append : (s : Summary) (xs ys : List Parts) → summed o s (xs ++ ys) ≡ then (summed o s xs) (λ e. summed o e ys)
  summed_append s [] ys = refl
  summed_append s (p ∷ xs) ys = go (follows s.whole p) (λ after. summed_append (onward o s after) xs ys)
    where
      go : (t : Told Standing)
          → ((after : Standing) → summed o (onward o s after) (xs ++ ys) ≡ then (summed o (onward o s after) xs) (λ e. summed o e ys))
          → then t (λ after. summed o (onward o s after) (xs ++ ys)) ≡ then (then t (λ after. summed o (onward o s after) xs)) (λ e. summed o e ys)
      go (gives after) again = again after
      go (refuses number place) again = refl

  -- the whole part is what follows
  pub summed_follows : (s : Summary) (blocks : List Parts) (e : Summary) → summed o s blocks ≡ gives e → followed s.whole blocks ≡ gives e.whole
  summed_follows s [] e is = ap (λ (t : Summary). gives t.whole) (gives_same is)
  summed_follows s (p ∷ rest) e is =
      let (after, one, others) = first_summed s p rest e is in
      rw one (summed_follows (onward o s after) rest e others)

  pub follows_summed : (s : Summary) (blocks : List Parts) (whole : Standing) → followed s.whole blocks ≡ gives whole
      → (e : Summary) × (summed o s blocks ≡ gives e) × (e.whole ≡ whole)
  follows_summed s [] whole is = (s, refl, gives_same is)
  follows_summed s (p ∷ rest) whole is =
      let (after, one, others) = first_follows s.whole p rest whole is in
      let (e, sums, same) = follows_summed (onward o s after) rest whole others in
      (e, next_summed s p rest after one ∙ sums, same)

  -- ---- the settled part
  later_unsettled : (early late : ℕ) → early < late → settles o early ≡ false → settles o late ≡ false
  later_unsettled early late later not =
      le-ltb (late + depth o.table) o.clock.0 (omega (arith, ltb-false (early + depth o.table) o.clock.0 not))

  -- behind a stamp that is not settled nothing is
  pub unsettled : (from : ℕ) (blocks : List Parts) → settles o from ≡ false → Rising from blocks → Each (λ p. settles o p.slot ≡ false) blocks
  unsettled from [] not rises = tt
  unsettled from (p ∷ rest) not (later, rises) =
      let not' = later_unsettled from p.slot later not in
      (not', unsettled p.slot rest not' rises)

  settled_stays : (s : Summary) (blocks : List Parts) (e : Summary) → settles o s.whole.stamp.0 ≡ false → summed o s blocks ≡ gives e
      → e.settled ≡ s.settled
  settled_stays s [] e not is = ap (λ (t : Summary). t.settled) (sym (gives_same is))
  settled_stays s (p ∷ rest) e not is =
      let (after, one, others) = first_summed s p rest e is in
      let a = added s.whole p after one in
      let later : s.whole.stamp.0 < after.stamp.0 = omega arith in
      let not' = later_unsettled s.whole.stamp.0 after.stamp.0 later not in
      settled_stays (onward o s after) rest e not' others ∙ ap (λ (β : Bool). pick β after s.settled) not'

  -- where all before is settled, the settled part is what the settled blocks come to
  pub settled_follows : (at : Standing) (blocks : List Parts) (e : Summary) → summed o (record { whole = at; settled = at }) blocks ≡ gives e
      → followed at (settled_of o blocks) ≡ gives e.settled
  settled_follows at [] e is = ap (λ (t : Summary). gives t.settled) (gives_same is)
  settled_follows at (p ∷ rest) e is =
      let (after, one, others) = first_summed (record { whole = at; settled = at }) p rest e is in
      let same = (added at p after one).stamp in
      go (settles o p.slot) refl after one (ap (settles o) same) others (λ more. settled_follows after rest e more)
    where
      go : (β : Bool) → settles o p.slot ≡ β → (after : Standing) → follows at p ≡ gives after
          → settles o after.stamp.0 ≡ settles o p.slot
          → summed o (onward o (record { whole = at; settled = at }) after) rest ≡ gives e
          → (summed o (record { whole = after; settled = after }) rest ≡ gives e → followed after (settled_of o rest) ≡ gives e.settled)
          → followed at (pick (settles o p.slot) (p ∷ settled_of o rest) []) ≡ gives e.settled
      go true fine after one same others again =
          rw (fine, one)
          (again (subst (λ (β : Bool). summed o (record { whole = after; settled = pick β after at }) rest ≡ gives e) (same ∙ fine) others))
      go false fine after one same others again =
          let stays = settled_stays (onward o (record { whole = at; settled = at }) after) rest e (same ∙ fine) others in
          rw fine (ap gives (sym (stays ∙ ap (λ (β : Bool). pick β after at) (same ∙ fine))))

  -- ---- the settled blocks are the first ones, and no other is settled
  pub settled_exactly : (from : ℕ) (blocks : List Parts) → Rising from blocks
      → (rest : List Parts) × (blocks ≡ settled_of o blocks ++ rest)
      × Each (λ p. settles o p.slot ≡ true) (settled_of o blocks)
      × Each (λ p. settles o p.slot ≡ false) rest
  settled_exactly from [] rises = ([], refl, tt, tt)
  settled_exactly from (p ∷ rest) (later, rises) =
      let (more, is, all, none) = settled_exactly p.slot rest rises in go (settles o p.slot) refl more is all none
    where
      go : (β : Bool) → settles o p.slot ≡ β → (more : List Parts) → rest ≡ settled_of o rest ++ more
          → Each (λ p. settles o p.slot ≡ true) (settled_of o rest) → Each (λ p. settles o p.slot ≡ false) more
          → (more' : List Parts) × ((p ∷ rest) ≡ pick (settles o p.slot) (p ∷ settled_of o rest) [] ++ more')
          × Each (λ p. settles o p.slot ≡ true) (pick (settles o p.slot) (p ∷ settled_of o rest) [])
          × Each (λ p. settles o p.slot ≡ false) more'
      go true e more is all none = rw e (more, ap (λ (l : List Parts). p ∷ l) is, (e, all), none)
      go false e more is all none = rw e (p ∷ rest, refl, tt, (e, unsettled p.slot rest e rises))
