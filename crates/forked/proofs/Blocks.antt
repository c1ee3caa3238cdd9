-- The blocks and chains of the run: they fit, they follow one another, and each is of one of two kinds.
-- Assumes nothing.
use Prim.Native.Nat.{ℕ, zero, suc, ◌+◌, ◌<◌}
use mathlib.Core.Path.{◌≡◌, refl, ap, ◌∙◌}
use mathlib.Core.Bool.{Bool, true, false}
use mathlib.Core.List.{List, [], ◌∷◌}
use native.Mathlib.Omega.{arith}
use lib.Dec.{leb, lit<}
use lib.ListN.{length, get_or, length-replicate, length-append}
use borrow.Author.Tests.{lt-ltb}
use Rattle.laws.specs.Pick.{pick}
use Rattle.laws.specs.Told.{Told, gives, then}
use Rattle.laws.specs.Every.{within}
use Rattle.laws.specs.Format.{Each}
use Rattle.laws.proofs.Every.{same_refl, within_here}
use Rattle.laws.proofs.Bytes.{bytes_filled}
use Rattle.laws.proofs.Each.{each_weaker, each_append}
use Rattle.order.specs.Order.{applied, obeyed}
use Rattle.order.specs.declared.Order.{Order}
use Rattle.block.specs.Block.{Parts, block_bytes, OrderFits, Fits}
use Rattle.chain.specs.Chain.{link_of, none}
use Rattle.chain.specs.Blocks.{follows, followed, Below}
use Rattle.chain.specs.declared.Standing.{Standing}
use Rattle.chain.proofs.Theorems.{blocks_follow_part_by_part}
use Rattle.issue.proofs.Appending.{Digest, link_digest}
use Rattle.runs.proofs.Nodes.{opening}
use Rattle.runs.proofs.Issuing.{Signature}
use Rattle.forked.specs.Forked.{genesis, table, signature, seal, block, boot, carried, link, next, other, chain, given}

pub signed : Signature signature
unfolding signature
signed = (length-replicate {A = ℕ} 64 1, bytes_filled 64 1 (lit< tt))

pub sealed : Signature seal
unfolding seal
sealed = (length-replicate {A = ℕ} 64 2, bytes_filled 64 2 (lit< tt))

-- ---- a block fits
digest : (k : ℕ) → Digest (link k)
unfolding link
digest zero = link_digest genesis
digest (suc k) = link_digest (block_bytes (next k))

fits : (k : ℕ) (orders : List Order) → k < 256 → within 0 8 (length orders) ≡ true → Each OrderFits orders → Fits (block (link k) orders (suc k))
fits k orders h few each = record {
  link_size = (digest k).size;
  link_bytes = (digest k).bytes;
  count = few;
  orders = each;
  slot = within_here 1 256 (suc k) (omega arith) (omega arith);
  slot_signature_size = signed.0;
  slot_signature_bytes = signed.1;
  block_signature_size = sealed.0;
  block_signature_bytes = sealed.1;
}

next_fits : (k : ℕ) → k < 256 → Fits (next k)
next_fits zero h = fits 0 (carried 0) h refl (refl, tt)
next_fits (suc k) h = fits (suc k) [] h refl tt

other_fits : Fits other
other_fits = fits 0 (boot 2 ∷ []) (omega arith) refl (refl, tt)

-- ---- and follows
abbrev pub start : Standing
start = none (opening genesis table 0)

-- the standing after a block that leaves some releases
abbrev onward : Standing → Parts → List ℕ → Standing
onward s p releases = record {
  count = record { 0 = s.count.0 + 1 };
  length = s.length + length (block_bytes p);
  stamp = record { 0 = p.slot };
  link = link_of (block_bytes p);
  releases = releases;
}

one_follows : (s : Standing) (k : ℕ) (orders : List Order) (releases : List ℕ) → s.link ≡ link k → s.stamp.0 ≡ k
    → obeyed s.releases orders ≡ gives releases
    → follows s (block (link k) orders (suc k)) ≡ gives (onward s (block (link k) orders (suc k)) releases)
unfolding follows
one_follows s k orders releases linked stamped obeys =
    rw (lt-ltb s.stamp.0 (suc k) (omega (arith, stamped)), linked, same_refl (link k), obeys)

pub begins : start.link ≡ link 0
unfolding link
begins = refl

pub goes_on : (k : ℕ) → link_of (block_bytes (next k)) ≡ link (suc k)
unfolding link
goes_on k = refl

-- releases that differ from the start in display 0
abbrev booted : ℕ → List ℕ
booted release = applied table.releases (boot release)

first_follows : (release : ℕ) → obeyed table.releases (boot release ∷ []) ≡ gives (booted release)
    → followed start (block (link 0) (boot release ∷ []) 1 ∷ []) ≡ gives (onward start (block (link 0) (boot release ∷ []) 1) (booted release))
first_follows release obeys =
    ap (λ (t : Told Standing). then t λ after. followed after []) (one_follows start 0 (boot release ∷ []) (booted release) begins refl obeys)

-- display 0 boots release 1 after each of the chains
pub record Stands (k : ℕ) : Type 0 where
  pub whole : Standing
  pub is : followed start (chain k) ≡ gives whole
  pub linked : whole.link ≡ link (suc k)
  pub stamped : whole.stamp.0 ≡ suc k
  pub boots : get_or whole.releases 0 0 ≡ 1

pub stands : (k : ℕ) → Stands k
stands zero = record {
  whole = onward start (next 0) (booted 1);
  is = first_follows 1 refl;
  linked = goes_on 0;
  stamped = refl;
  boots = refl;
}
stands (suc k) =
    let before = stands k in
    let last = next (suc k) in
    let one = one_follows before.whole (suc k) [] before.whole.releases before.linked before.stamped refl in
    record {
      whole = onward before.whole last before.whole.releases;
      is = blocks_follow_part_by_part start (chain k) (last ∷ [])
          ∙ ap (λ (t : Told Standing). then t λ after. followed after (last ∷ [])) before.is
          ∙ ap (λ (t : Told Standing). then t λ after. followed after []) one;
      linked = goes_on (suc k);
      stamped = refl;
      boots = before.boots;
    }

-- ---- the two kinds
pub data Named : Parts → Type 0 where
  in_turn : (k : ℕ) → k < 6 → Named (next k)
  forked : Named other

-- a chain of slots 1 to k + 1
pub record Good (k : ℕ) (blocks : List Parts) : Type 0 where
  pub fit : Each Fits blocks
  pub whole : Standing
  pub is : followed start blocks ≡ gives whole
  pub below : Below (suc (suc k)) blocks
  pub long : length blocks ≡ suc k
  pub named : Each Named blocks

chain_fits : (k : ℕ) → k < 6 → Each Fits (chain k)
chain_fits zero h = (next_fits 0 (omega arith), tt)
chain_fits (suc k) h = each_append Fits (chain k) (next (suc k) ∷ []) (chain_fits k (omega arith)) (next_fits (suc k) (omega arith), tt)

chain_below : (k : ℕ) → Below (suc (suc k)) (chain k)
chain_below zero = (omega arith, tt)
chain_below (suc k) =
    each_append (λ p. p.slot < suc (suc (suc k))) (chain k) (next (suc k) ∷ []) (each_weaker (λ p h. omega arith) (chain k) (chain_below k))
    (omega arith, tt)

chain_long : (k : ℕ) → length (chain k) ≡ suc k
chain_long zero = refl
chain_long (suc k) = omega (arith, length-append (chain k) (next (suc k) ∷ []), chain_long k)

chain_named : (k : ℕ) → k < 6 → Each Named (chain k)
chain_named zero h = (in_turn 0 h, tt)
chain_named (suc k) h = each_append Named (chain k) (next (suc k) ∷ []) (chain_named k (omega arith)) (in_turn (suc k) h, tt)

pub chain_good : (k : ℕ) → k < 6 → Good k (chain k)
chain_good k h = record {
  fit = chain_fits k h;
  whole = (stands k).whole;
  is = (stands k).is;
  below = chain_below k;
  long = chain_long k;
  named = chain_named k h;
}

other_good : Good 0 (other ∷ [])
other_good = record {
  fit = (other_fits, tt);
  whole = onward start other (booted 2);
  is = first_follows 2 refl;
  below = (omega arith, tt);
  long = refl;
  named = (forked, tt);
}

pub given_good : (i k : ℕ) → k < 6 → Good k (given i k)
given_good i zero h = by_side (leb i 3)
  where
    by_side : (β : Bool) → Good 0 (pick β (chain 0) (other ∷ []))
    by_side true = chain_good 0 h
    by_side false = other_good
given_good i (suc k) h = chain_good (suc k) h
