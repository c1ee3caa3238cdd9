-- A chain that was appended to: what the call went by, and that it is good.
-- Assumes nothing.
use Prim.Native.Nat.{ℕ, ◌+◌, ◌<◌}
use mathlib.Core.Path.{◌≡◌, sym, ap, ◌∙◌, subst}
use mathlib.Core.Bool.{true}
use mathlib.Core.List.{List}
use native.Mathlib.Omega.{arith}
use lib.Dec.{ltb}
use lib.ListN.{take, get_or}
use borrow.Author.Tests.{ltb-true}
use Rattle.laws.specs.Told.{Told, gives}
use Rattle.laws.specs.Every.{within}
use Rattle.laws.specs.Format.{Bytes}
use Rattle.laws.specs.Placed.{placed, placing}
use Rattle.laws.proofs.Told.{gives_same, then_gives, unless_gives}
use Rattle.block.specs.declared.Front.{Front}
use Rattle.chain.specs.Chain.{link_of, opened, held, delivered_chain, held_chain, checked}
use Rattle.chain.specs.Blocks.{chain_bytes, at_slot}
use Rattle.chain.proofs.Theorems.{the_count_is_the_number_of_blocks}
use Rattle.chain.specs.declared.Standing.{Standing}
use Rattle.chain.specs.declared.Opened.{Opened}
use Rattle.chain.specs.declared.Summary.{Summary}
use Rattle.pool.specs.Pool.{pool_fits}
use Rattle.pool.specs.declared.Pool.{Pool}
use Rattle.issue.specs.Issue.{may_issue, next_front, fronting, front, writing, written, append_bytes}
use Rattle.issue.proofs.Appending.{Digest, Given, link_digest}
use Rattle.issue.proofs.Appended as appended

module _ (genesis : List ℕ) (clock : ℕ) (buffer : List ℕ) (size : ℕ) (pool : Pool) (controller : ℕ) (signature seal : List ℕ) (next : ℕ)
    (bytes : Bytes buffer) (given : Given signature seal) (o : Opened) (h : Summary)
    (opens : opened genesis clock ≡ gives o) (holds : held_chain o buffer size ≡ gives h)
    (append : writing (append_bytes seal) (front genesis clock buffer size pool controller signature) buffer size ≡ gives next) where
  -- the buffer then
  abbrev pub after : List ℕ
  after = written (append_bytes seal) (front genesis clock buffer size pool controller signature) buffer size

  front_is : front genesis clock buffer size pool controller signature ≡ fronting o h pool controller signature
  unfolding front
  front_is = rw (opens, holds)

  -- what the call went by
  pub record Went : Type 0 where
    pub pooled : pool_fits o h pool ≡ true
    pub later : h.whole.stamp.0 < o.clock.0
    pub fits : placed buffer size (append_bytes seal (next_front o h pool signature)) ≡ gives next
    pub is : after ≡ placing buffer size (append_bytes seal (next_front o h pool signature))

  pub went : Went
  went =
      let (f, is, fits) = then_gives (fronting o h pool controller signature) _ next
      (ap (λ (t : Told Front). writing (append_bytes seal) t buffer size) (sym front_is) ∙ append) in
      let (pooled, rest) = unless_gives (pool_fits o h pool) 18 0 _ f is in
      let (_, rest') = unless_gives (may_issue o controller) 12 0 _ f rest in
      let (late, same) = unless_gives (ltb h.whole.stamp.0 o.clock.0) 6 0 _ f rest' in
      let front_same : f ≡ next_front o h pool signature = sym (gives_same same) in
      record {
        pooled = pooled;
        later = ltb-true h.whole.stamp.0 o.clock.0 late;
        fits = subst (λ (q : Front). placed buffer size (append_bytes seal q) ≡ gives next) front_same fits;
        is = ap (λ (t : Told Front). written (append_bytes seal) t buffer size) (front_is ∙ is ∙ ap gives front_same);
      }

  pub known : (o.link ≡ link_of genesis) × (within 1 256 o.clock.0 ≡ true) × (o.clock.0 ≡ clock)
  known = appended.opened_link genesis clock o opens

  pub digest : Digest o.link
  digest = subst Digest (sym known.0) (link_digest genesis)

  -- what it comes to then
  abbrev pub then_held : Summary
  then_held = appended.summary o buffer size h bytes holds digest known.1 pool signature seal given went.pooled went.later

  pub held_then : held_chain o after next ≡ gives then_held
  held_then =
      ap (λ (l : List ℕ). held_chain o l next) went.is
      ∙ appended.still_good o buffer size h bytes holds digest known.1 pool signature seal given went.pooled went.later next went.fits

  pub good_elsewhere : (verdicts : List ℕ) → clock < 256 → ((i : ℕ) → i < h.whole.count.0 + 1 → get_or verdicts i 0 ≡ 3)
      → checked genesis (clock + 1) (take next after) verdicts ≡ gives (h.whole.count.0 + 1, then_held.whole.releases)
  good_elsewhere verdicts below good =
      let a = appended.accepted o buffer size h bytes holds digest known.1 pool signature seal given went.pooled went.later in
      let blocks = appended.blocks o buffer size h bytes holds digest known.1 pool signature seal given went.pooled went.later in
      let chain = ap (take next) went.is
      ∙ appended.chain_is o buffer size h bytes holds digest known.1 pool signature seal given went.pooled went.later next went.fits in
      let count = the_count_is_the_number_of_blocks o held blocks then_held a in
      let (s, same, delivers) = appended.next_slot o blocks then_held a verdicts (λ i inside. good i (omega (arith, count))) in
      let delivers' = subst (λ (n : ℕ). delivered_chain (at_slot o (n + 1)) (chain_bytes blocks) verdicts ≡ gives s) known.2 delivers in
      rw (appended.opened_next genesis clock o opens below, chain, delivers')
      (ap (λ (w : Standing). gives (w.count.0, w.releases)) same)
