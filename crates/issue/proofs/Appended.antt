-- A chain with the next block behind it: where its bytes stand, and that it is good.
-- Assumes nothing.
use Prim.Native.Nat.{ℕ, suc, ◌+◌, ◌<◌, ◌≤◌}
use mathlib.Core.Path.{◌≡◌, refl, sym, ap, ◌∙◌, subst}
use mathlib.Core.Bool.{true}
use mathlib.Core.List.{List, [], ◌∷◌, ◌++◌, append-nil}
use native.Mathlib.Omega.{arith}
use native.Mathlib.Nat.{add-zero, zero-add}
use lib.Dec.{leb}
use lib.ListN.{length, take, get_or}
use borrow.Author.Tests.{le-leb, leb-true, lt-ltb, eq-eqb}
use Rattle.laws.proofs.Every.{within_here}
use Rattle.laws.specs.Pick.{pick}
use Rattle.laws.specs.Told.{gives}
use Rattle.laws.specs.Every.{within}
use Rattle.laws.specs.Format.{Bytes}
use Rattle.laws.specs.Placed.{placed, placing}
use Rattle.laws.proofs.Told.{gives_same, then_gives, unless_gives}
use Rattle.laws.proofs.Placed.{was_room, is_next, placed_size, placed_front}
use Rattle.laws.proofs.Taken.{joined_append}
use Rattle.genesis.specs.Genesis.{genesis_of, clock_fits}
use Rattle.block.specs.Block.{Parts, block_bytes}
use Rattle.chain.specs.Chain.{link_of, opened, delivered, held, settles, delivered_chain, held_chain}
use Rattle.chain.specs.Blocks.{chain_bytes, Admits, Accepted, Behind, at_slot}
use Rattle.chain.specs.declared.Opened.{Opened}
use Rattle.chain.specs.declared.Standing.{Standing}
use Rattle.chain.specs.declared.Summary.{Summary}
use Rattle.chain.proofs.Theorems.{a_held_chain_is_accepted_blocks, accepted_blocks_may_be_held, accepted_blocks_may_be_delivered, a_block_behind_an_accepted_chain_is_accepted, clock_and_verdicts_matter_only_by_what_they_admit}
use Rattle.pool.specs.Pool.{pool_fits, counting, orders_of, taking}
use Rattle.pool.specs.declared.Pool.{Pool}
use Rattle.issue.specs.Issue.{next_front, append_bytes}
use Rattle.issue.proofs.Appending.{Digest, Given, followed_digest, next_parts, append_writes, next_follows, next_parts_fit}

-- ---- what every call is opened with
pub opened_link : (genesis : List ℕ) (clock : ℕ) (o : Opened) → opened genesis clock ≡ gives o
    → (o.link ≡ link_of genesis) × (within 1 256 o.clock.0 ≡ true) × (o.clock.0 ≡ clock)
opened_link genesis clock o e =
    let (table, reads, rest) = then_gives (genesis_of genesis) _ o e in
    let (fits, is) = unless_gives (clock_fits table clock) 2 0 _ o rest in
    subst (λ (q : Opened). (q.link ≡ link_of genesis) × (within 1 256 q.clock.0 ≡ true) × (q.clock.0 ≡ clock)) (gives_same is) (refl, fits, refl)

-- ---- one more block
module _ (o : Opened) (buffer : List ℕ) (size : ℕ) (h : Summary) (bytes : Bytes buffer) (holds : held_chain o buffer size ≡ gives h)
    (digest : Digest o.link) (clock : within 1 256 o.clock.0 ≡ true) (pool : Pool) (signature seal : List ℕ) (given : Given signature seal)
    (pool-fits : pool_fits o h pool ≡ true) (later : h.whole.stamp.0 < o.clock.0) where
  abbrev p : Parts
  p = next_parts o h pool signature seal

  abbrev pub after : Standing
  after = record {
    count = record { 0 = h.whole.count.0 + 1 };
    length = h.whole.length + length (block_bytes p);
    stamp = record { 0 = o.clock.0 };
    link = link_of (block_bytes p);
    releases = (taking 8 h.whole.releases (orders_of (counting h pool))).releases;
  }

  abbrev pub summary : Summary
  summary = record { whole = after; settled = pick (settles o o.clock.0) after h.settled }

  pub are : (size ≤ length buffer) × ((blocks : List Parts) × (take size buffer ≡ chain_bytes blocks) × Accepted o held blocks h)
  are = a_held_chain_is_accepted_blocks o h buffer size bytes holds

  abbrev pub blocks : List Parts
  blocks = are.1.0 ++ (p ∷ [])

  behind : Behind o held h p summary
  behind = record {
    fits = next_parts_fit o h pool signature seal (followed_digest are.1.0 _ h.whole digest are.1.2.whole) given pool-fits clock;
    whole = next_follows o h pool signature seal later;
    settled = refl;
    admits = rw (le-leb o.clock.0 o.clock.0 (omega arith));
  }

  pub accepted : Accepted o held blocks summary
  accepted = a_block_behind_an_accepted_chain_is_accepted o held are.1.0 p h summary are.1.2 behind

  module _ (next : ℕ) (fits : placed buffer size (append_bytes seal (next_front o h pool signature)) ≡ gives next) where
    pub chain_is : take next (placing buffer size (append_bytes seal (next_front o h pool signature))) ≡ chain_bytes blocks
    chain_is =
        placed_front buffer size _ next fits
        ∙ ap (λ (l : List ℕ). l ++ append_bytes seal (next_front o h pool signature)) are.1.1
        ∙ ap (λ (l : List ℕ). chain_bytes are.1.0 ++ l) (append_writes o h pool signature seal ∙ sym (append-nil (block_bytes p)))
        ∙ sym (joined_append block_bytes are.1.0 (p ∷ []))

    pub still_good : held_chain o (placing buffer size (append_bytes seal (next_front o h pool signature))) next ≡ gives summary
    still_good =
        let written = append_bytes seal (next_front o h pool signature) in
        let inside : next ≤ length (placing buffer size written) =
        omega (arith, is_next buffer size written next fits, placed_size buffer size written next fits, (was_room buffer size written next fits).0) in
        accepted_blocks_may_be_held o summary _ next blocks inside chain_is accepted

-- ---- for another controller
admits_delivered : (verdicts : List ℕ) (clock : ℕ) (l : List Parts) (count : ℕ) → Admits held clock count l
    → ((i : ℕ) → i < length l → get_or verdicts (count + i) 0 ≡ 3) → Admits (delivered verdicts) (clock + 1) count l
admits_delivered verdicts clock [] count a good = tt
admits_delivered verdicts clock (q ∷ l) count (here, rest) good =
    let (low, _) = unless_gives (leb q.slot clock) 17 0 (gives tt) tt here in
    let below : q.slot < clock + 1 = omega (arith, leb-true q.slot clock low) in
    let three : get_or verdicts count 0 ≡ 3 = ap (λ (n : ℕ). get_or verdicts n 0) (sym (add-zero count)) ∙ good 0 (omega arith) in (
      rw (lt-ltb q.slot (clock + 1) below, eq-eqb (get_or verdicts count 0) 3 three),
      admits_delivered verdicts clock l (count + 1) rest (λ i inside.
          let further : count + 1 + i ≡ count + suc i = omega arith in
          ap (λ (n : ℕ). get_or verdicts n 0) further ∙ good (suc i) (omega arith)),
    )

-- blocks that are held at a slot pass in the next one, wherever they are delivered with good verdicts
pub next_slot : (o : Opened) (l : List Parts) (s : Summary) → Accepted o held l s → (verdicts : List ℕ)
    → ((i : ℕ) → i < length l → get_or verdicts i 0 ≡ 3)
    → (s' : Summary) × (s'.whole ≡ s.whole) × (delivered_chain (at_slot o (o.clock.0 + 1)) (chain_bytes l) verdicts ≡ gives s')
next_slot o l s a verdicts good =
    let admits = admits_delivered verdicts o.clock.0 l 0 a.admits (λ i inside. ap (λ (n : ℕ). get_or verdicts n 0) (zero-add i) ∙ good i inside) in
    let (s', same, a') = clock_and_verdicts_matter_only_by_what_they_admit o held l s a (delivered verdicts) (o.clock.0 + 1) admits in
    (s', same, accepted_blocks_may_be_delivered (at_slot o (o.clock.0 + 1)) s' verdicts l a')

-- the same genesis opens in the next slot
pub opened_next : (genesis : List ℕ) (clock : ℕ) (o : Opened) → opened genesis clock ≡ gives o → clock < 256
    → opened genesis (clock + 1) ≡ gives (at_slot o (clock + 1))
opened_next genesis clock o e below =
    let (table, reads, rest) = then_gives (genesis_of genesis) _ o e in
    let (fits, is) = unless_gives (clock_fits table clock) 2 0 _ o rest in
    let later = within_here 1 256 (clock + 1) (omega arith) (omega arith) in
    rw (reads, later) (ap (λ (q : Opened). gives (at_slot q (clock + 1))) (gives_same is))
