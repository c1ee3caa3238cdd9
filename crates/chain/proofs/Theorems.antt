-- What a reader may take from this crate: an accepted chain is a list of blocks, each behind the ones before it; which list it is, how it grows, how long
-- it gets, what of it is settled, and what the slot of the call has to do with it.
-- Assumes nothing.
use Prim.Native.Nat.{ℕ, ◌+◌, ◌<◌, ◌≤◌}
use mathlib.Core.Path.{◌≡◌, sym, ◌∙◌}
use mathlib.Core.Bool.{true, false}
use mathlib.Core.List.{List, [], ◌∷◌, ◌++◌}
use lib.ListN.{length, take}
use Rattle.laws.specs.Told.{gives, refuses, then}
use Rattle.laws.specs.Format.{Bytes, Each}
use Rattle.laws.proofs.Told.{gives_same}
use Rattle.block.specs.Block.{Parts, block_bytes, Fits}
use Rattle.chain.specs.Chain.{longest, link_of, Way, delivered, held, judged, settles, none, passed, begun, delivered_chain, held_chain, opened, checked}
use Rattle.chain.specs.declared.Opened.{Opened}
use Rattle.chain.specs.declared.Standing.{Standing}
use Rattle.chain.specs.declared.Summary.{Summary}
use Rattle.chain.specs.Blocks.{chain_bytes, followed, Admits, settled_of, Accepted, Checks, Behind, at_slot, Rising, Below, NoneFell, last_stamp}
use Rattle.chain.proofs.Following.{followed_append, adds, first_link, next_link}
use Rattle.chain.proofs.Releases.{followed_raises}
use Rattle.chain.proofs.Settling.{settled_exactly}
use Rattle.chain.proofs.Accepting.{same_blocks, front_blocks}
use Rattle.chain.proofs.Accepted as accepted
use Rattle.chain.proofs.Clocks as clocks
use Rattle.chain.proofs.Chains as chains
use Rattle.chain.proofs.Links.{block_link, genesis_link}
use Rattle.sha256.specs.Sha256.{sha256}

-- ---- bytes and blocks
module _ (o : Opened) (way : Way) where
  pub a_chain_that_passes_is_accepted_blocks : (chain : List ℕ) (s : Summary) → Bytes chain → passed o way chain (begun o) ≡ gives s
      → (blocks : List Parts) × (chain ≡ chain_bytes blocks) × Accepted o way blocks s
  a_chain_that_passes_is_accepted_blocks = accepted.passed_accepted o way

  pub accepted_blocks_pass : (blocks : List Parts) (s : Summary) → Accepted o way blocks s → passed o way (chain_bytes blocks) (begun o) ≡ gives s
  accepted_blocks_pass = accepted.accepted_passes o way

  -- the settled part need not be known for that
  pub blocks_that_follow_and_are_admitted_are_accepted : (blocks : List Parts) (whole : Standing) → Each Fits blocks
      → followed (none o) blocks ≡ gives whole → Admits way o.clock.0 0 blocks → (s : Summary) × (s.whole ≡ whole) × Accepted o way blocks s
  blocks_that_follow_and_are_admitted_are_accepted = accepted.followed_accepted o way

  pub accepted_blocks_have_one_summary : (blocks : List Parts) (s s' : Summary) → Accepted o way blocks s → Accepted o way blocks s' → s ≡ s'
  accepted_blocks_have_one_summary blocks s s' a a' =
      gives_same (sym (accepted.accepted_sums o way blocks s a) ∙ accepted.accepted_sums o way blocks s' a')

pub the_bytes_tell_the_blocks : (xs ys : List Parts) → Each Fits xs → Each Fits ys → chain_bytes xs ≡ chain_bytes ys → xs ≡ ys
the_bytes_tell_the_blocks = same_blocks

pub bytes_at_the_front_are_blocks_at_the_front : (xs ys : List Parts) (rest : List ℕ) → Each Fits xs → Each Fits ys
    → chain_bytes xs ≡ chain_bytes ys ++ rest → (zs : List Parts) × (xs ≡ ys ++ zs)
bytes_at_the_front_are_blocks_at_the_front = front_blocks

-- whatever the genesis, the slot and the verdicts
pub a_chain_has_one_list_of_blocks : (o o' : Opened) (way way' : Way) (chain : List ℕ) (xs ys : List Parts) (s s' : Summary)
    → chain ≡ chain_bytes xs → Accepted o way xs s → chain ≡ chain_bytes ys → Accepted o' way' ys s' → xs ≡ ys
a_chain_has_one_list_of_blocks o o' way way' chain xs ys s s' is a is' a' = same_blocks xs ys a.fits a'.fits (sym is ∙ is')

pub what_is_written_of_blocks_is_bytes : (blocks : List Parts) → Each Fits blocks → Bytes (chain_bytes blocks)
what_is_written_of_blocks_is_bytes = accepted.chain_is_bytes

-- ---- delivered and held chains
module _ (o : Opened) (s : Summary) where
  pub a_delivered_chain_is_accepted_blocks : (chain verdicts : List ℕ) → Bytes chain → delivered_chain o chain verdicts ≡ gives s
      → (blocks : List Parts) × (chain ≡ chain_bytes blocks) × Accepted o (delivered verdicts) blocks s
  a_delivered_chain_is_accepted_blocks = chains.delivered_is o s

  pub accepted_blocks_may_be_delivered : (verdicts : List ℕ) (blocks : List Parts) → Accepted o (delivered verdicts) blocks s
      → delivered_chain o (chain_bytes blocks) verdicts ≡ gives s
  accepted_blocks_may_be_delivered = chains.is_delivered o s

  pub a_held_chain_is_accepted_blocks : (buffer : List ℕ) (size : ℕ) → Bytes buffer → held_chain o buffer size ≡ gives s
      → (size ≤ length buffer) × ((blocks : List Parts) × (take size buffer ≡ chain_bytes blocks) × Accepted o held blocks s)
  a_held_chain_is_accepted_blocks = chains.held_is o s

  pub accepted_blocks_may_be_held : (buffer : List ℕ) (size : ℕ) (blocks : List Parts) → size ≤ length buffer → take size buffer ≡ chain_bytes blocks
      → Accepted o held blocks s → held_chain o buffer size ≡ gives s
  accepted_blocks_may_be_held = chains.is_held o s

-- check a chain
module _ (genesis : List ℕ) (clock : ℕ) (chain verdicts : List ℕ) (count : ℕ) (releases : List ℕ) where
  pub a_check_answers_for_accepted_blocks : Bytes chain → checked genesis clock chain verdicts ≡ gives (count, releases)
      → Checks genesis clock chain verdicts count releases
  a_check_answers_for_accepted_blocks = chains.checked_is genesis clock chain verdicts count releases

  pub accepted_blocks_check : Checks genesis clock chain verdicts count releases → checked genesis clock chain verdicts ≡ gives (count, releases)
  accepted_blocks_check = chains.is_checked genesis clock chain verdicts count releases

-- the first bad block decides, however many good ones are before it: `judged` is what a block meets behind them, `s`
module _ (blocks : List Parts) (s : Summary) (rest : List ℕ) (number place : ℕ) where
  pub the_first_bad_block_is_refused : (o : Opened) (way : Way) → Accepted o way blocks s → 0 < length rest
      → judged way o.clock.0 (chain_bytes blocks ++ rest) s.whole ≡ refuses number place
      → passed o way (chain_bytes blocks ++ rest) (begun o) ≡ refuses number (length blocks + 1)
  the_first_bad_block_is_refused o way = accepted.refused_behind o way blocks s rest number place

  pub a_check_refuses_at_the_first_bad_block : (genesis : List ℕ) (clock : ℕ) (verdicts : List ℕ) (o : Opened) → opened genesis clock ≡ gives o
      → Accepted o (delivered verdicts) blocks s → 0 < length rest → length (chain_bytes blocks ++ rest) ≤ longest
      → judged (delivered verdicts) o.clock.0 (chain_bytes blocks ++ rest) s.whole ≡ refuses number place
      → checked genesis clock (chain_bytes blocks ++ rest) verdicts ≡ refuses number (length blocks + 1)
  a_check_refuses_at_the_first_bad_block genesis clock verdicts o = chains.refused_at genesis clock verdicts o blocks s rest number place

-- ---- part by part
pub blocks_follow_part_by_part : (s : Standing) (xs ys : List Parts) → followed s (xs ++ ys) ≡ then (followed s xs) (λ after. followed after ys)
blocks_follow_part_by_part = followed_append

module _ (o : Opened) (way : Way) where
  pub the_front_of_an_accepted_chain_is_accepted : (xs ys : List Parts) (s : Summary) → Accepted o way (xs ++ ys) s
      → (front : Summary) × Accepted o way xs front
  the_front_of_an_accepted_chain_is_accepted = accepted.accepted_front o way

  pub a_block_behind_an_accepted_chain_is_accepted : (blocks : List Parts) (p : Parts) (before s : Summary) → Accepted o way blocks before
      → Behind o way before p s → Accepted o way (blocks ++ (p ∷ [])) s
  a_block_behind_an_accepted_chain_is_accepted = accepted.one_more o way

  pub the_last_block_stands_behind_an_accepted_chain : (blocks : List Parts) (p : Parts) (s : Summary) → Accepted o way (blocks ++ (p ∷ [])) s
      → (before : Summary) × Accepted o way blocks before × Behind o way before p s
  the_last_block_stands_behind_an_accepted_chain = accepted.last_one o way

-- ---- what blocks add
module _ (before : Standing) (blocks : List Parts) (after : Standing) (e : followed before blocks ≡ gives after) where
  pub stamps_rise_strictly : Rising before.stamp.0 blocks
  stamps_rise_strictly = (adds before blocks after e).rises

  pub each_block_counts_once : after.count.0 ≡ before.count.0 + length blocks
  each_block_counts_once = (adds before blocks after e).count

  pub the_lengths_add_up : after.length ≡ before.length + length (chain_bytes blocks)
  the_lengths_add_up = (adds before blocks after e).size

  pub no_release_falls : NoneFell before.releases after.releases
  no_release_falls = followed_raises before blocks after e

  pub the_last_stamp_stands : after.stamp.0 ≡ last_stamp before.stamp.0 blocks
  the_last_stamp_stands = (adds before blocks after e).stamp

-- "The link is SHA-256 of the whole block before it, or of the genesis bytes for the first."
pub the_first_block_carries_the_link_before_it : (s : Standing) (p : Parts) (rest : List Parts) (after : Standing)
    → followed s (p ∷ rest) ≡ gives after → p.link ≡ s.link
the_first_block_carries_the_link_before_it = first_link

pub a_later_block_carries_the_link_of_the_one_before : (s : Standing) (xs : List Parts) (p q : Parts) (ys : List Parts) (after : Standing)
    → followed s (xs ++ (p ∷ (q ∷ ys))) ≡ gives after → q.link ≡ link_of (block_bytes p)
a_later_block_carries_the_link_of_the_one_before = next_link

-- ---- how long a chain gets, and what of it is settled
module _ (o : Opened) (way : Way) (blocks : List Parts) (s : Summary) (a : Accepted o way blocks s) where
  pub the_count_is_the_number_of_blocks : s.whole.count.0 ≡ length blocks
  the_count_is_the_number_of_blocks = accepted.counts_all o way blocks s a

  pub the_length_is_the_number_of_bytes : s.whole.length ≡ length (chain_bytes blocks)
  the_length_is_the_number_of_bytes = accepted.takes_all o way blocks s a

  pub at_most_256_blocks : length blocks ≤ 256
  at_most_256_blocks = accepted.few_blocks o way blocks s a

  -- longest is 64,256
  pub at_most_64256_bytes : length (chain_bytes blocks) ≤ longest
  at_most_64256_bytes = accepted.few_bytes o way blocks s a

  pub the_settled_blocks_are_the_first : (rest : List Parts) × (blocks ≡ settled_of o blocks ++ rest)
      × Each (λ p. settles o p.slot ≡ true) (settled_of o blocks)
      × Each (λ p. settles o p.slot ≡ false) rest
  the_settled_blocks_are_the_first = settled_exactly o 0 blocks (accepted.stamps_rise o way blocks s a)

  pub no_more_is_settled_than_there_is : (s.settled.count.0 ≤ s.whole.count.0) × (s.settled.length ≤ s.whole.length)
  no_more_is_settled_than_there_is = accepted.settled_less o way blocks s a

  pub the_settled_bytes_are_the_settled_blocks : take s.settled.length (chain_bytes blocks) ≡ chain_bytes (settled_of o blocks)
  the_settled_bytes_are_the_settled_blocks = accepted.settled_bytes o way blocks s a

  -- ---- at another slot, or another way
  pub clock_and_verdicts_matter_only_by_what_they_admit : (way' : Way) (clock : ℕ) → Admits way' clock 0 blocks
      → (s' : Summary) × (s'.whole ≡ s.whole) × Accepted (at_slot o clock) way' blocks s'
  clock_and_verdicts_matter_only_by_what_they_admit = clocks.accepted_again o way blocks s a

  pub an_accepted_chain_may_be_held_from_its_last_stamp_on : (clock : ℕ) → s.whole.stamp.0 ≤ clock
      → (s' : Summary) × (s'.whole ≡ s.whole) × Accepted (at_slot o clock) held blocks s'
  an_accepted_chain_may_be_held_from_its_last_stamp_on = clocks.accepted_held o way blocks s a

-- the same genesis opens the same at every slot
pub at_another_slot_only_the_slot_is_another : (genesis : List ℕ) (clock clock' : ℕ) (o o' : Opened) → opened genesis clock ≡ gives o
    → opened genesis clock' ≡ gives o' → o' ≡ at_slot o clock'
at_another_slot_only_the_slot_is_another = clocks.opened_again

module _ (o : Opened) (verdicts : List ℕ) (clock : ℕ) where
  module _ (blocks : List Parts) (s : Summary) (a : Accepted o (delivered verdicts) blocks s) where
    pub delivered_blocks_below_another_clock_are_accepted_there : Below clock blocks
        → (s' : Summary) × (s'.whole ≡ s.whole) × Accepted (at_slot o clock) (delivered verdicts) blocks s'
    delivered_blocks_below_another_clock_are_accepted_there = clocks.delivered_again o verdicts clock blocks s a

    pub delivered_blocks_accepted_at_another_clock_are_below_it : (s' : Summary) → Accepted (at_slot o clock) (delivered verdicts) blocks s'
        → Below clock blocks × (s'.whole ≡ s.whole)
    delivered_blocks_accepted_at_another_clock_are_below_it = clocks.delivered_below o verdicts clock blocks s a

  -- the same of bytes, by the last stamp
  module _ (chain : List ℕ) (bytes : Bytes chain) (s : Summary) (good : passed o (delivered verdicts) chain (begun o) ≡ gives s) where
    pub a_delivered_chain_passes_at_every_later_clock_than_its_last_stamp : s.whole.stamp.0 < clock
        → (s' : Summary) × (s'.whole ≡ s.whole) × (passed (at_slot o clock) (delivered verdicts) chain (begun (at_slot o clock)) ≡ gives s')
    a_delivered_chain_passes_at_every_later_clock_than_its_last_stamp = clocks.passed_again o verdicts clock chain bytes s good

    pub and_at_no_other_clock : (s' : Summary) → 0 < clock → passed (at_slot o clock) (delivered verdicts) chain (begun (at_slot o clock)) ≡ gives s'
        → (s.whole.stamp.0 < clock) × (s'.whole ≡ s.whole)
    and_at_no_other_clock = clocks.passed_below o verdicts clock chain bytes s good

-- ---- links: "SHA-256 of the whole block before it, or of the genesis bytes for the first"
pub the_link_of_a_block_is_its_digest : (p : Parts) → Fits p → link_of (block_bytes p) ≡ sha256 (block_bytes p)
the_link_of_a_block_is_its_digest = block_link

pub the_first_link_is_the_digest_of_the_genesis : (genesis : List ℕ) (clock : ℕ) (o : Opened) → Bytes genesis → opened genesis clock ≡ gives o
    → (none o).link ≡ sha256 genesis
the_first_link_is_the_digest_of_the_genesis = genesis_link
