-- 01, "Check a chain" and "Refusal numbers": blocks judged one by one, and what they come to.
-- Assumes nothing.
use Rattle.std.specs.Prelude.{ℕ, ◌+◌, ◌-◌, Bool, List, ltb, leb, eqb, length, take, get_or}
use Rattle.laws.specs.Pick.{pick}
use Rattle.laws.specs.Told.{Told, gives, refuses, Found, then, unless}
use Rattle.laws.specs.Every.{both, same}
use Rattle.laws.specs.Bytes.{part}
use Rattle.laws.specs.Run.{run}
use Rattle.sha256.specs.Answer.{bytes_of}
use Rattle.order.specs.Order.{obeyed}
use Rattle.genesis.specs.Genesis.{genesis_of, clock_fits, depth}
use Rattle.block.specs.Block.{Parts, block_at}
use Rattle.chain.specs.declared.Opened.{Opened}
use Rattle.chain.specs.declared.Standing.{Standing}
use Rattle.chain.specs.declared.Summary.{Summary}

-- "At most 64,256 bytes."
abbrev pub longest : ℕ
longest = 64256

-- a count of blocks has 32 bits: below this one more block can be counted. A chain of 64,256 bytes never comes near it
abbrev pub largest_count : ℕ
largest_count = 4294967295

-- "The link is SHA-256 of the whole block before it, or of the genesis bytes for the first."
abbrev pub link_of : List ℕ → List ℕ
link_of bytes = bytes_of bytes

-- every call begins with these: 1, then 2
abbrev pub opened : List ℕ → ℕ → Told Opened
opened genesis clock =
    then (genesis_of genesis) λ table.
    unless (clock_fits table clock) 2 0 (gives (record { table = table; link = link_of genesis; clock = record { 0 = clock } }))

-- how a chain comes to a call: from outside, with verdicts, or as what is held
pub data Way : Type 0 where
  delivered : (verdicts : List ℕ) → Way
  held : Way

-- delivered: 7, then 8, and a verdict that is missing is none. Held: "no verdicts, and its last stamp may equal now"
abbrev pub admitted : Way → (clock count stamp : ℕ) → Told (Unit {0})
admitted (delivered verdicts) clock count stamp = unless (ltb stamp clock) 7 0 (unless (eqb (get_or verdicts count 0) 3) 8 0 (gives tt))
admitted held clock count stamp = unless (leb stamp clock) 17 0 (gives tt)

-- a block whose stamp is admitted: 9, then 10
abbrev pub joining : List ℕ → Standing → Found Parts → Told Standing
joining chain before b =
    unless (same b.value.link before.link) 9 0
    (then (obeyed before.releases b.value.orders) λ releases.
    gives
    (record {
      count = record { 0 = before.count.0 + 1 };
      length = b.next;
      stamp = record { 0 = b.value.slot };
      link = link_of (part chain before.length (b.next - before.length));
      releases = releases;
    }))

-- the standing after the next block: "3, 4 and 5 come in byte order, then 6, 7, 8, 9, 10"
unfoldable pub judged : Way → (clock : ℕ) → List ℕ → Standing → Told Standing
judged way clock chain before =
    then (block_at chain before.length) λ b.
    unless (ltb before.stamp.0 b.value.slot) 6 0
    (then (admitted way clock before.count.0 b.value.slot) λ _. joining chain before b)

-- a refusal's place is "the failing block counted from 1"
abbrev pub at_block : {A : Type 0} → ℕ → Told A → Told A
at_block place (gives a) = gives a
at_block place (refuses number _) = refuses number place

-- 02, e: "Settled means slot + D < now." D is the depth of the table
abbrev pub settles : Opened → ℕ → Bool
settles o stamp = ltb (stamp + depth o.table) o.clock.0

abbrev pub stepped : Opened → Way → List ℕ → Summary → Told Summary
stepped o way chain s =
    then (at_block (s.whole.count.0 + 1) (judged way o.clock.0 chain s.whole)) λ whole.
    gives (record { whole = whole; settled = pick (settles o whole.stamp.0) whole s.settled })

-- the chain of no blocks
abbrev pub none : Opened → Standing
none o = record {
  count = record { 0 = 0 };
  length = 0;
  stamp = record { 0 = 0 };
  link = o.link;
  releases = o.table.releases;
}

abbrev pub ended : List ℕ → Summary → Bool
ended chain s = leb (length chain) s.whole.length

abbrev pub passed : Opened → Way → List ℕ → Summary → Told Summary
passed o way chain s = run (ended chain) (stepped o way chain) (length chain) s

abbrev pub begun : Opened → Summary
begun o = record { whole = none o; settled = none o }

-- a delivered chain: 16, then its blocks
unfoldable pub delivered_chain : Opened → List ℕ → List ℕ → Told Summary
delivered_chain o chain verdicts = unless (leb (length chain) longest) 16 0 (passed o (delivered verdicts) chain (begun o))

-- whatever is wrong with a held chain is 17
abbrev pub bad : {A : Type 0} → Told A → Told A
bad (gives a) = gives a
bad (refuses number place) = refuses 17 place

-- the chain that a buffer holds in its first bytes: "longer than its buffer or than 64,256 (place 0)"
unfoldable pub held_chain : Opened → List ℕ → ℕ → Told Summary
held_chain o buffer size =
    unless (both (leb size (length buffer)) (leb size longest)) 17 0 (bad (passed o held (take size buffer) (begun o)))

-- what every call on a held chain begins with: 1, 2, 17
abbrev pub with : Opened → Told Summary → Told (Opened × Summary)
with o t = then t λ s. gives (o, s)

abbrev pub holding : List ℕ → ℕ → List ℕ → ℕ → Told (Opened × Summary)
holding genesis clock buffer size = then (opened genesis clock) λ o. with o (held_chain o buffer size)

-- "The answer is the block count and the releases after the last block."
abbrev pub ending : Told Summary → Told (ℕ × List ℕ)
ending t = then t λ s. gives (s.whole.count.0, s.whole.releases)

-- check a chain
abbrev pub checked : List ℕ → ℕ → List ℕ → List ℕ → Told (ℕ × List ℕ)
checked genesis clock chain verdicts = then (opened genesis clock) λ o. ending (delivered_chain o chain verdicts)
