-- Demand 3's runs: what correct controllers do with the calls, slot by slot, and what is asked of a run, in the demand's words. A faulty controller is
-- not modelled: whatever it sends is a delivery like any other.
-- Assumes nothing.
use Rattle.std.specs.Prelude.{ℕ, zero, suc, ◌<◌, ◌≤◌, ◌≡◌, Bool, true, false, List, [], ◌∷◌, ◌++◌, eqb, length, take, get_or}
use Rattle.std.specs.List.{fold}
use Rattle.laws.specs.Pick.{pick}
use Rattle.laws.specs.Told.{Told, gives, refuses, given_or}
use Rattle.laws.specs.Format.{Bytes, Each}
use Rattle.order.specs.declared.Order.{Order}
use Rattle.genesis.specs.Genesis.{genesis_of, turn}
use Rattle.genesis.specs.declared.Genesis.{Genesis}
use Rattle.block.specs.Block.{Parts, block_bytes, Fits}
use Rattle.chain.specs.Chain.{longest, link_of}
use Rattle.chain.specs.Blocks.{chain_bytes}
use Rattle.adopt.specs.Adopt.{accepted, adopted, adopting}
use Rattle.adopt.specs.Answers.{size_and_count_or}
use Rattle.pool.specs.Pool.{added, dropped}
use Rattle.pool.specs.Answers.{pool_or}
use Rattle.pool.specs.declared.Pool.{Pool}
use Rattle.issue.specs.Issue.{front, writing, written, append_bytes}
use Rattle.report.specs.Report.{Report, reported}
use Rattle.agreement.specs.Core.{how_many}

-- ---- one controller
-- what it keeps between calls: the buffer that its host lends, how many bytes of it are the held chain, and the pool
pub record Node : Type 0 where
  pub buffer : List ℕ
  pub size : ℕ
  pub pool : Pool

abbrev pub held_bytes : Node → List ℕ
held_bytes s = take s.size s.buffer

-- what a host does with the pool: it drops what no longer counts, or adds an order
pub data Pooling : Type 0 where
  drop : Pooling
  add : Order → (depot : ℕ) → Pooling

pub data Event : Type 0 where
  delivery : (bytes verdicts : List ℕ) → Event
  pooling : Pooling → Event

-- an event is a call: adopt, drop or add; what the call adopt tells, and what is kept then: the buffer, the length that is answered and the pool as
-- the call leaves them
abbrev pub adopts : (genesis : List ℕ) (clock : ℕ) → Node → (bytes verdicts : List ℕ) → Told (ℕ × ℕ)
adopts genesis clock s bytes verdicts = adopted (accepted genesis clock s.buffer s.size bytes verdicts) s.buffer bytes

abbrev pub pools : (genesis : List ℕ) (clock : ℕ) → Node → Pooling → Told Pool
pools genesis clock s drop = dropped genesis clock s.buffer s.size s.pool
pools genesis clock s (add order depot) = added genesis clock s.buffer s.size s.pool order depot

abbrev pub after_event : (genesis : List ℕ) (clock : ℕ) → Node → Event → Node
after_event genesis clock s (delivery bytes verdicts) = record {
  buffer = adopting (accepted genesis clock s.buffer s.size bytes verdicts) s.buffer bytes;
  size = (size_and_count_or s.size (adopts genesis clock s bytes verdicts)).0;
  pool = s.pool;
}
after_event genesis clock s (pooling p) = record { buffer = s.buffer; size = s.size; pool = pool_or s.pool (pools genesis clock s p) }

-- issuing is the call append, with the signatures that the host gives: what it answers, and what is kept then
abbrev pub appends : (genesis : List ℕ) (clock controller : ℕ) (signature seal : List ℕ) → Node → Told ℕ
appends genesis clock controller signature seal s =
    writing (append_bytes seal) (front genesis clock s.buffer s.size s.pool controller signature) s.buffer s.size

abbrev pub issues : (genesis : List ℕ) (clock controller : ℕ) (signature seal : List ℕ) → Node → Node
issues genesis clock controller signature seal s = record {
  buffer = written (append_bytes seal) (front genesis clock s.buffer s.size s.pool controller signature) s.buffer s.size;
  size = given_or s.size (appends genesis clock controller signature seal s);
  pool = s.pool;
}

-- ---- a run
pub record Run : Type 0 where
  pub genesis : List ℕ
  pub table : Genesis
  -- the last slot
  pub end : ℕ
  -- which controllers, from 1 to n, are faulty
  pub faulty : ℕ → Bool
  -- the buffer that a controller's host lends, and the pool that it starts with
  pub lent : ℕ → List ℕ
  pub pools : ℕ → Pool
  -- what a controller meets in a slot, in that order, before it issues, and what it does with its pool after that: "Faulty ones may send anything, to
  -- whom and when they like"
  pub events : (controller slot : ℕ) → List Event
  pub poolings : (controller slot : ℕ) → List Pooling
  -- the signatures that its host gives in a slot: the slot's, and the block's
  pub signature : (controller slot : ℕ) → List ℕ
  pub seal : (controller slot : ℕ) → List ℕ
  -- whether both signatures of a block verify under the key whose turn its slot is
  pub verifies : Parts → Bool

module _ (r : Run) where
  abbrev pub correct : ℕ → Type 0
  correct i = (1 ≤ i) × (i ≤ r.table.n) × (r.faulty i ≡ false)

  -- "start at slot 1 with no blocks"
  abbrev pub start : ℕ → Node
  start i = record { buffer = r.lent i; size = 0; pool = r.pools i }

  -- "act in every slot: deliveries first", with the pool's calls between them as they come; "then issuing when it is their turn"; then more of these
  abbrev pub after_deliveries : (i slot : ℕ) → Node → Node
  after_deliveries i slot s = fold (after_event r.genesis slot) s (r.events i slot)

  abbrev pub after_issuing : (i slot : ℕ) → Node → Node
  after_issuing i slot s = pick (eqb (turn r.table slot) i) (issues r.genesis slot i (r.signature i slot) (r.seal i slot) s) s

  abbrev pub after_poolings : (i slot : ℕ) → Node → Node
  after_poolings i slot s = fold (λ node p. after_event r.genesis slot node (pooling p)) s (r.poolings i slot)

  -- what it keeps when a slot has passed
  unfoldable pub after_slot : (i slot : ℕ) → Node
  after_slot i zero = start i
  after_slot i (suc slot) = after_poolings i (suc slot) (after_issuing i (suc slot) (after_deliveries i (suc slot) (after_slot i slot)))

  -- a controller in a slot after its deliveries, the chain that it holds then and what it reports
  abbrev pub in_slot : (i slot : ℕ) → Node
  in_slot i zero = start i
  in_slot i (suc slot) = after_deliveries i (suc slot) (after_slot i slot)

  abbrev pub holds : (i slot : ℕ) → List ℕ
  holds i slot = held_bytes (in_slot i slot)

  abbrev pub reports : (i slot : ℕ) → Told Report
  reports i slot = reported r.genesis slot (in_slot i slot).buffer (in_slot i slot).size

  -- the chain that the slot's controller has issued
  abbrev pub issued : ℕ → List ℕ
  issued slot = held_bytes (after_issuing (turn r.table slot) slot (in_slot (turn r.table slot) slot))

-- ---- what is asked of a run
abbrev pub Among : {A : Type 0} → A → List A → Type 0
Among {A} a l = (before after : List A) × (l ≡ before ++ a ∷ after)

-- where a correct controller meets a chain in a slot
pub data Encounter (r : Run) (i slot : ℕ) (chain : List ℕ) : Type 0 where
  in_delivery : (verdicts : List ℕ) → Among (delivery chain verdicts) (r.events i slot) → Encounter r i slot chain
  as_held : chain ≡ holds r i slot → Encounter r i slot chain
  as_issued : turn r.table slot ≡ i → chain ≡ issued r slot → Encounter r i slot chain

abbrev pub InRun : Run → ℕ → Type 0
InRun r slot = (1 ≤ slot) × (slot ≤ r.end)

-- "blocks of the run": those that occur in what correct controllers are delivered, hold or issue
pub record OfRun (r : Run) (p : Parts) : Type 0 where
  pub controller : ℕ
  pub is_correct : correct r controller
  pub slot : ℕ
  pub in_run : InRun r slot
  pub chain : List ℕ
  pub encounter : Encounter r controller slot chain
  pub blocks : List Parts
  pub rest : List ℕ
  pub are : chain ≡ chain_bytes blocks ++ rest
  pub fit : Each Fits blocks
  pub among : Among p blocks

-- what is handed to a correct controller's calls is of their types. Any order may be added to a pool: one that can't be written is refused
pub record Typed (r : Run) (i : ℕ) : Type 0 where
  pub buffer : Bytes (r.lent i)
  pub deliveries : (slot : ℕ) → InRun r slot → (bytes verdicts : List ℕ) → Among (delivery bytes verdicts) (r.events i slot) → Bytes bytes
  pub signatures : (slot : ℕ) → InRun r slot → turn r.table slot ≡ i → (length (r.signature i slot) ≡ 64) × Bytes (r.signature i slot)
  pub seals : (slot : ℕ) → InRun r slot → turn r.table slot ≡ i → (length (r.seal i slot) ≡ 64) × Bytes (r.seal i slot)

-- the block is the last one of a chain
abbrev pub LastOf : List ℕ → Parts → Type 0
LastOf chain p = (before : List Parts) × Each Fits (before ++ (p ∷ [])) × (chain ≡ chain_bytes (before ++ (p ∷ [])))

pub record Premises (r : Run) : Type 0 where
  -- "Correct ones share one genesis with this n and t": a table that reads has n at least 3t + 1 (02, e)
  pub reads : genesis_of r.genesis ≡ gives r.table
  -- "n controllers, at most t faulty"
  pub few : how_many r.faulty 0 r.table.n ≤ r.table.t
  pub ends : r.end ≤ 256
  -- "start at slot 1 with .. no pooled orders"
  pub no_orders : (i : ℕ) → correct r i → (r.pools i).count ≡ 0
  -- "lend full-sized buffers"
  pub full : (i : ℕ) → correct r i → longest ≤ length (r.lent i)
  pub typed : (i : ℕ) → correct r i → Typed r i
  -- "The whole chain that a correct one issues reaches every correct one in the next slot." It need not be sent to the one that issued it
  pub reaches : (slot i : ℕ) → 1 ≤ slot → slot < r.end → correct r (turn r.table slot) → correct r i → (turn r.table slot ≡ i → ⊥)
      → (verdicts : List ℕ) × Among (delivery (issued r slot) verdicts) (r.events i (suc slot))
  -- "Signature verdicts are true and none is missing": a block's verdict is 3 exactly if its signatures verify
  pub verdicts : (i slot : ℕ) → correct r i → InRun r slot → (bytes verdicts : List ℕ) → Among (delivery bytes verdicts) (r.events i slot)
      → (before : List Parts) (p : Parts) (rest : List ℕ) → bytes ≡ chain_bytes (before ++ (p ∷ [])) ++ rest → Each Fits (before ++ (p ∷ []))
      → (get_or verdicts (length before) 0 ≡ 3 → r.verifies p ≡ true) × (r.verifies p ≡ true → get_or verdicts (length before) 0 ≡ 3)
  -- "for a correct controller's turn the one block it issues verifies and no other"
  pub issued_verifies : (slot : ℕ) → InRun r slot → correct r (turn r.table slot) → (p : Parts) → LastOf (issued r slot) p → r.verifies p ≡ true
  pub no_other : (slot : ℕ) → InRun r slot → correct r (turn r.table slot) → (p : Parts) → OfRun r p → p.slot ≡ slot → r.verifies p ≡ true
      → LastOf (issued r slot) p
  -- "no digest is shared by two different blocks of the run or by one and the genesis"
  pub digests : (p q : Parts) → OfRun r p → OfRun r q → link_of (block_bytes p) ≡ link_of (block_bytes q) → p ≡ q
  pub not_the_genesis : (p : Parts) → OfRun r p → link_of (block_bytes p) ≡ link_of r.genesis → ⊥

-- ---- what comes of a delivery
-- the delivered chain, of so many blocks, is what is held then, or as many are held already: 11
pub data AdoptedOrEqualled (bytes : List ℕ) (count : ℕ) : Told (ℕ × ℕ) → Type 0 where
  adopted_now : AdoptedOrEqualled bytes count (gives (length bytes, count))
  equalled : AdoptedOrEqualled bytes count (refuses 11 0)
