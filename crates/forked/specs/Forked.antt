-- A run of six slots with a fork in it. Controller 1 of 6 is faulty and signs two blocks for slot 1: by one of them display 0 is to boot release 1,
-- by the other release 2. In slot 2 the one reaches controllers 2 and 3, the other 4, 5 and 6. From then on each slot's controller issues a block
-- behind the chain that it holds, and that chain reaches everybody in the next slot: those that held the other block drop it for the longer chain.
-- Assumes nothing.
use Rattle.std.specs.Prelude.{ℕ, zero, suc, true, List, [], ◌∷◌, ◌++◌, leb, eqb, replicate}
use Rattle.laws.specs.Pick.{pick}
use Rattle.order.specs.declared.Order.{Order}
use Rattle.genesis.specs.Genesis.{table_with}
use Rattle.genesis.specs.declared.Genesis.{Genesis}
use Rattle.block.specs.Block.{Parts, block_bytes}
use Rattle.chain.specs.Chain.{longest, link_of}
use Rattle.chain.specs.Blocks.{chain_bytes}
use Rattle.pool.specs.Pool.{pool_of}
use Rattle.runs.specs.Runs.{Event, delivery, Run}

-- n = 6, t = 1 and u = 1, every release 0, and six keys
unfoldable pub genesis : List ℕ
genesis =
    (6 ∷ 1 ∷ 1 ∷ [])
    ++ (replicate 64 0 ++ (replicate 32 1 ++ (replicate 32 2 ++ (replicate 32 3 ++ (replicate 32 4 ++ (replicate 32 5 ++ replicate 32 6))))))

abbrev pub table : Genesis
table = table_with 6 1 1 (replicate 64 0) 67

-- the signatures that stand in every block of the run; nothing looks into them
unfoldable pub signature : List ℕ
signature = replicate 64 1

unfoldable pub seal : List ℕ
seal = replicate 64 2

-- ---- the blocks
abbrev pub block : (link : List ℕ) → List Order → (slot : ℕ) → Parts
block before orders slot = record { link = before; orders = orders; slot = slot; slot_signature = signature; block_signature = seal }

-- display 0 is to boot a release
abbrev pub boot : ℕ → Order
boot release = record { display = 0; expected = 0; new = release }

-- the orders of the block of slot k + 1
abbrev pub carried : ℕ → List Order
carried zero = boot 1 ∷ []
carried (suc k) = []

-- its link
unfoldable pub link : ℕ → List ℕ
link zero = link_of genesis
link (suc k) = link_of (block_bytes (block (link k) (carried k) (suc k)))

abbrev pub next : ℕ → Parts
next k = block (link k) (carried k) (suc k)

-- the other block that was signed for slot 1
abbrev pub other : Parts
other = block (link 0) (boot 2 ∷ []) 1

-- the chain of slots 1 to k + 1
abbrev pub chain : ℕ → List Parts
chain zero = next 0 ∷ []
chain (suc k) = chain k ++ (next (suc k) ∷ [])

-- ---- the run
-- what reaches a controller in slot k + 2
abbrev pub given : (controller k : ℕ) → List Parts
given i zero = pick (leb i 3) (chain 0) (other ∷ [])
given i (suc k) = chain (suc k)

unfoldable pub verdicts : List ℕ
verdicts = replicate 256 3

abbrev pub events : (controller slot : ℕ) → List Event
events i zero = []
events i (suc zero) = []
events i (suc (suc k)) = delivery (chain_bytes (given i k)) verdicts ∷ []

unfoldable pub buffer : List ℕ
buffer = replicate longest 0

abbrev pub run : Run
run = record {
  genesis = genesis;
  table = table;
  end = 6;
  faulty = λ i. eqb i 1;
  lent = λ i. buffer;
  pools = λ i. pool_of [];
  events = events;
  poolings = λ i slot. [];
  signature = λ i slot. signature;
  seal = λ i slot. seal;
  -- no block of the run is badly signed
  verifies = λ p. true;
}
