-- 01, "Orders, blocks, chains": "A chain is blocks end to end, genesis not repeated; zero bytes are the chain of no blocks." What an accepted chain
-- is as a list of blocks, with no byte in sight but for lengths and links.
-- Assumes nothing.
use Rattle.std.specs.Prelude.{ℕ, ◌+◌, ◌<◌, ◌≤◌, ◌≡◌, List, [], ◌∷◌, ltb, length, get_or}
use Rattle.laws.specs.Pick.{pick}
use Rattle.laws.specs.Told.{Told, gives, then, unless}
use Rattle.laws.specs.Every.{same}
use Rattle.laws.specs.Bytes.{joined}
use Rattle.laws.specs.Format.{Each}
use Rattle.block.specs.Block.{Parts, block_bytes, Fits}
use Rattle.order.specs.Order.{obeyed}
use Rattle.chain.specs.Chain.{link_of, opened, Way, delivered, admitted, settles, none}
use Rattle.chain.specs.declared.Opened.{Opened}
use Rattle.chain.specs.declared.Standing.{Standing}
use Rattle.chain.specs.declared.Summary.{Summary}

abbrev pub chain_bytes : List Parts → List ℕ
chain_bytes blocks = joined block_bytes blocks

-- the standing after one more block, where neither clock nor verdict is asked: 6, 9, 10
unfoldable pub follows : Standing → Parts → Told Standing
follows before p =
    unless (ltb before.stamp.0 p.slot) 6 0
    (unless (same p.link before.link) 9 0
    (then (obeyed before.releases p.orders) λ releases.
    gives
    (record {
      count = record { 0 = before.count.0 + 1 };
      length = before.length + length (block_bytes p);
      stamp = record { 0 = p.slot };
      link = link_of (block_bytes p);
      releases = releases;
    })))

abbrev pub followed : Standing → List Parts → Told Standing
followed before [] = gives before
followed before (p ∷ rest) = then (follows before p) λ after. followed after rest

-- each stamp is admitted, the first block being the one with `count` blocks before it: 7 and 8, or a held stamp above now
abbrev pub Admits : Way → (clock count : ℕ) → List Parts → Type 0
Admits way clock count [] = Unit {0}
Admits way clock count (p ∷ rest) = (admitted way clock count p.slot ≡ gives tt) × Admits way clock (count + 1) rest

-- the blocks from the front that are settled
abbrev pub settled_of : Opened → List Parts → List Parts
settled_of o [] = []
settled_of o (p ∷ rest) = pick (settles o p.slot) (p ∷ settled_of o rest) []

-- blocks that are an accepted chain, and what they come to
pub record Accepted (o : Opened) (way : Way) (blocks : List Parts) (s : Summary) : Type 0 where
  pub fits : Each Fits blocks
  pub whole : followed (none o) blocks ≡ gives s.whole
  pub settled : followed (none o) (settled_of o blocks) ≡ gives s.settled
  pub admits : Admits way o.clock.0 0 blocks

-- a delivered chain that is accepted, and what the check of it answers: "the block count and the releases after the last block"
pub record Checks (genesis : List ℕ) (clock : ℕ) (chain verdicts : List ℕ) (count : ℕ) (releases : List ℕ) : Type 0 where
  pub o : Opened
  pub opens : opened genesis clock ≡ gives o
  pub blocks : List Parts
  pub are : chain ≡ chain_bytes blocks
  pub s : Summary
  pub accepted : Accepted o (delivered verdicts) blocks s
  pub counts : count ≡ length blocks
  pub leaves : releases ≡ s.whole.releases

-- one more block behind an accepted chain, and what they come to together
pub record Behind (o : Opened) (way : Way) (before : Summary) (p : Parts) (s : Summary) : Type 0 where
  pub fits : Fits p
  pub whole : follows before.whole p ≡ gives s.whole
  pub settled : s.settled ≡ pick (settles o p.slot) s.whole before.settled
  pub admits : admitted way o.clock.0 before.whole.count.0 p.slot ≡ gives tt

-- the same genesis at another slot
abbrev pub at_slot : Opened → ℕ → Opened
at_slot o clock = record { table = o.table; link = o.link; clock = record { 0 = clock } }

-- "Slot stamps rise strictly", from one on
abbrev pub Rising : ℕ → List Parts → Type 0
Rising from [] = Unit {0}
Rising from (p ∷ rest) = (from < p.slot) × Rising p.slot rest

abbrev pub Below : ℕ → List Parts → Type 0
Below clock blocks = Each (λ p. p.slot < clock) blocks

-- each display's release is at least what it was
abbrev pub NoneFell : List ℕ → List ℕ → Type 0
NoneFell before after = (display : ℕ) → get_or before display 0 ≤ get_or after display 0

-- the last stamp, or what is given where there is no block
abbrev pub last_stamp : ℕ → List Parts → ℕ
last_stamp from [] = from
last_stamp from (p ∷ rest) = last_stamp p.slot rest
