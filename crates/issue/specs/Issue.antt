-- 01, "Draft and append": "Walk the counting entries in order and take each that is valid at that point, until 8 are taken."
-- Assumes nothing.
use Rattle.std.specs.Prelude.{ℕ, Bool, List, [], ◌∷◌, ◌++◌, ltb, eqb}
use Rattle.laws.specs.Told.{Told, gives, refuses, then, unless}
use Rattle.laws.specs.Every.{both, within}
use Rattle.laws.specs.Placed.{placed, placing}
use Rattle.order.specs.declared.Order.{Order}
use Rattle.genesis.specs.Genesis.{turn}
use Rattle.block.specs.Answers.{listed}
use Rattle.block.specs.Blocks.{front_of}
use Rattle.block.specs.declared.Front.{Front}
use Rattle.chain.specs.Chain.{holding}
use Rattle.chain.specs.declared.Opened.{Opened}
use Rattle.chain.specs.declared.Summary.{Summary}
use Rattle.pool.specs.Pool.{pool_fits, counting, orders_of, taking}
use Rattle.pool.specs.declared.Pool.{Pool}

-- 12: "controller not 1 to n, or not its turn"
abbrev pub may_issue : Opened → ℕ → Bool
may_issue o controller = both (within 1 o.table.n controller) (eqb (turn o.table o.clock.0) controller)

-- the orders of the next block
abbrev pub taken : Summary → Pool → List Order
taken held pool = (taking 8 held.whole.releases (orders_of (counting held pool))).orders

-- the next block without its last 64 bytes: draft, block text and append share it
abbrev pub next_front : Opened → Summary → Pool → List ℕ → Front
next_front o held pool signature = record {
  link = held.whole.link;
  orders = listed (taken held pool);
  slot = o.clock;
  slot_signature = signature;
}

-- 18, 12, and 6: "held chain ends at now"
abbrev pub fronting : Opened → Summary → Pool → (controller : ℕ) → List ℕ → Told Front
fronting o held pool controller signature =
    unless (pool_fits o held pool) 18 0
    (unless (may_issue o controller) 12 0
    (unless (ltb held.whole.stamp.0 o.clock.0) 6 0 (gives (next_front o held pool signature))))

-- 1, 2, 17, 18, 12, 6
unfoldable pub front : (genesis : List ℕ) (clock : ℕ) (held : List ℕ) (size : ℕ) → Pool → (controller : ℕ) → List ℕ → Told Front
front genesis clock held size pool controller signature =
    then (holding genesis clock held size) λ h. fronting h.0 h.1 pool controller signature

-- what is written at a place of a buffer, if there is something to write: 15, and the buffer then
abbrev pub writing : (Front → List ℕ) → Told Front → List ℕ → ℕ → Told ℕ
writing bytes t out at = then t λ f. placed out at (bytes f)

abbrev pub written : (Front → List ℕ) → Told Front → List ℕ → ℕ → List ℕ
written bytes (gives f) out at = placing out at (bytes f)
written bytes (refuses number place) out at = out

-- "The draft (given the slot signature) writes the block without its last 64 bytes."
abbrev pub draft_bytes : Front → List ℕ
draft_bytes f = front_of f

-- "The block text is the five letters `block` followed by the block without its last 64 bytes."
abbrev pub text_bytes : Front → List ℕ
text_bytes f = (98 ∷ 108 ∷ 111 ∷ 99 ∷ 107 ∷ []) ++ front_of f

-- "Append (given both signatures) writes the whole block after the held chain."
abbrev pub append_bytes : List ℕ → Front → List ℕ
append_bytes signature f = front_of f ++ signature
