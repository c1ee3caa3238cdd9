-- The inputs that the theorems name. The genesis is that of 01's example: one controller, t = 0, u = 1, display 0 at release 7.
-- Assumes nothing.
use Rattle.std.specs.Prelude.{ℕ, List, [], ◌∷◌, ◌++◌, replicate}
use Rattle.laws.specs.Told.{Told}
use Rattle.order.specs.declared.Order.{Order}
use Rattle.genesis.specs.Genesis.{table_with}
use Rattle.genesis.specs.declared.Genesis.{Genesis}
use Rattle.block.specs.Block.{Parts}
use Rattle.block.specs.declared.Front.{Front}
use Rattle.chain.specs.declared.Opened.{Opened}
use Rattle.pool.specs.Pool.{pool_of}
use Rattle.pool.specs.declared.Pool.{Pool}
use Rattle.issue.specs.Issue.{front}

abbrev pub zeros : ℕ → List ℕ
zeros n = replicate n 0

abbrev pub genesis : List ℕ
genesis = 1 ∷ 0 ∷ 1 ∷ 7 ∷ zeros 95

abbrev pub table : Genesis
table = table_with 1 0 1 (7 ∷ zeros 63) 67

-- its digest, as GNU sha256sum prints it
abbrev pub link : List ℕ
link =
    0xaf ∷ 0x0d ∷ 0xf0 ∷ 0xa4 ∷ 0x2d ∷ 0x2f ∷ 0x9f ∷ 0xb5 ∷ 0xda ∷ 0x87 ∷ 0x32 ∷ 0x73 ∷ 0x51 ∷ 0xf3 ∷ 0x56 ∷ 0x09 ∷
    0x2d ∷ 0x94 ∷ 0xc5 ∷ 0x3c ∷ 0xb1 ∷ 0xbb ∷ 0x4c ∷ 0xc3 ∷ 0x66 ∷ 0x6f ∷ 0x8e ∷ 0x14 ∷ 0xaf ∷ 0xd8 ∷ 0xdf ∷ 0x96 ∷ []

abbrev pub start : ℕ → Opened
start clock = record { table = table; link = link; clock = record { 0 = clock } }

abbrev pub signature : List ℕ
signature = zeros 64

-- a block of no orders behind the genesis, stamped 1
abbrev pub parts : Parts
parts = record { link = link; orders = []; slot = 1; slot_signature = signature; block_signature = signature }

abbrev pub first : List ℕ
first = link ++ (0 ∷ 1 ∷ signature ++ signature)

abbrev pub verdicts : List ℕ
verdicts = 3 ∷ 3 ∷ []

-- what may stand behind the first block, and the refusal that it meets
pub record Second : Type 0 where
  pub bytes : List ℕ
  pub verdicts : List ℕ
  pub number : ℕ

abbrev pub second : List ℕ → List ℕ → ℕ → Second
second bytes verdicts number = record { bytes = bytes; verdicts = verdicts; number = number }

-- the bytes of its two numbers, the order count and the slot, between a link and signatures of zeros
abbrev pub behind : List ℕ → List ℕ
behind numbers = zeros 32 ++ (numbers ++ zeros 128)

-- one byte short
abbrev pub cut : List ℕ
cut = zeros 32 ++ (0 ∷ 2 ∷ zeros 127)

-- at slot 4: 3 to 8, which come before the link is looked at
abbrev pub seconds : List Second
seconds =
    second cut verdicts 3
    ∷ second (behind (0x80 ∷ 0 ∷ 2 ∷ [])) verdicts 4
    ∷ second (behind (9 ∷ 2 ∷ [])) verdicts 5
    ∷ second (behind (0 ∷ 1 ∷ [])) verdicts 6
    ∷ second (behind (0 ∷ 4 ∷ [])) verdicts 7
    ∷ second (behind (0 ∷ 2 ∷ [])) (3 ∷ []) 8
    ∷ []

-- and in what is held, where 3 to 6 and a stamp after now are all 17
abbrev pub held_seconds : List (List ℕ)
held_seconds =
    cut
    ∷ behind (0x80 ∷ 0 ∷ 2 ∷ [])
    ∷ behind (9 ∷ 2 ∷ [])
    ∷ behind (0 ∷ 1 ∷ [])
    ∷ behind (0 ∷ 5 ∷ [])
    ∷ []

-- display 0 from a release to another
abbrev pub upgrade : ℕ → ℕ → Order
upgrade expected new = record { display = 0; expected = expected; new = new }

abbrev pub no_pool : Pool
no_pool = pool_of []

-- the front of a controller's block in slot 1, behind the chain of no blocks in a buffer, with nothing pooled
abbrev pub front_for : ℕ → List ℕ → Told Front
front_for controller held = front genesis 1 held 0 no_pool controller signature
