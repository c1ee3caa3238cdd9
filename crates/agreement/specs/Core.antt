-- Chains, slots and the chains that correct controllers issued in them: all that demand 3 rests on. No byte, digest or signature appears.
-- Assumes nothing: what is asked of a run stands in `Laws` and `Turns`, and each theorem names what it needs.
use Rattle.std.specs.Prelude.{◌≡◌, Bool, true, not, List, [], ◌∷◌, ◌++◌, ℕ, zero, suc, ◌+◌, ◌-◌, ◌*◌, ◌%◌, ◌<◌, ◌≤◌, ltb, leb, length}
use Rattle.laws.specs.Pick.{pick}
use Rattle.laws.specs.Every.{both}
use Rattle.laws.specs.Format.{Each}

-- Slots begin at 1. A chain is a list of blocks, the oldest first.
pub record Setting : Type 1 where
  pub Block : Type 0
  pub stamp : Block → ℕ
  -- the chain passes the check
  pub valid : List Block → Type 0
  -- the slot is a correct controller's turn
  pub good : ℕ → Bool
  -- the chain that was issued in a good slot
  pub issued : ℕ → List Block
  -- the last slot of the run
  pub end : ℕ

-- ---- counts of slots
-- how many slots i with a < i ≤ b pass the test
unfoldable pub how_many : (ℕ → Bool) → ℕ → ℕ → ℕ
how_many test a zero = 0
how_many test a (suc b) = pick (both (leb a b) (test (suc b))) 1 0 + how_many test a b

abbrev pub good_between : Setting → ℕ → ℕ → ℕ
good_between s = how_many s.good

abbrev pub bad : Setting → ℕ → Bool
bad s i = not (s.good i)

abbrev pub bad_between : Setting → ℕ → ℕ → ℕ
bad_between s = how_many (bad s)

-- fewer than a third of any window of at least `depth` slots are bad
abbrev pub Windows : Setting → ℕ → Type 0
Windows s depth = (from slots : ℕ) → depth ≤ slots → from + slots ≤ s.end → 3 * bad_between s from (from + slots) < slots

-- 02, e: "every n of at least 3t + 1"
abbrev pub Enough : ℕ → ℕ → Type 0
Enough n t = 3 * t + 1 ≤ n

-- n controllers take turns, and no more than t of them are faulty
pub record Turns (s : Setting) (n t : ℕ) (faulty : ℕ → Bool) : Type 0 where
  pub enough : Enough n t
  pub few : how_many faulty 0 n ≤ t
  pub turn : (j : ℕ) → 1 ≤ j → j ≤ s.end → s.good j ≡ not (faulty ((j - 1) % n + 1))

-- ---- chains
abbrev pub Begins : {A : Type 0} → List A → List A → Type 0
Begins {A} front whole = (rest : List A) × (whole ≡ front ++ rest)

-- each stamp is above the one before it, the first above `last`
abbrev pub Rises : (s : Setting) → ℕ → List s.Block → Type 0
Rises s last [] = Unit {0}
Rises s last (b ∷ c) = (last < s.stamp b) × Rises s (s.stamp b) c

-- what is settled at slot j: the blocks, from the front, with stamp + depth below j
unfoldable pub settled : (s : Setting) → ℕ → ℕ → List s.Block → List s.Block
settled s depth j [] = []
settled s depth j (b ∷ c) = pick (ltb (s.stamp b + depth) j) (b ∷ settled s depth j c) []

-- the front of a chain has all its blocks with stamp + depth below j, and no other
abbrev pub Parted : (s : Setting) → ℕ → ℕ → (front whole : List s.Block) → Type 0
Parted s depth j front whole =
    (rest : List s.Block) × (whole ≡ front ++ rest) × Each (λ b. s.stamp b + depth < j) front × Each (λ b. j ≤ s.stamp b + depth) rest

-- every stamp is below slot j
abbrev pub Below : (s : Setting) → ℕ → List s.Block → Type 0
Below s j = Each (λ b. s.stamp b < j)

-- no shorter than any chain issued in a good slot before j
abbrev pub Long : (s : Setting) → ℕ → List s.Block → Type 0
Long s j c = (i : ℕ) → s.good i ≡ true → 1 ≤ i → i < j → length (s.issued i) ≤ length c

-- what a correct controller can hold at slot j after all deliveries
pub record Viable (s : Setting) (j : ℕ) (c : List s.Block) : Type 0 where
  pub passes : s.valid c
  pub below : Below s j c
  pub long : Long s j c

-- the chain issued in good slot i: a block stamped i behind a chain that its controller held
pub record Issue (s : Setting) (i : ℕ) : Type 0 where
  pub before : List s.Block
  pub block : s.Block
  pub is : s.issued i ≡ before ++ (block ∷ [])
  pub stamped : s.stamp block ≡ i
  pub held : Viable s i before
  pub passes : s.valid (s.issued i)

-- what is asked of a run: A1 to A4 of the argument
pub record Laws (s : Setting) : Type 0 where
  -- A1
  pub none : s.valid []
  pub prefix : (u v : List s.Block) → s.valid (u ++ v) → s.valid u
  pub rises : (c : List s.Block) → s.valid c → Rises s 0 c
  -- A2: a block determines what is before it
  pub link : (u u' v v' : List s.Block) (b : s.Block) → s.valid (u ++ b ∷ v) → s.valid (u' ++ b ∷ v') → u ≡ u'
  -- A3: a block stamped with a good slot is the one issued in it
  pub one_block : (u v : List s.Block) (b : s.Block) → s.valid (u ++ b ∷ v) → s.good (s.stamp b) ≡ true → s.stamp b ≤ s.end
      → (w : List s.Block) × (s.issued (s.stamp b) ≡ w ++ (b ∷ []))
  -- A4
  pub issues : (i : ℕ) → s.good i ≡ true → 1 ≤ i → i ≤ s.end → Issue s i
