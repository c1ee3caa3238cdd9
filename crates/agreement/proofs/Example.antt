-- The laws can be met, by a run of 256 slots with a fork in it, so the theorems are not empty: controller 1 of 4 is faulty and gives out two
-- blocks in slot 1, and two chains are viable at slot 2. One of the two blocks is settled at slot 12, since the depth is 10.
-- Assumes nothing.
use Prim.Native.Nat.{ℕ, zero, suc, ◌-◌, ◌+◌, ◌%◌, ◌≤◌, ◌<◌}
use mathlib.Core.Path.{◌≡◌, refl, sym, ap, ◌∙◌}
use mathlib.Core.Bool.{Bool, true, false, not}
use mathlib.Core.List.{List, [], ◌∷◌, ◌++◌, append-nil, append_assoc}
use native.Mathlib.Omega.{arith}
use lib.Dec.{eqb}
use lib.ListN.{length, length-append}
use Rattle.laws.specs.Depth.{depth_for}
use Rattle.agreement.specs.Core.{Setting, how_many, Turns, Rises, settled, Below, Viable, Issue, Laws}
use Rattle.laws.proofs.Each.{each_weaker, each_append}

-- the fork in slot 1, and one block for each slot i + 2
pub data Block : Type 0 where
  first : Block
  other : Block
  next : ℕ → Block

abbrev pub stamp : Block → ℕ
stamp first = 1
stamp other = 1
stamp (next i) = suc (suc i)

-- the chain of slots 1 to i + 1
abbrev pub chain : ℕ → List Block
chain zero = first ∷ []
chain (suc i) = chain i ++ (next i ∷ [])

-- a block's link determines all that is before it
abbrev pub before : Block → List Block
before first = []
before other = []
before (next i) = chain i

abbrev pub Links : List Block → List Block → Type 0
Links done [] = Unit {0}
Links done (b ∷ c) = (before b ≡ done) × Links (done ++ (b ∷ [])) c

abbrev pub issued : ℕ → List Block
issued zero = []
issued (suc zero) = []
issued (suc (suc i)) = chain (suc i)

abbrev pub faulty : ℕ → Bool
faulty i = eqb i 1

abbrev pub run : Setting
run = record { Block = Block; stamp = stamp; valid = Links []; good = λ j. not (faulty ((j - 1) % 4 + 1)); issued = issued; end = 256 }

pub turns : Turns run 4 1 faulty
unfolding how_many
turns = record { enough = omega arith; few = omega arith; turn = λ j low high. refl }

-- ---- valid chains
links_left : (done u v : List Block) → Links done (u ++ v) → Links done u
links_left done [] v links = tt
links_left done (b ∷ u) v (is, links) = (is, links_left (done ++ (b ∷ [])) u v links)

links_at : (done u v : List Block) (b : Block) → Links done (u ++ b ∷ v) → before b ≡ done ++ u
links_at done [] v b (is, links) = is ∙ sym (append-nil done)
links_at done (a ∷ u) v b (is, links) = links_at (done ++ (a ∷ [])) u v b links ∙ append_assoc done (a ∷ []) u

links_more : (done u : List Block) (b : Block) → Links done u → before b ≡ done ++ u → Links done (u ++ (b ∷ []))
links_more done [] b links is = (is ∙ append-nil done, tt)
links_more done (a ∷ u) b (at, links) is = (at, links_more (done ++ (a ∷ [])) u b links (is ∙ sym (append_assoc done (a ∷ []) u)))

-- the last block's stamp, or n
abbrev last_of : ℕ → List Block → ℕ
last_of n [] = n
last_of n (b ∷ c) = last_of (stamp b) c

last_more : (n : ℕ) (c : List Block) (b : Block) → last_of n (c ++ (b ∷ [])) ≡ stamp b
last_more n [] b = refl
last_more n (a ∷ c) b = last_more (stamp a) c b

above : (b : Block) → last_of 0 (before b) < stamp b
above first = omega arith
above other = omega arith
above (next zero) = omega arith
above (next (suc i)) = omega (arith, last_more 0 (chain i) (next i))

links_rise : (done c : List Block) (n : ℕ) → last_of 0 done ≡ n → Links done c → Rises run n c
links_rise done [] n e links = tt
links_rise done (b ∷ c) n e (is, links) =
    (omega (arith, above b, ap (last_of 0) is), links_rise (done ++ (b ∷ [])) c (stamp b) (last_more 0 done b) links)

-- ---- what is issued
never : {A : Type 0} → false ≡ true → A
never e = absurd (let z : ◌≡◌ {A = ℕ} 0 1 = cc in omega arith)

one_of : (b : Block) → run.good (stamp b) ≡ true → (w : List Block) × (issued (stamp b) ≡ w ++ (b ∷ []))
one_of first good = never good
one_of other good = never good
one_of (next i) good = (chain i, refl)

chain_links : (i : ℕ) → Links [] (chain i)
chain_links zero = (refl, tt)
chain_links (suc i) = links_more [] (chain i) (next i) (chain_links i) refl

chain_below : (i : ℕ) → Below run (suc (suc i)) (chain i)
chain_below zero = (omega arith, tt)
chain_below (suc i) =
    each_append (λ b. stamp b < suc (suc (suc i))) (chain i) (next i ∷ []) (each_weaker (λ b h. omega arith) (chain i) (chain_below i)) (omega arith, tt)

chain_length : (i : ℕ) → length (chain i) ≡ suc i
chain_length zero = refl
chain_length (suc i) = omega (arith, length-append (chain i) (next i ∷ []), chain_length i)

short : (i : ℕ) → length (issued i) ≤ i
short zero = omega arith
short (suc zero) = omega arith
short (suc (suc i)) = omega (arith, chain_length (suc i))

chain_viable : (i : ℕ) → Viable run (suc (suc i)) (chain i)
chain_viable i =
    record { passes = chain_links i; below = chain_below i; long = λ k good low high. omega (arith, short k, chain_length i) }

issues : (i : ℕ) → run.good i ≡ true → 1 ≤ i → i ≤ 256 → Issue run i
issues zero good low high = absurd (omega arith)
issues (suc zero) good low high = never good
issues (suc (suc i)) good low high =
    record { before = chain i; block = next i; is = refl; stamped = refl; held = chain_viable i; passes = chain_links (suc i) }

pub laws : Laws run
laws = record {
  none = tt;
  prefix = links_left [];
  rises = λ c links. links_rise [] c 0 refl links;
  link = λ u u' v v' b links links'. sym (links_at [] u v b links) ∙ links_at [] u' v' b links';
  one_block = λ u v b links good high. one_of b good;
  issues = issues;
}

-- ---- the fork
pub two_are_viable : Viable run 2 (first ∷ []) × Viable run 2 (other ∷ [])
two_are_viable =
    (chain_viable 0, record { passes = (refl, tt); below = (omega arith, tt); long = λ k good low high. omega (arith, short k) })

pub one_is_settled : Viable run 12 (chain 10) × (settled run (depth_for 4 1) 12 (chain 10) ≡ first ∷ [])
unfolding settled
one_is_settled = (chain_viable 10, refl)
