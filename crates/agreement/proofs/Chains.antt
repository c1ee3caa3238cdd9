-- Lists of blocks: those before the last one, and the settled ones at the front.
-- Assumes nothing.
use Prim.Native.Nat.{ℕ, ◌+◌, ◌≤◌, ◌<◌}
use mathlib.Core.Path.{◌≡◌, refl, ap}
use mathlib.Core.Bool.{Bool, true, false}
use mathlib.Core.List.{List, [], ◌∷◌, ◌++◌}
use native.Mathlib.Omega.{arith}
use lib.Dec.{ltb}
use borrow.Author.Tests.{lt-ltb, le-ltb}
use Rattle.laws.specs.Pick.{pick}
use Rattle.laws.specs.Format.{Each}
use Rattle.laws.proofs.Cases.{lt_cases}
use Rattle.laws.proofs.Each.{each_weaker}
use Rattle.agreement.specs.Core.{Setting, Begins, Rises, settled, Parted}

module _ (s : Setting) where
  -- in front of the last block all stamps are below its own
  pub rises_to : (least : ℕ) (u : List s.Block) (b : s.Block) → Rises s least (u ++ (b ∷ []))
      → (least < s.stamp b) × Each (λ a. s.stamp a < s.stamp b) u
  rises_to least [] b (h, t) = (h, tt)
  rises_to least (a ∷ u) b (h, t) = let (low, each) = rises_to (s.stamp a) u b t in (omega arith, (low, each))

  rises_above : (least : ℕ) (c : List s.Block) → Rises s least c → Each (λ b. least < s.stamp b) c
  rises_above least [] rises = tt
  rises_above least (b ∷ c) (h, rises) = (h, each_weaker (λ a above. omega arith) c (rises_above (s.stamp b) c rises))

  module _ (depth : ℕ) where
    -- settled blocks are the front of the chain
    pub settled_front : (j : ℕ) (c : List s.Block) → Begins (settled s depth j c) c
    unfolding settled
    settled_front j [] = ([], refl)
    settled_front j (b ∷ c) = by_test (ltb (s.stamp b + depth) j) (settled_front j c)
      where
        by_test : (β : Bool) → Begins (settled s depth j c) c → Begins (pick β (b ∷ settled s depth j c) []) (b ∷ c)
        by_test true (rest, e) = (rest, ap (λ l. b ∷ l) e)
        by_test false (rest, e) = (b ∷ c, refl)

    -- blocks that are not settled change nothing
    pub settled_part : (j : ℕ) (u v : List s.Block) → Each (λ b. j ≤ s.stamp b + depth) v → settled s depth j (u ++ v) ≡ settled s depth j u
    unfolding settled
    settled_part j [] [] each = refl
    settled_part j [] (b ∷ v) (h, each) = rw (le-ltb (s.stamp b + depth) j h)
    settled_part j (a ∷ u) v each = rw (settled_part j u v each)

    pub issued_unsettled : (j : ℕ) (c : List s.Block) (b : s.Block) → s.stamp b ≡ j → settled s depth j (c ++ (b ∷ [])) ≡ settled s depth j c
    issued_unsettled j c b h = settled_part j c (b ∷ []) (omega arith, tt)

    -- what is settled earlier is settled later
    pub settled_earlier : (j j' : ℕ) (c : List s.Block) → j ≤ j' → settled s depth j (settled s depth j' c) ≡ settled s depth j c
    unfolding settled
    settled_earlier j j' [] h = refl
    settled_earlier j j' (b ∷ c) h =
        let place = s.stamp b + depth in
        lt_cases place j' (λ in-it. rw (lt-ltb place j' in-it, settled_earlier j j' c h)) (λ past. rw (le-ltb place j' past, le-ltb place j (omega arith)))

    -- where stamps rise, a block that is not settled has none behind it that is
    pub settled_parts : (j least : ℕ) (c : List s.Block) → Rises s least c → Parted s depth j (settled s depth j c) c
    unfolding settled
    settled_parts j least [] rises = ([], refl, tt, tt)
    settled_parts j least (b ∷ c) (h, rises) =
        lt_cases (s.stamp b + depth) j
        (λ below. let (rest, e, front, behind) = settled_parts j (s.stamp b) c rises in
        rw (lt-ltb (s.stamp b + depth) j below) (rest, ap (λ l. b ∷ l) e, (below, front), behind))
        (λ past. rw (le-ltb (s.stamp b + depth) j past)
        (b ∷ c, refl, tt, (past, each_weaker (λ a above. omega arith) c (rises_above (s.stamp b) c rises))))
