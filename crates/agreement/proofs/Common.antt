-- Section 3 of the argument, C, and section 5: what two valid chains share, up to the last good slot on both, and how much each has besides.
-- Assumes nothing.
use Prim.Native.Nat.{ℕ, zero, suc, ◌+◌, ◌≤◌, ◌<◌}
use mathlib.Core.Path.{◌≡◌, refl, sym, ap, ◌∙◌, subst}
use mathlib.Core.Bool.{Bool, true, false, not}
use mathlib.Core.List.{List, [], ◌∷◌, ◌++◌, append-nil, append_assoc}
use native.Mathlib.Omega.{arith}
use lib.ListN.{length, length-append}
use Rattle.laws.specs.Format.{Each}
use Rattle.laws.proofs.Cases.{lt_cases}
use Rattle.agreement.specs.Core.{Setting, bad, bad_between, Below, Laws}
use Rattle.agreement.proofs.Counts.{one_passes, one_fails}
use Rattle.laws.proofs.Each.{each_weaker, each_append, each_parts, Ends, nothing, last, ends}
use Rattle.agreement.proofs.Chains.{rises_to}
use Rattle.agreement.proofs.Growth.{Start}

module _ (s : Setting) where
  -- a chain with stamps up to n + 1: the part with stamps up to n, and the block stamped n + 1 if there is one
  record Top (n : ℕ) (c : List s.Block) : Type 0 where
    lower : List s.Block
    upper : List s.Block
    is : c ≡ lower ++ upper
    passes : s.valid lower
    below : Below s (suc n) lower
    stamped : Each (λ b. s.stamp b ≡ suc n) upper
    one : length upper ≤ 1

  -- both begin with the chain of `slot`; a good slot after it is on one of them at most, a bad one perhaps on both
  pub record Common (n : ℕ) (c e : List s.Block) : Type 0 where
    pub slot : ℕ
    pub shared : List s.Block
    pub left : List s.Block
    pub right : List s.Block
    pub upto : slot ≤ n
    pub start : Start s slot shared
    pub c_is : c ≡ shared ++ left
    pub e_is : e ≡ shared ++ right
    pub c_after : Each (λ b. slot < s.stamp b) left
    pub e_after : Each (λ b. slot < s.stamp b) right
    pub few : length left + length right + (slot + bad_between s 0 slot) ≤ n + bad_between s 0 n

  module _ (laws : Laws s) where
    top : (n : ℕ) (c : List s.Block) → s.valid c → Below s (suc (suc n)) c → Top n c
    top n c passes below = by_end c (ends c) passes below
      where
        by_end : (c : List s.Block) → Ends c → s.valid c → Below s (suc (suc n)) c → Top n c
        by_end c nothing passes below =
            record { lower = []; upper = []; is = refl; passes = laws.none; below = tt; stamped = tt; one = omega arith }
        by_end c (last u b) passes below =
            let (low, under) = rises_to s 0 u b (laws.rises (u ++ (b ∷ [])) passes) in
            let (high, t) = (each_parts (λ a. s.stamp a < suc (suc n)) u (b ∷ []) below).1 in
            lt_cases (s.stamp b) (suc n)
            (λ less. record {
              lower = u ++ (b ∷ []);
              upper = [];
              is = sym (append-nil (u ++ (b ∷ [])));
              passes = passes;
              below = each_append (λ a. s.stamp a < suc n) u (b ∷ []) (each_weaker (λ a h. omega arith) u under) (less, tt);
              stamped = tt;
              one = omega arith;
            })
            (λ same. record {
              lower = u;
              upper = b ∷ [];
              is = refl;
              passes = laws.prefix u (b ∷ []) passes;
              below = each_weaker (λ a h. omega arith) u under;
              stamped = (omega arith, tt);
              one = omega arith;
            })

    -- no stamp is 0
    no_block : (c : List s.Block) → s.valid c → Below s 1 c → c ≡ []
    no_block [] passes below = refl
    no_block (b ∷ c) passes (low, below) = let (high, more) = laws.rises (b ∷ c) passes in absurd (omega arith)

    -- A2 and A3: a valid chain that ends in a block with a good stamp is the one issued in that slot
    own : (c u m : List s.Block) (b : s.Block) → s.valid c → c ≡ u ++ b ∷ m → length m ≤ 0
        → s.good (s.stamp b) ≡ true → 1 ≤ s.stamp b → s.stamp b ≤ s.end → c ≡ s.issued (s.stamp b)
    own c u m b passes is short good low in_run =
        let here : s.valid (u ++ b ∷ m) = subst s.valid is passes in
        let (w, w-is) = laws.one_block u m b here good in_run in
        let there : s.valid (w ++ (b ∷ [])) = subst s.valid w-is (laws.issues (s.stamp b) good low in_run).passes in
        is ∙ ap (λ l. l ++ b ∷ m) (laws.link u w m [] b here there) ∙ ap (λ l. w ++ b ∷ l) (none m short) ∙ sym w-is
      where
        none : (m : List s.Block) → length m ≤ 0 → m ≡ []
        none [] h = refl
        none (a ∷ m) h = absurd (omega arith)

    -- the same, at the slot's number
    top_own : (n : ℕ) (c : List s.Block) (x : Top n c) (b : s.Block) (m : List s.Block) → x.upper ≡ b ∷ m → s.valid c
        → s.good (suc n) ≡ true → suc n ≤ s.end → c ≡ s.issued (suc n)
    top_own n c x b m upper passes good in_run =
        let (stamped, more) = subst (Each (λ a. s.stamp a ≡ suc n)) upper x.stamped in
        own c x.lower m b passes (x.is ∙ ap (λ l. x.lower ++ l) upper) (omega (arith, x.one, ap length upper))
        (subst (λ (i : ℕ). s.good i ≡ true) (sym stamped) good) (omega arith) (omega arith)
        ∙ ap s.issued stamped

    -- one slot more, where the chains do not share its block
    widen : (n : ℕ) (c e : List s.Block) (x : Top n c) (y : Top n e) → Common n x.lower y.lower
        → length x.upper + length y.upper + bad_between s 0 n ≤ suc (bad_between s 0 (suc n)) → Common (suc n) c e
    widen n c e x y k fits =
        let after : s.Block → Type 0 = λ b. k.slot < s.stamp b in
        let new : (b : s.Block) → s.stamp b ≡ suc n → after b = λ b h. omega (arith, k.upto) in
        record {
          slot = k.slot;
          shared = k.shared;
          left = k.left ++ x.upper;
          right = k.right ++ y.upper;
          upto = omega arith;
          start = k.start;
          c_is = x.is ∙ ap (λ l. l ++ x.upper) k.c_is ∙ append_assoc k.shared k.left x.upper;
          e_is = y.is ∙ ap (λ l. l ++ y.upper) k.e_is ∙ append_assoc k.shared k.right y.upper;
          c_after = each_append after k.left x.upper k.c_after (each_weaker new x.upper x.stamped);
          e_after = each_append after k.right y.upper k.e_after (each_weaker new y.upper y.stamped);
          few = omega (arith, k.few, length-append k.left x.upper, length-append k.right y.upper);
        }

    -- one slot more: a good slot that is on both is the end of all that they share
    next : (n : ℕ) (c e : List s.Block) → s.valid c → s.valid e → suc n ≤ s.end → (x : Top n c) (y : Top n e)
        → Common n x.lower y.lower → Common (suc n) c e
    next n c e c-passes e-passes in_run x y k = by_slot (s.good (suc n)) refl x.upper y.upper refl refl
      where
        by_slot : (β : Bool) → s.good (suc n) ≡ β → (p q : List s.Block) → x.upper ≡ p → y.upper ≡ q → Common (suc n) c e
        by_slot true g [] q p-is q-is =
            widen n c e x y k (omega (arith, ap length p-is, y.one, one_fails (bad s) 0 n (omega arith) (ap not g)))
        by_slot true g (b ∷ p) [] p-is q-is =
            widen n c e x y k (omega (arith, ap length q-is, x.one, one_fails (bad s) 0 n (omega arith) (ap not g)))
        by_slot true g (b ∷ p) (a ∷ q) p-is q-is =
            let here = s.issued (suc n) in
            record {
              slot = suc n;
              shared = here;
              left = [];
              right = [];
              upto = omega arith;
              start = (g, refl);
              c_is = top_own n c x b p p-is c-passes g in_run ∙ sym (append-nil here);
              e_is = top_own n e y a q q-is e-passes g in_run ∙ sym (append-nil here);
              c_after = tt;
              e_after = tt;
              few = omega arith;
            }
        by_slot false g p q p-is q-is =
            widen n c e x y k (omega (arith, x.one, y.one, one_passes (bad s) 0 n (omega arith) (ap not g)))

    pub common : (n : ℕ) (c e : List s.Block) → n ≤ s.end → s.valid c → s.valid e
        → Below s (suc n) c → Below s (suc n) e → Common n c e
    common zero c e in_run c-passes e-passes c-below e-below = record {
      slot = 0;
      shared = [];
      left = [];
      right = [];
      upto = omega arith;
      start = refl;
      c_is = no_block c c-passes c-below;
      e_is = no_block e e-passes e-below;
      c_after = tt;
      e_after = tt;
      few = omega arith;
    }
    common (suc n) c e in_run c-passes e-passes c-below e-below =
        let x = top n c c-passes c-below in
        let y = top n e e-passes e-below in
        next n c e c-passes e-passes in_run x y (common n x.lower y.lower (omega arith) x.passes y.passes x.below y.below)
