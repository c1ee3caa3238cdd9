-- Section 3 of the argument, N: a viable chain has grown by a block in each good slot.
-- Section 5, any later slot: each slot has a viable chain, that of the slot before and at most one block more.
-- Assumes nothing.
use Prim.Native.Nat.{ℕ, zero, suc, ◌+◌, ◌-◌, ◌≤◌, ◌<◌}
use mathlib.Core.Path.{◌≡◌, refl, ap, subst}
use mathlib.Core.Bool.{Bool, true, false}
use mathlib.Core.List.{List, [], ◌∷◌, ◌++◌, append-nil}
use native.Mathlib.Omega.{arith}
use lib.ListN.{length, length-append}
use Rattle.laws.specs.Format.{Each}
use Rattle.laws.proofs.Cases.{lt_cases}
use Rattle.agreement.specs.Core.{Setting, good_between, Long, Viable, Issue, Laws}
use Rattle.agreement.proofs.Counts.{no_slot, one_passes, one_fails}
use Rattle.laws.proofs.Each.{each_weaker, each_append}

module _ (s : Setting) where
  -- where counting starts: slot 0 and no block, or a good slot and the chain issued in it
  abbrev pub Start : ℕ → List s.Block → Type 0
  Start zero m = m ≡ []
  Start (suc h) m = (s.good (suc h) ≡ true) × (m ≡ s.issued (suc h))

  start_fits : (h : ℕ) (m c : List s.Block) → Start h m → Long s (suc h) c → length m ≤ length c
  start_fits zero m c none long = omega (arith, ap length none)
  start_fits (suc h) m c (good, is) long = omega (arith, ap length is, long (suc h) good (omega arith) (omega arith))

  -- what a step from slot i to the next does to a viable chain: nothing, or one block stamped i
  pub record Step (i : ℕ) : Type 0 where
    pub before : List s.Block
    pub more : List s.Block
    pub stamped : Each (λ b. s.stamp b ≡ i) more
    pub earlier : Viable s i before
    pub later : Viable s (suc i) (before ++ more)

  module _ (laws : Laws s) where
    issued_length : (i : ℕ) (it : Issue s i) → length (s.issued i) ≡ suc (length it.before)
    issued_length i it = omega (arith, ap length it.is, length-append it.before (it.block ∷ []))

    -- N: the chain need not hold slot h
    pub grown : (n h : ℕ) (m c : List s.Block) → Start h m → h ≤ n → n ≤ s.end → Long s (suc n) c
        → length m + good_between s 0 n ≤ length c + good_between s 0 h
    grown zero h m c start upto in_run long =
        let e : h ≡ 0 = omega arith in
        omega (arith, start_fits h m c start (λ i good low high. long i good low (omega arith)), ap (good_between s 0) e)
    grown (suc n) h m c start upto in_run long =
        lt_cases n h
        (λ last. let e : h ≡ suc n = omega arith in
        omega (arith, start_fits h m c start (λ i good low high. long i good low (omega arith)), ap (good_between s 0) e))
        (λ before. by_slot (s.good (suc n)) refl (λ c' long'. grown n h m c' start before (omega arith) long'))
      where
        by_slot : (β : Bool) → s.good (suc n) ≡ β
            → ((c' : List s.Block) → Long s (suc n) c' → length m + good_between s 0 n ≤ length c' + good_between s 0 h)
            → length m + good_between s 0 (suc n) ≤ length c + good_between s 0 h
        by_slot true e grown' =
            let it = laws.issues (suc n) e (omega arith) in_run in
            omega (
              arith,
              one_passes s.good 0 n (omega arith) e,
              issued_length (suc n) it,
              long (suc n) e (omega arith) (omega arith),
              grown' it.before it.held.long,
            )
        by_slot false e grown' = omega (arith, one_fails s.good 0 n (omega arith) e, grown' c (λ i good low high. long i good low (omega arith)))

    pub growth : (j : ℕ) (c : List s.Block) → j ≤ s.end + 1 → Viable s j c → good_between s 0 (j - 1) ≤ length c
    growth zero c in_run v = omega (arith, no_slot s.good)
    growth (suc n) c in_run v =
        let e : suc n - 1 ≡ n = omega arith in
        omega (arith, grown n 0 [] c refl (omega arith) (omega arith) v.long, ap (good_between s 0) e, no_slot s.good)

    -- in a slot that is not a correct controller's turn a viable chain stays viable
    stays : (i : ℕ) (c : List s.Block) → (s.good i ≡ true → 1 ≤ i → ⊥) → Viable s i c → Viable s (suc i) (c ++ [])
    stays i c other v = rw (append-nil c) record {
      passes = v.passes;
      below = each_weaker (λ b h. omega arith) c v.below;
      long = λ k good low high.
          lt_cases k i (λ before. v.long k good low before)
          (λ same. let e : k ≡ i = omega arith in absurd (other (subst (λ (x : ℕ). s.good x ≡ true) e good) (omega arith)));
    }

    -- in a good slot the chain issued in it is viable next
    issued_viable : (i : ℕ) (it : Issue s i) → Viable s (suc i) (it.before ++ (it.block ∷ []))
    issued_viable i it = record {
      passes = subst s.valid it.is it.passes;
      below =
          each_append (λ b. s.stamp b < suc i) it.before (it.block ∷ []) (each_weaker (λ b h. omega arith) it.before it.held.below)
          (omega (arith, it.stamped), tt);
      long = λ k good low high.
          lt_cases k i (λ before. omega (arith, it.held.long k good low before, length-append it.before (it.block ∷ [])))
          (λ same. let e : k ≡ i = omega arith in omega (arith, ap (λ (x : ℕ). length (s.issued x)) e, ap length it.is));
    }

    step : (i : ℕ) → i ≤ s.end → (c : List s.Block) → Viable s i c → Step i
    step zero in_run c v = record { before = c; more = []; stamped = tt; earlier = v; later = stays 0 c (λ good low. omega arith) v }
    step (suc i) in_run c v = by_slot (s.good (suc i)) refl
      where
        by_slot : (β : Bool) → s.good (suc i) ≡ β → Step (suc i)
        by_slot true e =
            let it = laws.issues (suc i) e (omega arith) in_run in
            record { before = it.before; more = it.block ∷ []; stamped = (it.stamped, tt); earlier = it.held; later = issued_viable (suc i) it }
        by_slot false e =
            record {
              before = c;
              more = [];
              stamped = tt;
              earlier = v;
              later = stays (suc i) c (λ good low. let z : ◌≡◌ {A = ℕ} 0 1 = cc in omega arith) v;
            }

    pub some_viable : (j : ℕ) → j ≤ s.end + 1 → (c : List s.Block) × Viable s j c
    some_viable zero in_run = ([], record { passes = laws.none; below = tt; long = λ i good low high. absurd (omega arith) })
    some_viable (suc i) in_run =
        let (c, v) = some_viable i (omega arith) in
        let it = step i (omega arith) c v in
        (it.before ++ it.more, it.later)

    pub every_step : (i : ℕ) → i ≤ s.end → Step i
    every_step i in_run = let (c, v) = some_viable i (omega arith) in step i in_run c v
