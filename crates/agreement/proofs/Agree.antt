-- Section 5 of the argument: two chains viable at one slot have the same settled blocks there, and no later viable chain has others.
-- Assumes nothing.
use Prim.Native.Nat.{ℕ, zero, suc, ◌+◌, ◌-◌, ◌≤◌, ◌<◌}
use mathlib.Core.Path.{◌≡◌, sym, ap, ◌∙◌, subst}
use mathlib.Core.List.{List, [], ◌++◌}
use native.Mathlib.Omega.{arith}
use lib.ListN.{length, length-append}
use Rattle.laws.proofs.Cases.{lt_cases}
use Rattle.agreement.specs.Core.{Setting, good_between, bad, bad_between, Windows, Begins, settled, Viable, Laws}
use Rattle.agreement.proofs.Counts.{between, all}
use Rattle.laws.proofs.Each.{each_weaker}
use Rattle.agreement.proofs.Chains.{settled_front, settled_part, settled_earlier}
use Rattle.agreement.proofs.Growth.{Start, grown, every_step}
use Rattle.agreement.proofs.Common.{Common, common}

module _ (s : Setting) (laws : Laws s) where
  -- N, for what a chain has besides the shared blocks
  besides : (n h : ℕ) (shared own c : List s.Block) → Start s h shared → c ≡ shared ++ own → h ≤ n → n ≤ s.end → Viable s (suc n) c
      → good_between s 0 n ≤ length own + good_between s 0 h
  besides n h shared own c start is upto in_run viable =
      omega (arith, grown s laws n h shared c start upto in_run viable.long, ap length is, length-append shared own)

  module _ (depth : ℕ) (window : Windows s depth) where
    -- "Ordinary": the last good slot on both is no more slots ago than the depth
    near : (n : ℕ) (c e : List s.Block) → n ≤ s.end → Viable s (suc n) c → Viable s (suc n) e → (k : Common s n c e) → n < k.slot + depth
    near n c e in_run c-viable e-viable k =
        let h = k.slot in
        lt_cases n (h + depth) (λ less. less)
        (λ far.
        let whole : h + (n - h) ≡ n = omega (arith, k.upto) in
        absurd (omega (
          arith,
          window h (n - h) (omega arith) (omega arith),
          ap (bad_between s h) whole,
          between (bad s) h n k.upto,
          all s.good n,
          all s.good h,
          k.few,
          besides n h k.shared k.left c k.start k.c_is k.upto in_run c-viable,
          besides n h k.shared k.right e k.start k.e_is k.upto in_run e-viable,
        )))

    -- "Same slot"
    pub same_slot : (j : ℕ) (c e : List s.Block) → j ≤ s.end + 1 → Viable s j c → Viable s j e → settled s depth j c ≡ settled s depth j e
    same_slot zero c e in_run c-viable e-viable =
        settled_part s depth 0 [] c (each_weaker (λ b h. omega arith) c c-viable.below)
        ∙ sym (settled_part s depth 0 [] e (each_weaker (λ b h. omega arith) e e-viable.below))
    same_slot (suc n) c e in_run c-viable e-viable =
        let k = common s laws n c e (omega arith) c-viable.passes e-viable.passes c-viable.below e-viable.below in
        let close = near n c e (omega arith) c-viable e-viable k in
        ap (settled s depth (suc n)) k.c_is
        ∙ settled_part s depth (suc n) k.shared k.left (each_weaker (λ b h. omega (arith, close)) k.left k.c_after)
        ∙ sym (settled_part s depth (suc n) k.shared k.right (each_weaker (λ b h. omega (arith, close)) k.right k.e_after))
        ∙ sym (ap (settled s depth (suc n)) k.e_is)

    -- "Any later slot": through a viable chain at each slot between
    pub later_slots : (j j' : ℕ) (c e : List s.Block) → j ≤ j' → j' ≤ s.end + 1 → Viable s j c → Viable s j' e
        → settled s depth j c ≡ settled s depth j e
    later_slots j zero c e h in_run c-viable e-viable =
        let at : 0 ≡ j = omega arith in same_slot j c e (omega arith) c-viable (subst (λ (x : ℕ). Viable s x e) at e-viable)
    later_slots j (suc i) c e h in_run c-viable e-viable =
        lt_cases i j
        (λ last. let at : suc i ≡ j = omega arith in same_slot j c e (omega arith) c-viable (subst (λ (x : ℕ). Viable s x e) at e-viable))
        (λ before.
        let it = every_step s laws i (omega arith) in
        let next = it.before ++ it.more in
        later_slots j i c it.before before (omega arith) c-viable it.earlier
        ∙ sym (settled_part s depth j it.before it.more (each_weaker (λ b h. omega arith) it.more it.stamped))
        ∙ sym (settled_earlier s depth j (suc i) next h)
        ∙ ap (settled s depth j) (same_slot (suc i) next e in_run it.later e-viable)
        ∙ settled_earlier s depth j (suc i) e h)

    module _ (j j' : ℕ) (c e : List s.Block) (h : j ≤ j') (in_run : j' ≤ s.end + 1) (c-viable : Viable s j c) (e-viable : Viable s j' e) where
      pub later_chain : Begins (settled s depth j c) e
      later_chain = rw (later_slots j j' c e h in_run c-viable e-viable) (settled_front s depth j e)

      pub later_settled : Begins (settled s depth j c) (settled s depth j' e)
      later_settled =
          rw (later_slots j j' c e h in_run c-viable e-viable, ← settled_earlier s depth j j' e h) (settled_front s depth j (settled s depth j' e))
