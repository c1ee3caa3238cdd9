-- Counting slots that pass a test: one slot more, counts from slot 0, and all slots in a window.
-- Assumes nothing.
use Prim.Native.Nat.{ℕ, zero, suc, ◌+◌, ◌≤◌}
use mathlib.Core.Path.{◌≡◌, refl, ap, ◌∙◌}
use mathlib.Core.Bool.{Bool, true, false, not}
use native.Mathlib.Omega.{arith}
use borrow.Author.Tests.{le-leb, lt-leb}
use Rattle.laws.specs.Pick.{pick}
use Rattle.laws.proofs.Cases.{lt_cases}
use Rattle.agreement.specs.Core.{how_many}

one : (t : Bool) → pick t 1 0 ≤ 1
one true = omega arith
one false = omega arith

either : (t : Bool) → pick t 1 0 + pick (not t) 1 0 ≡ 1
either true = refl
either false = refl

module _ (test : ℕ → Bool) where
  pub no_slot : how_many test 0 0 ≡ 0
  unfolding how_many
  no_slot = refl

  -- past its end a window is empty
  pub empty : (a b : ℕ) → b ≤ a → how_many test a b ≡ 0
  unfolding how_many
  empty a zero h = refl
  empty a (suc b) h = rw (lt-leb a b h) (omega (arith, empty a b (omega arith)))

  pub one_more : (a b : ℕ) → a ≤ b → how_many test a (suc b) ≡ pick (test (suc b)) 1 0 + how_many test a b
  unfolding how_many
  one_more a b h = rw (le-leb a b h)

  pub one_passes : (a b : ℕ) → a ≤ b → test (suc b) ≡ true → how_many test a (suc b) ≡ suc (how_many test a b)
  one_passes a b h e = one_more a b h ∙ rw e (omega arith)

  pub one_fails : (a b : ℕ) → a ≤ b → test (suc b) ≡ false → how_many test a (suc b) ≡ how_many test a b
  one_fails a b h e = one_more a b h ∙ rw e (omega arith)

  -- a window from a to b, as the difference of two counts from 0
  pub between : (a b : ℕ) → a ≤ b → how_many test 0 a + how_many test a b ≡ how_many test 0 b
  between a zero h = omega (arith, no_slot, empty a 0 (omega arith), empty 0 a h)
  between a (suc b) h =
      lt_cases b a (λ past. let e : a ≡ suc b = omega arith in omega (arith, empty a (suc b) (omega arith), ap (how_many test 0) e))
      (λ in-it. omega (arith, between a b in-it, one_more a b in-it, one_more 0 b (omega arith)))

  -- each slot counts once at most
  pub at_most : (a r : ℕ) → how_many test 0 (a + r) ≤ how_many test 0 a + r
  at_most a zero = let e : a + 0 ≡ a = omega arith in omega (arith, ap (how_many test 0) e)
  at_most a (suc r) =
      let e : a + suc r ≡ suc (a + r) = omega arith in
      omega (arith, ap (how_many test 0) e, one_more 0 (a + r) (omega arith), one (test (suc (a + r))), at_most a r)

-- tests that agree on the slots of a window count alike there
pub alike : (f g : ℕ → Bool) (a b : ℕ) → ((i : ℕ) → 1 ≤ i → i ≤ b → f i ≡ g i) → how_many f a b ≡ how_many g a b
unfolding how_many
alike f g a zero same = refl
alike f g a (suc b) same =
    rw (same (suc b) (omega arith) (omega arith), alike f g a b (λ i low high. same i low (omega arith)))

-- a slot passes a test, or it does not
pub all : (test : ℕ → Bool) (n : ℕ) → how_many test 0 n + how_many (λ i. not (test i)) 0 n ≡ n
all test zero = omega (arith, no_slot test, no_slot (λ i. not (test i)))
all test (suc n) =
    let low : 0 ≤ n = omega arith in
    omega (arith, one_more test 0 n low, one_more (λ i. not (test i)) 0 n low, either (test (suc n)), all test n)
