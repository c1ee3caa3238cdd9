-- Section 4 of the argument: with n at least 3t + 1, fewer than a third of any window of `depth_for n t` slots or more are bad. A window is some rounds of
-- turns and a part of one.
-- Assumes nothing.
use Prim.Native.Nat.{ℕ, zero, suc, ◌+◌, ◌-◌, ◌*◌, ◌/◌, ◌%◌, ◌≤◌, ◌<◌}
use mathlib.Core.Path.{◌≡◌, sym, ap, subst, ◌∙◌}
use mathlib.Core.Bool.{Bool, not, not-not}
use native.Mathlib.Nat.{mod-eq_of_lt, add-mod_right, mod-lt, div-add-mod', suc-mul, mul-add, mul_assoc, mul_comm, mul_left_comm, mul-le-mul_left, mul-le-mul_right}
use native.Mathlib.Omega.{arith}
use Rattle.laws.specs.Pick.{pick}
use Rattle.laws.specs.Depth.{depth_for}
use Rattle.laws.proofs.Cases.{lt_cases}
use Rattle.agreement.specs.Core.{Setting, how_many, bad, bad_between, Windows, Enough, Turns}
use Rattle.agreement.proofs.Counts.{no_slot, one_more, between, at_most, alike}

module _ (n : ℕ) (test : ℕ → Bool) (again : (i : ℕ) → test (suc (i + n)) ≡ test (suc i)) where
  -- n slots in a row hold what the first n hold
  round : (a : ℕ) → how_many test 0 (a + n) ≡ how_many test 0 a + how_many test 0 n
  round zero = let e : 0 + n ≡ n = omega arith in omega (arith, ap (how_many test 0) e, no_slot test)
  round (suc a) =
      let e : suc a + n ≡ suc (a + n) = omega arith in
      let slot = ap (λ (β : Bool). pick {A = ℕ} β 1 0) (again a) in
      omega (arith, ap (how_many test 0) e, one_more test 0 (a + n) (omega arith), one_more test 0 a (omega arith), slot, round a)

  module _ (t : ℕ) (enough : Enough n t) (few : how_many test 0 n ≤ t) where
    -- no more than t in n slots or fewer
    short : (a r : ℕ) → r ≤ n → how_many test 0 (a + r) ≤ how_many test 0 a + t
    short a r h = omega (arith, between test (a + r) (a + n) (omega arith), round a)

    -- q rounds and r slots more hold q times what a round holds, and what the r slots hold
    rounds : (q a r : ℕ) → how_many test 0 (a + (q * n + r)) ≡ how_many test 0 (a + r) + q * how_many test 0 n
    rounds zero a r = let e : a + (0 * n + r) ≡ a + r = omega arith in omega (arith, ap (how_many test 0) e)
    rounds (suc q) a r =
        let e : a + (suc q * n + r) ≡ a + (q * n + r) + n = omega (arith, suc-mul q n) in
        omega (arith, ap (how_many test 0) e, round (a + (q * n + r)), rounds q a r, suc-mul q (how_many test 0 n))

    -- how far n lies above 3t, and how often that goes into 2t
    abbrev spare : ℕ
    spare = n - 3 * t

    abbrev times : ℕ
    times = 2 * t / spare

    depth_is : depth_for n t ≡ 3 * (times * t) + 3 * t + 1
    depth_is = omega (arith, mul_assoc 3 t (times + 1), mul-add t times 1, mul_comm t times)

    -- few rounds: no more bad slots than the depth allows
    few_rounds : (q a r : ℕ) → r ≤ n → q ≤ times → depth_for n t ≤ q * n + r
        → 3 * how_many test 0 (a + (q * n + r)) < 3 * how_many test 0 a + (q * n + r)
    few_rounds q a r part some h =
        omega (
          arith,
          rounds q a r,
          short a r part,
          mul-le-mul_left q few,
          mul-le-mul_right t some,
          depth_is,
        )

    -- many rounds: in each of them `spare` slots more are good than three times its bad ones, together more than 2t
    many_rounds : (q a r : ℕ) → r ≤ n → times < q → 3 * how_many test 0 (a + (q * n + r)) < 3 * how_many test 0 a + (q * n + r)
    many_rounds q a r part more =
        let whole : 3 * t + spare ≡ n = omega (arith, enough) in
        let parts : q * n ≡ 3 * (q * t) + q * spare = sym (ap (λ (m : ℕ). q * m) whole) ∙ mul-add q (3 * t) spare ∙ ap (λ (m : ℕ). m + q * spare) (mul_left_comm q 3 t) in
        let above : 2 * t < times * spare + spare = omega (arith, div-add-mod' (2 * t) spare, mod-lt (2 * t) {m = spare} (omega (arith, enough))) in
        omega (
          arith,
          rounds q a r,
          short a r part,
          at_most test a r,
          mul-le-mul_left q few,
          parts,
          above,
          mul-le-mul_right spare more,
          suc-mul times spare,
        )

    third : (a slots : ℕ) → depth_for n t ≤ slots → 3 * how_many test 0 (a + slots) < 3 * how_many test 0 a + slots
    third a slots h =
        let q = slots / n in
        let r = slots % n in
        let some : 0 < n = omega (arith, enough) in
        let is : q * n + r ≡ slots = div-add-mod' slots n in
        let part = mod-lt slots {m = n} some in
        subst (λ (l : ℕ). 3 * how_many test 0 (a + l) < 3 * how_many test 0 a + l) is
        (lt_cases times q (λ more. many_rounds q a r (omega arith) more)
        (λ few_ones. few_rounds q a r (omega arith) few_ones (omega (arith, is))))

module _ (s : Setting) (n t : ℕ) (faulty : ℕ → Bool) (turns : Turns s n t faulty) where
  -- whether the slot is a faulty controller's turn, past the end of the run too
  abbrev theirs : ℕ → Bool
  theirs j = faulty ((j - 1) % n + 1)

  again : (i : ℕ) → theirs (suc (i + n)) ≡ theirs (suc i)
  again i =
      let far : suc (i + n) - 1 ≡ i + n = omega arith in
      let near : suc i - 1 ≡ i = omega arith in
      ap (λ (x : ℕ). faulty (x + 1)) (ap (λ (x : ℕ). x % n) far ∙ add-mod_right i n ∙ sym (ap (λ (x : ℕ). x % n) near))

  first : how_many theirs 0 n ≡ how_many faulty 0 n
  first =
      alike theirs faulty 0 n
      (λ i low high. let e : (i - 1) % n + 1 ≡ i = omega (arith, mod-eq_of_lt {n = i - 1} {m = n} (omega arith)) in ap faulty e)

  in_the_run : (a b : ℕ) → b ≤ s.end → bad_between s a b ≡ how_many theirs a b
  in_the_run a b h = alike (bad s) theirs a b (λ i low high. ap not (turns.turn i low (omega arith)) ∙ not-not (theirs i))

  pub windows : Windows s (depth_for n t)
  windows from slots h in_run =
      let few : how_many theirs 0 n ≤ t = omega (arith, first, turns.few) in
      let fewer = third n theirs again t turns.enough few from slots h in
      omega (arith, fewer, between theirs from (from + slots) (omega arith), in_the_run from (from + slots) in_run)
