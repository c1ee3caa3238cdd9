-- A number's groups, taken one after the other from the lowest: what the reading loop keeps.
-- Assumes nothing.
use mathlib.Core.Path.{◌≡◌, refl, subst}
use mathlib.Core.List.{List}
use Prim.Native.Nat.{ℕ, zero, suc, ◌+◌, ◌-◌, ◌*◌, ◌%◌, ◌^◌, ◌<◌, ◌≤◌}
use native.Mathlib.Omega.{arith}
use native.Mathlib.Nat.{mul_comm, pow-le-pow_right}
use Rattle.laws.proofs.Cases.{lt_cases}
use lib.Dec.{ltb, lit<}
use lib.ListN.{length, get_or}
use borrow.Author.Tests.{lt-ltb, le-ltb, ltb-true}
use Rattle.laws.specs.Told.{Told, gives, refuses, Found, found}
use Rattle.laws.proofs.Told.{gives_not_refuses, gives_same, then_gives, unless_gives}
use Rattle.number.specs.Number.{joined, read_groups, number_at}
use Rattle.number.specs.Steps.{finished}

pub joined_finished : (group : ℕ) (rest : Told (Found ℕ)) → joined group rest ≡ finished (group % 128) 128 rest
joined_finished group (refuses number place) = refl
joined_finished group (gives r) = simp (mul_comm 128 r.value)

pub finished_joined : (low scale group : ℕ) (rest : Told (Found ℕ))
    → finished low scale (joined group rest) ≡ finished (low + group % 128 * scale) (scale * 128) rest
finished_joined low scale group (refuses number place) = refl
finished_joined low scale group (gives r) =
    lt_cases 0 r.value
    (λ more.
    let positive : 0 < group % 128 + 128 * r.value = omega arith in
    let same : low + (group % 128 + 128 * r.value) * scale ≡ low + group % 128 * scale + r.value * (scale * 128) = omega arith in
    simp (lt-ltb _ _ more, lt-ltb _ _ positive, same))
    (λ none. simp (le-ltb _ _ none))

-- what the loop multiplies by stays below 128 to the fourth
pub small_scale : (groups scale : ℕ) → groups < 5 → scale ≡ 128 ^ groups → scale ≤ 128 ^ 4
small_scale groups scale few is = let at_most : groups ≤ 4 = omega arith in rw is (pow-le-pow_right {n = 128} (lit< tt) at_most)

-- what a turn finds where fewer than five groups were passed
module _ (low scale passed : ℕ) (s : List ℕ) (at : ℕ) (few : passed < 5) where
  one_less : 5 - passed ≡ suc (5 - (passed + 1))
  one_less = omega arith

  pub turn_cut : length s ≤ at → finished low scale (read_groups (5 - passed) s at) ≡ refuses 3 0
  unfolding read_groups
  turn_cut h = rw one_less (simp (le-ltb _ _ h))

  module _ (inside : at < length s) where
    pub turn_none : get_or s at 0 ≡ 0 → finished low scale (read_groups (5 - passed) s at) ≡ refuses 4 0
    unfolding read_groups
    turn_none h = rw one_less (simp (lt-ltb _ _ inside, h))

    pub turn_last : 0 < get_or s at 0 → get_or s at 0 < 128
        → finished low scale (read_groups (5 - passed) s at) ≡ found (low + get_or s at 0 * scale) (at + 1)
    unfolding read_groups
    turn_last positive h = rw one_less (simp (lt-ltb _ _ inside, lt-ltb _ _ h, lt-ltb _ _ positive))

    pub turn_more : 128 ≤ get_or s at 0
        → finished low scale (read_groups (5 - passed) s at)
        ≡ finished (low + get_or s at 0 % 128 * scale) (scale * 128) (read_groups (5 - (passed + 1)) s (at + 1))
    unfolding read_groups
    turn_more h =
        rw one_less
        (simp (lt-ltb _ _ inside, le-ltb _ _ h) (finished_joined low scale (get_or s at 0) (read_groups (5 - (passed + 1)) s (at + 1))))

pub turns_over : (low scale passed : ℕ) (s : List ℕ) (at : ℕ) → 5 ≤ passed → finished low scale (read_groups (5 - passed) s at) ≡ refuses 4 0
unfolding read_groups
turns_over low scale passed s at h = let over : 5 - passed ≡ 0 = omega arith in rw over

-- a number by its first group
module _ (s : List ℕ) (at : ℕ) where
  pub number_cut : length s ≤ at → number_at s at ≡ refuses 3 0
  unfolding number_at read_groups
  number_cut h = simp (le-ltb _ _ h)

  module _ (inside : at < length s) where
    pub number_one : get_or s at 0 < 128 → number_at s at ≡ found (get_or s at 0) (at + 1)
    unfolding number_at read_groups
    number_one h = simp (lt-ltb _ _ inside, lt-ltb _ _ h)

    pub number_more : 128 ≤ get_or s at 0 → number_at s at ≡ finished (get_or s at 0 % 128) 128 (read_groups 4 s (at + 1))
    unfolding number_at read_groups
    number_more h =
        simp (lt-ltb _ _ inside, le-ltb _ _ h) (joined_finished (get_or s at 0) (read_groups 4 s (at + 1)))

-- a number that reads ends behind its place, within the bytes, and after five of them at most
pub record Ends (s : List ℕ) (at most : ℕ) (r : Found ℕ) : Type 0 where
  pub moves : at < r.next
  pub inside : r.next ≤ length s
  pub soon : r.next ≤ most

groups_end : (k : ℕ) (s : List ℕ) (at : ℕ) (r : Found ℕ) → read_groups k s at ≡ gives r → Ends s at (at + k) r
unfolding read_groups
groups_end zero s at r e = gives_not_refuses e
groups_end (suc k) s at r e =
    let (inside, rest) = unless_gives (ltb at (length s)) 3 0 _ r e in
    let here = ltb-true at (length s) inside in
    lt_cases (get_or s at 0) 128
    (λ last.
    subst (Ends s at (at + suc k)) (gives_same (simp (lt-ltb _ _ last) at rest))
    (record { moves = omega arith; inside = omega arith; soon = omega arith }))
    (λ more.
    let (q, reads, ends) = then_gives (read_groups k s (at + 1)) _ r (simp (le-ltb _ _ more) at rest) in
    let (shortest, is) = unless_gives (ltb 0 q.value) 4 0 _ r ends in
    let later = groups_end k s (at + 1) q reads in
    subst (Ends s at (at + suc k)) (gives_same is)
    (record { moves = omega (arith, later.moves); inside = later.inside; soon = omega (arith, later.soon) }))

pub number_ends : (s : List ℕ) (at : ℕ) (r : Found ℕ) → number_at s at ≡ gives r → Ends s at (at + 5) r
unfolding number_at
number_ends s at r e = groups_end 5 s at r e
