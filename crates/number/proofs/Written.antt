-- How a number's bytes go on from its lowest group, and how many there are.
-- Assumes nothing.
use mathlib.Core.Path.{◌≡◌, ap, ◌∙◌}
use mathlib.Core.List.{List, [], ◌∷◌}
use Prim.Native.Nat.{ℕ, zero, suc, ◌+◌, ◌/◌, ◌%◌, ◌^◌, ◌<◌, ◌≤◌, zero-le}
use native.Mathlib.Omega.{arith}
use native.Mathlib.Nat.{pow-suc, div-lt_iff_lt-mul, le-div_iff_mul-le, pow-le-pow_right, le_trans, lt_of_lt_of_le}
use lib.Dec.{lit<}
use native.Mathlib.Numerals.{add-one}
use lib.ListN.{length, set}
use lib.Seq.{sets}
use borrow.Author.Tests.{lt-ltb, le-ltb}
use Rattle.laws.proofs.Cases.{lt_cases}
use Rattle.number.specs.Number.{groups, written}

pub group_last : (k v : ℕ) → v < 128 → groups (suc k) v ≡ v ∷ []
unfolding groups
group_last k v h = simp (lt-ltb _ _ h)

pub group_more : (k v : ℕ) → 128 ≤ v → groups (suc k) v ≡ (128 + v % 128) ∷ groups k (v / 128)
unfolding groups
group_more k v h = simp (le-ltb _ _ h)

-- the groups above the lowest are one fewer
pub above : (k v : ℕ) → v < 128 ^ suc k → v / 128 < 128 ^ k
above k v h = (div-lt_iff_lt-mul (lit< tt)).1 (rw pow-suc at h)

-- more groups than a number needs change nothing
enough : (k v : ℕ) → v < 128 ^ suc k → groups (suc k) v ≡ groups (suc (suc k)) v
enough zero v h = rw (group_last 0 v h, group_last 1 v h)
enough (suc k) v h =
    lt_cases v 128 (λ small. rw (group_last (suc k) v small, group_last (suc (suc k)) v small))
    (λ large.
    rw (group_more (suc k) v large, group_more (suc (suc k)) v large)
    (ap (λ (rest : List ℕ). (128 + v % 128) ∷ rest) (enough k (v / 128) (above (suc k) v h))))

pub written_last : (v : ℕ) → v < 128 → written v ≡ v ∷ []
unfolding written
written_last v h = group_last 4 v h

pub written_more : (v : ℕ) → 128 ≤ v → v < 128 ^ 5 → written v ≡ (128 + v % 128) ∷ written (v / 128)
unfolding written
written_more v large h =
    group_more 4 v large ∙ ap (λ (rest : List ℕ). (128 + v % 128) ∷ rest) (enough 3 (v / 128) (above 4 v h))

-- a number of more than one group is one byte longer than the groups above its lowest
pub longer : (v k : ℕ) → 128 ≤ v → v < 128 ^ 5 → length (written (v / 128)) ≡ k → length (written v) ≡ suc k
longer v k large h e = ap length (written_more v large h) ∙ ap suc e

pub shortest : (v : ℕ) → v < 128 → length (written v) ≡ 1
shortest v h = ap length (written_last v h)

pub sized : (k v : ℕ) → 128 ^ suc k ≤ v → v < 128 ^ suc (suc k) → suc k < 5 → length (written v) ≡ suc (suc k)
sized zero v l h few = longer v 1 l (omega arith) (shortest (v / 128) (omega arith))
sized (suc k) v l h few =
    longer v (suc (suc k))
    (le_trans (pow-le-pow_right {n = 128} (lit< tt) {i = 1} {j = suc (suc k)} (omega arith)) l)
    (lt_of_lt_of_le h (pow-le-pow_right {n = 128} (lit< tt) {i = suc (suc (suc k))} {j = 5} few))
    (sized k (v / 128) ((le-div_iff_mul-le (lit< tt)).1 (rw pow-suc at l)) (above (suc (suc k)) v h) (omega arith))

-- from the fifth group on a number has five, however large it is
full : (k v : ℕ) → 128 ^ k ≤ v → length (groups (suc k) v) ≡ suc k
unfolding groups
full zero v h = lt_cases v 128 (λ small. simp (lt-ltb _ _ small)) (λ large. simp (le-ltb _ _ large))
full (suc k) v h =
    let many : 128 ≤ v = le_trans (pow-le-pow_right {n = 128} (lit< tt) {i = 1} {j = suc k} (omega arith)) h in
    ap length (group_more (suc k) v many) ∙ ap suc (full k (v / 128) ((le-div_iff_mul-le (lit< tt)).1 (rw pow-suc at h)))

pub longest : (v : ℕ) → 128 ^ 4 ≤ v → length (written v) ≡ 5
unfolding written
longest v h = full 4 v h

-- a number written at a place: its lowest group, and the groups above it at the next place
pub sets_last : (out : List ℕ) (at v : ℕ) → v < 128 → sets out at (written v) ≡ set out at v
sets_last out at v h = rw (written_last v h)

pub sets_more : (out : List ℕ) (at v : ℕ) → 128 ≤ v → v < 128 ^ 5
    → sets out at (written v) ≡ sets (set out at (128 + v % 128)) (at + 1) (written (v / 128))
sets_more out at v large h = rw (written_more v large h, add-one)

groups_few : (k v : ℕ) → length (groups k v) ≤ k
unfolding groups
groups_few zero v = zero-le
groups_few (suc k) v =
    lt_cases v 128 (λ small. simp (lt-ltb _ _ small) (omega arith))
    (λ large. simp (le-ltb _ _ large) (omega (arith, groups_few k (v / 128))))

pub at_most_five : (v : ℕ) → length (written v) ≤ 5
unfolding written
at_most_five v = groups_few 5 v

pub at_least_one : (v : ℕ) → 1 ≤ length (written v)
unfolding written groups
at_least_one v = lt_cases v 128 (λ small. simp (lt-ltb _ _ small) (omega arith)) (λ large. simp (le-ltb _ _ large) (omega arith))

pub two_groups : (v : ℕ) → v < 16384 → length (written v) ≤ 2
two_groups v h =
    lt_cases v 128 (λ small. omega (arith, shortest v small)) (λ large. omega (arith, sized 0 v large h (omega arith)))
