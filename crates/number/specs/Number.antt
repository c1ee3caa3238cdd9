-- 01, "Numbers and digests": numbers in groups of seven bits, lowest group first, the high bit set on every byte but the last.
-- Assumes nothing.
use Rattle.std.specs.Prelude.{ℕ, zero, suc, ◌+◌, ◌*◌, ◌/◌, ◌%◌, List, [], ◌∷◌, length, get_or, ltb}
use Rattle.laws.specs.Pick.{pick}
use Rattle.laws.specs.Told.{Told, refuses, Found, found, then, unless}

-- 02, b: "Numbers are read and written up to 34,359,738,367"
abbrev pub largest : ℕ
largest = 34359738367

-- a number in at most k groups
unfoldable pub groups : ℕ → ℕ → List ℕ
groups zero v = []
groups (suc k) v = pick (ltb v 128) (v ∷ []) ((128 + v % 128) ∷ groups k (v / 128))

-- the bytes of a number: five groups hold the largest, and no larger one
unfoldable pub written : ℕ → List ℕ
written v = groups 5 v

-- a group with the high bit set, and the number that the groups after it make: 0 there is not the shortest form
abbrev pub joined : ℕ → Told (Found ℕ) → Told (Found ℕ)
joined group rest =
    then rest λ r. unless (ltb 0 r.value) 4 0 (found (group % 128 + 128 * r.value) r.next)

-- a number read from at most k groups: cut where the bytes end first, too large where each of the k has the high bit
unfoldable pub read_groups : ℕ → List ℕ → ℕ → Told (Found ℕ)
read_groups zero s at = refuses 4 0
read_groups (suc k) s at =
    unless (ltb at (length s)) 3 0
    (pick (ltb (get_or s at 0) 128) (found (get_or s at 0) (at + 1)) (joined (get_or s at 0) (read_groups k s (at + 1))))

-- the number at a place of a slice, and the next place; 3: cut; 4: not shortest, or too large
unfoldable pub number_at : List ℕ → ℕ → Told (Found ℕ)
number_at s at = read_groups 5 s at
