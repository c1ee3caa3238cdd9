-- Lists of bytes: put together, and taken apart.
-- Assumes nothing.
use mathlib.Core.Path.{◌≡◌, ◌∙◌}
use mathlib.Core.List.{List, [], ◌∷◌, ◌++◌}
use Prim.Native.Nat.{ℕ, zero, suc, ◌+◌, ◌<◌, ◌≤◌}
use native.Mathlib.Omega.{arith}
use lib.Dec.{lit<}
use lib.ListN.{length, take, drop, get_or, replicate, length-drop}
use lib.Seq.{get_or-take, get_or-drop, length-take-le}
use Rattle.laws.specs.Bytes.{part}
use Rattle.laws.specs.Format.{Bytes}

pub bytes_nil : Bytes []
bytes_nil i = lit< tt

pub bytes_cons : (x : ℕ) (xs : List ℕ) → x < 256 → Bytes xs → Bytes (x ∷ xs)
bytes_cons x xs h hs zero = h
bytes_cons x xs h hs (suc i) = hs i

pub bytes_append : (xs ys : List ℕ) → Bytes xs → Bytes ys → Bytes (xs ++ ys)
bytes_append [] ys hs ks = ks
bytes_append (x ∷ xs) ys hs ks = bytes_cons x (xs ++ ys) (hs 0) (bytes_append xs ys (λ i. hs (suc i)) ks)

pub bytes_take : (n : ℕ) (xs : List ℕ) → Bytes xs → Bytes (take n xs)
bytes_take zero xs hs = bytes_nil
bytes_take (suc n) [] hs = bytes_nil
bytes_take (suc n) (x ∷ xs) hs = bytes_cons x (take n xs) (hs 0) (bytes_take n xs (λ i. hs (suc i)))

pub bytes_drop : (n : ℕ) (xs : List ℕ) → Bytes xs → Bytes (drop n xs)
bytes_drop n xs hs i = rw (get_or-drop n xs i 0) (hs (n + i))

pub bytes_filled : (n value : ℕ) → value < 256 → Bytes (replicate n value)
bytes_filled zero value small i = lit< tt
bytes_filled (suc n) value small zero = small
bytes_filled (suc n) value small (suc i) = bytes_filled n value small i

pub part_length : (s : List ℕ) (at size : ℕ) → at + size ≤ length s → length (part s at size) ≡ size
part_length s at size h = length-take-le size (drop at s) (rw length-drop (omega arith))

pub part_byte : (s : List ℕ) (at size i : ℕ) → i < size → get_or (part s at size) i 0 ≡ get_or s (at + i) 0
part_byte s at size i h = get_or-take size (drop at s) i 0 h ∙ get_or-drop at s i 0
