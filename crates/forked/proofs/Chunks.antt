-- A digest computed from the hash after each chunk of 64 bytes, so that each chunk is worked through once.
-- Assumes nothing.
use Prim.Native.Nat.{ℕ, suc, ◌+◌, ◌-◌, ◌/◌, ◌%◌, ◌^◌}
use mathlib.Core.Path.{◌≡◌, refl, ap, ◌∙◌}
use mathlib.Core.Bool.{true}
use mathlib.Core.List.{List, [], ◌∷◌}
use native.Mathlib.Omega.{arith}
use native.Mathlib.Nat.{zero-add}
use lib.Dec.{leb}
use lib.ListN.{length, get_or}
use Rattle.laws.specs.Tabulate.{tabulate}
use Rattle.sha256.specs.Sha256.{◌⊞◌, longest, padded, block_at, initial, schedule, working, compressed, hashed, digest_byte, sha256}
use Rattle.chain.specs.Chain.{link_of}

abbrev sums : (h r : List ℕ) → List ℕ
sums h r = tabulate 8 λ i. get_or h i 0 ⊞ get_or r i 0

-- what the rounds must come to so that the hash h becomes h'
abbrev apart : (h h' : List ℕ) → List ℕ
apart h h' = tabulate 8 λ i. (get_or h' i 0 + (2 ^ 32 - get_or h i 0)) % 2 ^ 32

-- the hash after each chunk of a padded message, from the one after n chunks on
abbrev pub Hashes : (p : List ℕ) (n : ℕ) (h : List ℕ) → List (List ℕ) → Type 0
Hashes p n h [] = Unit {0}
Hashes p n h (h' ∷ rest) =
    (working (schedule (block_at p n) 64) h 64 ≡ apart h h') × (sums h (apart h h') ≡ h') × Hashes p (suc n) h' rest

abbrev pub last_hash : List ℕ → List (List ℕ) → List ℕ
last_hash h [] = h
last_hash h (h' ∷ rest) = last_hash h' rest

hashed_on : (p h : List ℕ) (n : ℕ) (hashes : List (List ℕ)) → hashed p n ≡ h → Hashes p n h hashes → hashed p (length hashes + n) ≡ last_hash h hashes
unfolding compressed hashed
hashed_on p h n [] before chunks = ap (hashed p) (zero-add n) ∙ before
hashed_on p h n (h' ∷ rest) before (worked, is, chunks) =
    let next : hashed p (suc n) ≡ h' = ap (λ (l : List ℕ). compressed l (block_at p n)) before ∙ ap (sums h) worked ∙ is in
    let count : suc (length rest) + n ≡ length rest + suc n = omega arith in
    ap (hashed p) count ∙ hashed_on p h' (suc n) rest next chunks

abbrev pub digest_of : List (List ℕ) → List ℕ
digest_of hashes = tabulate 32 (digest_byte (last_hash initial hashes))

pub link_is : (m : List ℕ) (hashes : List (List ℕ)) → leb (length m) longest ≡ true → length (padded m) / 64 ≡ length hashes + 0
    → Hashes (padded m) 0 initial hashes → link_of m ≡ digest_of hashes
unfolding hashed sha256
link_is m hashes short long chunks = rw (short, long, hashed_on (padded m) initial 0 hashes refl chunks)
