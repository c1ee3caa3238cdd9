-- Numbers are written and read inversely, so no number has two forms.
-- Assumes nothing.
use mathlib.Core.Path.{◌≡◌, sym, ap, ◌∙◌, subst}
use mathlib.Core.List.{List, [], ◌∷◌, ◌++◌, append_assoc}
use Prim.Native.Nat.{ℕ, zero, suc, ◌+◌, ◌*◌, ◌/◌, ◌%◌, ◌^◌, ◌<◌, ◌≤◌}
use native.Mathlib.Omega.{arith}
use native.Mathlib.Numerals.{add-one}
use native.Mathlib.Nat.{pow-suc, one-le-pow}
use lib.Dec.{ltb, lit<}
use lib.ListN.{length, get_or, drop, length-append}
use lib.Seq.{drop-cons, get_or-append_seam}
use borrow.Author.Tests.{lt-ltb, le-ltb, ltb-true}
use Rattle.laws.specs.Told.{gives, refuses, Found, found}
use Rattle.laws.specs.Format.{Bytes, Inverse}
use Rattle.laws.proofs.Cases.{lt_cases}
use Rattle.laws.proofs.Bytes.{bytes_nil, bytes_cons}
use Rattle.laws.proofs.Told.{gives_not_refuses, gives_same, then_gives, unless_gives}
use Rattle.number.specs.Number.{largest, groups, written, joined, read_groups, number_at}
use Rattle.number.proofs.Written.{group_last, group_more, above}

-- what is read at a place, and the bytes from there on
abbrev Reads : ℕ → List ℕ → ℕ → Found ℕ → Type 0
Reads k s at r = (r.value < 128 ^ k) × (r.next ≡ at + length (groups k r.value)) × (drop at s ≡ groups k r.value ++ drop r.next s)

module _ (k : ℕ) (s : List ℕ) (at : ℕ) (inside : at < length s) where
  first : drop at s ≡ get_or s at 0 ∷ drop (at + 1) s
  first = rw (add-one, drop-cons s at 0)

  reads_last : get_or s at 0 < 128 → Reads (suc k) s at (record { value = get_or s at 0; next = at + 1 })
  reads_last small = (
    omega (arith, pow-suc 128 k, one-le-pow k 128 (lit< tt)),
    rw (group_last k (get_or s at 0) small),
    rw (group_last k (get_or s at 0) small) first,
  )

  reads_more : (r : Found ℕ) → Bytes s → 128 ≤ get_or s at 0 → 0 < r.value → Reads k s (at + 1) r
      → Reads (suc k) s at (record { value = get_or s at 0 % 128 + 128 * r.value; next = r.next })
  reads_more r bytes large positive rest =
      let low = bytes at in
      let group : get_or s at 0 ≡ 128 + v % 128 = omega arith in
      let above : v / 128 ≡ r.value = omega arith in
      let split : groups (suc k) v ≡ get_or s at 0 ∷ groups k r.value = group_more k v (omega arith) ∙ rw (← group, above) in (
        omega (arith, pow-suc 128 k, rest.0),
        rw split (omega (arith, rest.1)),
        rw (split, first) (ap (λ (l : List ℕ). get_or s at 0 ∷ l) rest.2),
      )
    where
      v : ℕ
      v = get_or s at 0 % 128 + 128 * r.value

groups_only : (k : ℕ) (s : List ℕ) (at : ℕ) (r : Found ℕ) → Bytes s → read_groups k s at ≡ gives r → Reads k s at r
unfolding read_groups
groups_only zero s at r bytes e = gives_not_refuses e
groups_only (suc k) s at r bytes e =
    lt_cases at (length s)
    (λ inside.
    lt_cases (get_or s at 0) 128
    (λ small.
    let is : found (get_or s at 0) (at + 1) ≡ gives r = simp (lt-ltb _ _ inside, lt-ltb _ _ small) at e in
    subst (Reads (suc k) s at) (gives_same is) (reads_last k s at inside small))
    (λ large.
    let is : joined (get_or s at 0) (read_groups k s (at + 1)) ≡ gives r = simp (lt-ltb _ _ inside, le-ltb _ _ large) at e in
    let (rest, reads, whole) = then_gives (read_groups k s (at + 1)) _ r is in
    let (positive, value) = unless_gives (ltb 0 rest.value) 4 0 _ r whole in
    subst (Reads (suc k) s at) (gives_same value)
    (reads_more k s at inside rest bytes large (ltb-true _ _ positive) (groups_only k s (at + 1) rest bytes reads))))
    (λ outside.
    let is : refuses 3 0 ≡ gives r = simp (le-ltb _ _ outside) at e in
    gives_not_refuses is)

-- the k + 1 groups of a number, read where they stand
module _ (before after : List ℕ) where
  inside : (g : ℕ) (rest : List ℕ) → length before < length (before ++ (g ∷ rest))
  inside g rest = simp length-append (omega arith)

  here : (g : ℕ) (rest : List ℕ) → get_or (before ++ (g ∷ rest)) (length before) 0 ≡ g
  here g rest = get_or-append_seam before g rest 0

  moved : (g : ℕ) (rest : List ℕ) → before ++ (g ∷ (rest ++ after)) ≡ (before ++ (g ∷ [])) ++ (rest ++ after)
  moved g rest = sym (append_assoc before (g ∷ []) (rest ++ after))

  next : (g : ℕ) → length (before ++ (g ∷ [])) ≡ length before + 1
  next g = length-append before (g ∷ [])

abbrev Back : ℕ → ℕ → List ℕ → List ℕ → Type 0
Back k v before after = read_groups k (before ++ (groups k v ++ after)) (length before) ≡ found v (length before + length (groups k v))

back_last : (k v : ℕ) (before after : List ℕ) → v < 128 → Back (suc k) v before after
unfolding read_groups
back_last k v before after small =
    rw (group_last k v small)
    (simp (lt-ltb _ _ (inside before after v after), here before after v after, lt-ltb _ _ small))

back_more : (k v : ℕ) (before after : List ℕ) → 128 ≤ v → Back k (v / 128) (before ++ ((128 + v % 128) ∷ [])) after → Back (suc k) v before after
unfolding read_groups
back_more k v before after large rest =
    let g : ℕ = 128 + v % 128 in
    let high : 128 ≤ g = omega arith in
    let positive : 0 < v / 128 = omega arith in
    let whole : g % 128 + 128 * (v / 128) ≡ v = omega arith in
    let reads : read_groups k (before ++ (g ∷ (groups k (v / 128) ++ after))) (length before + 1)
    ≡ found (v / 128) (length before + 1 + length (groups k (v / 128))) =
    rw (moved before after g (groups k (v / 128)), ← (next before after g)) rest in
    rw (group_more k v large)
    (simp (
      lt-ltb _ _ (inside before after g (groups k (v / 128) ++ after)),
      here before after g (groups k (v / 128) ++ after),
      le-ltb _ _ high,
      reads,
      lt-ltb _ _ positive,
      whole,
    )
    (ap (found v) (omega arith)))

groups_back : (k v : ℕ) (before after : List ℕ) → v < 128 ^ suc k → Back (suc k) v before after
groups_back zero v before after bound = back_last 0 v before after bound
groups_back (suc k) v before after bound =
    lt_cases v 128 (λ small. back_last (suc k) v before after small)
    (λ large.
    back_more (suc k) v before after large
    (groups_back k (v / 128) (before ++ ((128 + v % 128) ∷ [])) after (above (suc k) v bound)))

group_bytes : (k v : ℕ) → v < 128 ^ suc k → Bytes (groups (suc k) v)
group_bytes zero v bound = rw (group_last 0 v bound) (bytes_cons v [] (omega arith) bytes_nil)
group_bytes (suc k) v bound =
    lt_cases v 128 (λ small. rw (group_last (suc k) v small) (bytes_cons v [] (omega arith) bytes_nil))
    (λ large.
    rw (group_more (suc k) v large)
    (bytes_cons (128 + v % 128) (groups (suc k) (v / 128)) (omega arith) (group_bytes k (v / 128) (above (suc k) v bound))))

pub number_inverse : Inverse (λ v. v ≤ largest) written number_at
unfolding written number_at
number_inverse =
    record {
      bytes = λ v h. group_bytes 4 v (omega arith);
      reads_back = λ before after v h. groups_back 4 v before after (omega arith);
      only_written = λ s at r bytes e. let (bound, next, shape) = groups_only 5 s at r bytes e in (omega (arith, bound), next, shape);
    }
