-- A chain, the ends of the chains and the way up the tree, one more turn at a time, as the loops go; and a chain that is gone in two stretches.
-- Assumes nothing.
use mathlib.Core.Path.{◌≡◌, sym, ap, ◌∙◌}
use mathlib.Core.List.{List, ◌∷◌, ◌++◌, append_assoc}
use Prim.Native.Nat.{ℕ, zero, suc, ◌+◌, ◌-◌, ◌/◌, ◌^◌, ◌<◌, ◌≤◌}
use native.Mathlib.Nat.{add-zero, div-div-eq-div-mul, pow-suc}
use native.Mathlib.Numerals.{add-one}
use native.Mathlib.Omega.{arith}
use lib.ListN.{get_or}
use Rattle.sha256.specs.Sha256.{sha256}
use Rattle.lms.specs.Lms.{chain_value, prefix, chained, chain_end, chain_ends, path_node, parent, climbed}

pub chained_none : (front : List ℕ) (a : ℕ) (y : List ℕ) → y ≡ chained front a y (a - a)
unfolding chained
chained_none front a y = let none : a - a ≡ 0 = omega arith in rw none

pub chained_next : (front : List ℕ) (a : ℕ) (y : List ℕ) (j : ℕ) → a ≤ j
    → sha256 (front ++ (j ∷ chained front a y (j - a))) ≡ chained front a y (j + 1 - a)
unfolding chained
chained_next front a y j h =
    let steps : j + 1 - a ≡ suc (j - a) = omega arith in
    let place : a + (j - a) ≡ j = omega arith in
    rw (steps, place)

-- who signs goes the first a steps, from a secret, and who verifies the others
stretches : (front : List ℕ) (a : ℕ) (secret : List ℕ) (steps : ℕ)
    → chained front a (chained front 0 secret a) steps ≡ chained front 0 secret (a + steps)
unfolding chained
stretches front a secret zero = ap (chained front 0 secret) (sym (add-zero a))
stretches front a secret (suc steps) =
    let next : a + suc steps ≡ suc (a + steps) = omega arith in
    let place : 0 + (a + steps) ≡ a + steps = omega arith in
    rw (stretches front a secret steps, next, place)

-- so the end hangs on no digit
pub end_from_secret : (id : List ℕ) (q : ℕ) (signature digits : List ℕ) (i : ℕ) (secret : List ℕ) → get_or digits i 0 < 256
    → chain_value signature i ≡ chained (prefix id q i) 0 secret (get_or digits i 0)
    → chain_end id q signature digits i ≡ chained (prefix id q i) 0 secret 255
unfolding chain_end
end_from_secret id q signature digits i secret small e =
    let a = get_or digits i 0 in
    let front = prefix id q i in
    let all : a + (255 - a) ≡ 255 = omega arith in
    ap (λ (y : List ℕ). chained front a y (255 - a)) e ∙ stretches front a secret (255 - a) ∙ ap (chained front 0 secret) all

pub ends_next : (front id : List ℕ) (q : ℕ) (signature digits : List ℕ) (i : ℕ)
    → front ++ chain_ends id q signature digits (i + 1) ≡ (front ++ chain_ends id q signature digits i) ++ chain_end id q signature digits i
unfolding chain_ends
ends_next front id q signature digits i = rw (add-one, append_assoc)

pub climbed_next : (id : List ℕ) (leaf : ℕ) (signature tmp : List ℕ) (i : ℕ)
    → climbed id leaf signature tmp (i + 1) ≡ parent id (leaf / 2 ^ i) (path_node signature i) (climbed id leaf signature tmp i)
unfolding climbed
climbed_next id leaf signature tmp i = rw add-one

pub halved : (node i : ℕ) → node / 2 ^ i / 2 ≡ node / 2 ^ (i + 1)
halved node i = div-div-eq-div-mul node (2 ^ i) 2 ∙ ap (λ (n : ℕ). node / n) (sym (pow-suc 2 i)) ∙ rw add-one
