-- How controllers enough are tested, and that the sheet of depths is right.
-- Assumes nothing.
use Prim.Native.Nat.{ℕ, ◌+◌, ◌-◌, ◌*◌, ◌/◌, ◌%◌, ◌<◌, ◌≤◌}
use mathlib.Core.Path.{◌≡◌, refl, ap, ap₂, ◌∙◌}
use mathlib.Core.Bool.{true}
use native.Mathlib.Omega.{arith}
use lib.Dec.{leb}
use lib.ListN.{get_or}
use borrow.Author.Tests.{le-leb, lt-leb, leb-true}
use Rattle.laws.specs.Pick.{pick}
use Rattle.laws.specs.Depth.{depth_for}
use Rattle.laws.specs.Every.{within}
use Rattle.laws.specs.Tabulate.{tabulate}
use Rattle.laws.proofs.Tabulate.{get_d_tabulate}
use Rattle.laws.proofs.Cases.{lt_cases}
use Rattle.laws.proofs.Every.{both_true, both_false, within_true, within_here}
use Rattle.genesis.specs.Genesis.{enough, rules, depth_of}
use Rattle.genesis.specs.Depths.{depths}
use Rattle.genesis.specs.declared.Head.{Head}

enough_parts : (n t : ℕ) → enough n t ≡ true → (n ≤ 31) × (3 * t + 1 ≤ n)
enough_parts n t e =
    let (n-fits, t-fits) = both_true (within 1 31 n) (leb (3 * t + 1) n) e in
    ((within_true 1 31 n n-fits).1, leb-true (3 * t + 1) n t-fits)

pub rules_parts : (h : Head) → rules h ≡ true → (h.n ≤ 31) × (3 * h.t + 1 ≤ h.n) × (h.u ≤ 64)
rules_parts h e =
    let (controllers, slots) = both_true (enough h.n h.t) (within 1 64 h.u) e in
    let (few, faults) = enough_parts h.n h.t controllers in
    (few, faults, (within_true 1 64 h.u slots).1)

-- a third of the others, so that nothing is multiplied that was only read
pub third : (n t : ℕ) → 1 ≤ n → leb t ((n - 1) / 3) ≡ leb (3 * t + 1) n
third n t one =
    lt_cases n (3 * t + 1)
    (λ many. let above : (n - 1) / 3 < t = omega arith in rw (lt-leb t ((n - 1) / 3) above, lt-leb (3 * t + 1) n many))
    (λ few. let below : t ≤ (n - 1) / 3 = omega arith in rw (le-leb t ((n - 1) / 3) below, le-leb (3 * t + 1) n few))

-- what stands at a place of the sheet, by the formula
abbrev pub ruled : ℕ → ℕ
ruled place = depth_of (place / 11 + 1) (place % 11)

-- the whole sheet at once, computed entry by entry
pub sheet_is : depths ≡ tabulate 341 ruled
unfolding depths
sheet_is = refl

pub entry_is : (n t : ℕ) → 1 ≤ n → n ≤ 31 → t ≤ 10 → get_or depths ((n - 1) * 11 + t) 0 ≡ depth_of n t
entry_is n t one many few =
    let place : ℕ = (n - 1) * 11 + t in
    let row : place / 11 + 1 ≡ n = omega arith in
    let column : place % 11 ≡ t = omega arith in
    ap (λ l. get_or l place 0) sheet_is ∙ get_d_tabulate 341 ruled place 0 (omega arith) ∙ ap₂ depth_of row column

pub too_few : (n t : ℕ) → n < 3 * t + 1 → depth_of n t ≡ 0
too_few n t h = rw (lt-leb (3 * t + 1) n h) (ap (λ b. pick b (depth_for n t) 0) (both_false (within 1 31 n)))

pub many_enough : (n t : ℕ) → 1 ≤ n → n ≤ 31 → 3 * t + 1 ≤ n → depth_of n t ≡ depth_for n t
many_enough n t one many h = rw (within_here 1 31 n one many, le-leb (3 * t + 1) n h)
