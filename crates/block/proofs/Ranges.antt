-- A number that was read in its range lies in it.
-- Assumes nothing.
use mathlib.Core.Path.{◌≡◌, subst}
use mathlib.Core.List.{List}
use Prim.Native.Nat.{ℕ, ◌≤◌}
use Rattle.laws.specs.Told.{gives, Found}
use Rattle.laws.specs.Every.{within}
use Rattle.laws.proofs.Told.{gives_same, then_gives, unless_gives}
use Rattle.laws.proofs.Every.{within_true}
use Rattle.number.specs.Number.{number_at}
use Rattle.block.specs.Block.{number_in}

pub in_range_law : (least most : ℕ) (s : List ℕ) (at : ℕ) (r : Found ℕ) → number_in least most s at ≡ gives r → (least ≤ r.value) × (r.value ≤ most)
in_range_law least most s at r e =
    let (q, reads, judged) = then_gives (number_at s at) _ r e in
    let (fine, is) = unless_gives (within least most q.value) 5 0 (gives q) r judged in
    subst (λ (p : Found ℕ). (least ≤ p.value) × (p.value ≤ most)) (gives_same is) (within_true least most q.value fine)
