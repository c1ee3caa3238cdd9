-- A run is its first step and then the run from there. Nothing that uses this looks at the bound on the steps.
-- Assumes nothing.
use mathlib.Core.Path.{◌≡◌, refl, sym, ◌∙◌}
use mathlib.Core.Bool.{Bool, true, false}
use Prim.Native.Nat.{ℕ, zero, suc, ◌<◌, ◌≤◌}
use native.Mathlib.Omega.{arith}
use Rattle.laws.specs.Pick.{pick}
use Rattle.laws.specs.Told.{Told, gives, refuses, then}
use Rattle.laws.specs.Run.{run}

pub run_over : {S : Type 0} (over : S → Bool) (step : S → Told S) (most : ℕ) (s : S) → over s ≡ true → run over step most s ≡ gives s
unfolding run
run_over over step zero s e = refl
run_over over step (suc most) s e = rw e

-- `left` falls with each step, and at 0 all is done
module _ {S : Type 0} (over : S → Bool) (step : S → Told S) (left : S → ℕ)
    (done : (s : S) → left s ≡ 0 → over s ≡ true) (falls : (s next : S) → over s ≡ false → step s ≡ gives next → left next < left s) where
  -- any bound that is large enough gives the same
  enough : (most more : ℕ) (s : S) → left s ≤ most → left s ≤ more → run over step most s ≡ run over step more s
  unfolding run
  enough zero zero s h k = refl
  enough zero (suc more) s h k = rw (done s (omega arith))
  enough (suc most) zero s h k = rw (done s (omega arith))
  enough (suc most) (suc more) s h k = by_cases (over s) refl (step s) refl (λ next. enough most more next)
    where
      by_cases : (β : Bool) → over s ≡ β → (t : Told S) → step s ≡ t
          → ((next : S) → left next ≤ most → left next ≤ more → run over step most next ≡ run over step more next)
          → pick (over s) (gives s) (then (step s) (run over step most)) ≡ pick (over s) (gives s) (then (step s) (run over step more))
      by_cases true e t f again = rw e
      by_cases false e (gives next) f again =
          rw (e, f) (again next (omega (arith, falls s next e f)) (omega (arith, falls s next e f)))
      by_cases false e (refuses number place) f again = rw (e, f)

  module _ (most : ℕ) (s : S) (more : over s ≡ false) (bound : left s ≤ most) where
    some_left : (m : ℕ) → left s ≤ m → run over step m s ≡ then (step s) (run over step m)
    unfolding run
    some_left zero h = let z : true ≡ false = sym (done s (omega arith)) ∙ more in absurd (let e : ◌≡◌ {A = ℕ} 0 1 = cc in omega arith)
    some_left (suc m) h = rw more (by_step (step s) refl)
      where
        by_step : (t : Told S) → step s ≡ t → then t (run over step m) ≡ then t (run over step (suc m))
        by_step (gives next) f = enough m (suc m) next (omega (arith, falls s next more f)) (omega (arith, falls s next more f))
        by_step (refuses number place) f = refl

    pub run_next : (next : S) → step s ≡ gives next → run over step most s ≡ run over step most next
    run_next next e = some_left most bound ∙ rw e

    pub run_refused : (number place : ℕ) → step s ≡ refuses number place → run over step most s ≡ refuses number place
    run_refused number place e = some_left most bound ∙ rw e
