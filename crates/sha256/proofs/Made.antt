-- What `array::from_fn` makes by a closure that changes nothing.
-- Assumes nothing.
use Rattle.std.proofs.Common.{◌≡◌, ℕ, zero, suc, ◌+◌, ◌<◌, ◌≤◌, List, get_or, sym, ◌∙◌, subst, arith, ext_get_or}
use denote.Param.Members.{Mut, Called}
use Rattle.std.specs.Array.{IsFromFnResult, IsFromFnResultFrom}
use Rattle.laws.specs.Tabulate.{tabulate}
use Rattle.laws.proofs.Tabulate.{length_tabulate, get_d_tabulate}

module _ {F : Type 0} (g : Mut F (ℕ × Unit {0}) ℕ) (value : ℕ → ℕ) (f : F) (size : ℕ)
    (one : (i y : ℕ) (later : F) → i < size → Called g f (i, tt) y later → (y ≡ value i) × (later ≡ f)) (ys : List ℕ) where
  from : (n i : ℕ) (now : F) → now ≡ f → i + n ≤ size → IsFromFnResultFrom g now ys i n → (k j : ℕ) → k < n → j ≡ i + k → get_or ys j 0 ≡ value j
  from zero i now same room made k j h is = absurd (omega arith)
  from (suc n) i now same room (later, y, at, call, rest) zero j h is =
      let here : j ≡ i = omega arith in
      rw here (at.1 0 ∙ (one i y later (omega arith) (subst (λ (s : F). Called g s (i, tt) y later) same call)).0)
  from (suc n) i now same room (later, y, at, call, rest) (suc k) j h is =
      from n (i + 1) later (one i y later (omega arith) (subst (λ (s : F). Called g s (i, tt) y later) same call)).1
      (omega arith) rest k j (omega arith) (omega arith)

  pub made : IsFromFnResult g f ys size → ys ≡ tabulate size value
  made all =
      ext_get_or 0 ys (tabulate size value) (all.long ∙ sym (length_tabulate size value))
      (λ i inside.
      let small : i < size = omega (arith, all.long) in
      from size 0 f (λ _. f) (omega arith) all.each i i small (omega arith) ∙ sym (get_d_tabulate size value i 0 small))
