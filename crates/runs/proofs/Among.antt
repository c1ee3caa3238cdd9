-- A value's place in a list.
-- Assumes nothing.
use mathlib.Core.Path.{◌≡◌, refl, sym, ap, ◌∙◌, subst}
use mathlib.Core.List.{List, [], ◌∷◌, ◌++◌, append_assoc}
use native.Mathlib.Omega.{arith}
use lib.ListN.{length, length-append}
use Rattle.laws.specs.Format.{Each}
use Rattle.laws.proofs.Each.{each_parts}
use Rattle.runs.specs.Runs.{Among}

module _ {A : Type 0} (P : A → Type 0) where
  pub each_among : (l : List A) → ((a : A) → Among a l → P a) → Each P l
  each_among l all = from [] l refl
    where
      from : (before rest : List A) → l ≡ before ++ rest → Each P rest
      from before [] e = tt
      from before (a ∷ rest) e = (all a (before, rest, e), from (before ++ (a ∷ [])) rest (e ∙ sym (append_assoc before (a ∷ []) rest)))

  pub among_each : (l : List A) (a : A) → Each P l → Among a l → P a
  among_each l a each (before, after, e) = (each_parts P before (a ∷ after) (subst (Each P) e each)).1.0

module _ {A : Type 0} (a : A) where
  pub nowhere : Among a [] → ⊥
  nowhere (before, after, e) = omega (arith, ap length e, length-append before (a ∷ after))

  head_or : List A → A
  head_or [] = a
  head_or (b ∷ l) = b

  pub the_only : (b : A) → Among a (b ∷ []) → a ≡ b
  unfolding head_or
  the_only b ([], after, e) = sym (ap head_or e)
  the_only b (c ∷ before, after, e) = absurd (omega (arith, ap length e, length-append before (a ∷ after)))
