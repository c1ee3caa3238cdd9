-- `sha256::stands_at` meets its contract.
-- Assumes nothing.
use Rattle.std.proofs.Common.{◌≡◌, ℕ, ◌-◌, ◌<◌, ◌⊎◌, false, eqb, List, [], ◌∷◌, length, take, drop, refl, ap, ◌∙◌, arith, rules, take_all, length-drop}
use Rattle.std.specs.Prelude.{Some, None}
use Rattle.std.specs.Cmp.Lexicographic.{pointwise}
use Rattle.std.specs.List.{slice_range}
use Rattle.std.proofs.lemmas.Bool.Decides.{nat_tests}
use lib.ListN.{drop_of_length-le}
use Rattle.laws.specs.Bytes.{part}
use Rattle.laws.specs.Every.{same}
use Rattle.sha256.proofs.stands_at.Goals as goal

same_bytes : (xs ys : List ℕ) → pointwise eqb ys xs ≡ same xs ys
same_bytes [] [] = refl
same_bytes [] (y ∷ ys) = refl
same_bytes (x ∷ xs) [] = refl
same_bytes (x ∷ xs) (y ∷ ys) = grind (arith, nat_tests, same_bytes xs ys)

nothing : (xs ys : List ℕ) → length xs ≡ 0 → 0 < length ys → false ≡ same xs ys
nothing [] (y ∷ ys) none some = refl
nothing [] [] none some = absurd (omega arith)
nothing (x ∷ xs) ys none some = absurd (omega arith)

pub returns : goal.returns
returns c =
    let s = c.args.s.now in
    let at = c.args.at in
    let size : length c.args.digest ≡ 32 = search rules in
    elim c.get.result as (λ o. o ≡ c.get.result → c.is_some_and.result ≡ same (part s at 32) c.args.digest) [
      | None ↦ λ e.
          let is : c.is_some_and.result ≡ false = search rules in
          let outside : (length s < at) ⊎ (length s < length s) = search rules in
          let none : drop at s ≡ [] = drop_of_length-le s (omega arith) in
          is ∙ nothing (part s at 32) c.args.digest (ap (λ (l : List ℕ). length (take 32 l)) none) (omega arith)
      | Some rest ↦ λ e.
          let is : c.is_some_and.result ≡ pointwise eqb c.args.digest (take (length c.args.digest) rest.now) = search rules in
          let whole : rest.now ≡ slice_range s at (length s) = search rules in
          is ∙ ap (λ (n : ℕ). pointwise eqb c.args.digest (take n rest.now)) size
          ∙ ap (λ (l : List ℕ). pointwise eqb c.args.digest (take 32 l)) (whole ∙ take_all (length s - at) (drop at s) (omega (arith, length-drop at s)))
          ∙ same_bytes (part s at 32) c.args.digest
    ] refl
