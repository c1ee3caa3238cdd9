-- What follows for any format whose writing and reading are inverse.
-- Assumes nothing.
use mathlib.Core.Path.{◌≡◌, sym, ap, ◌∙◌}
use mathlib.Core.List.{List, [], ◌++◌}
use Prim.Native.Nat.{ℕ, ◌+◌}
use lib.ListN.{length, drop}
use Rattle.laws.specs.Told.{Told, gives, Found, found}
use Rattle.laws.specs.Format.{Bytes, Inverse}

module _ {A : Type 0} {valid : A → Type 0} {written : A → List ℕ} {readAt : List ℕ → ℕ → Told (Found A)}
    (inverse : Inverse valid written readAt) where
  -- a value's bytes tell where they end: what begins with two values' bytes begins with one value
  pub same_front : (a b : A) → valid a → valid b → (after after' : List ℕ) → written a ++ after ≡ written b ++ after' → a ≡ b
  same_front a b va vb after after' e =
      let ra = inverse.reads_back [] after a va in
      let rb = inverse.reads_back [] after' b vb in
      let both : found a (0 + length (written a)) ≡ found b (0 + length (written b)) = sym ra ∙ ap (λ (s : List ℕ). readAt s 0) e ∙ rb in
      ap (value_or a) both
    where
      value_or : A → Told (Found A) → A
      value_or d (gives r) = r.value
      value_or d (Rattle.laws.specs.Told.refuses number place) = d

  -- two different values never have the same bytes
  pub different_bytes : (a b : A) → valid a → valid b → written a ≡ written b → a ≡ b
  different_bytes a b va vb e = same_front a b va vb [] [] (ap (λ (s : List ℕ). s ++ []) e)

  -- one value never has two forms: wherever it is read, the bytes are the same
  pub one_form : (s s' : List ℕ) (at at' : ℕ) (r r' : Found A) → Bytes s → Bytes s' → readAt s at ≡ gives r → readAt s' at' ≡ gives r'
      → r.value ≡ r'.value → (bytes : List ℕ) × (drop at s ≡ bytes ++ drop r.next s) × (drop at' s' ≡ bytes ++ drop r'.next s')
  one_form s s' at at' r r' h h' e e' same = (
    written r.value,
    (inverse.only_written s at r h e).2,
    (inverse.only_written s' at' r' h' e').2 ∙ ap (λ (a : A). written a ++ drop r'.next s') (sym same),
  )
