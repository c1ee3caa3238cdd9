-- A format whose writing and reading are inverse, said of its two calls: one writes into a lent buffer, the other reads a slice.
-- Assumes nothing.
use mathlib.Core.Path.{◌≡◌, sym, ap, ◌∙◌}
use mathlib.Core.List.{List, ◌++◌, append_assoc}
use Prim.Native.Nat.{ℕ, ◌+◌, ◌-◌, ◌≤◌}
use native.Mathlib.Omega.{arith}
use lib.ListN.{length, take, drop}
use lib.Seq.{length-take-le, take_at}
use Rattle.laws.specs.Told.{Told, gives, Found, found}
use Rattle.laws.specs.Bytes.{part}
use Rattle.laws.specs.Placed.{placed, placing}
use Rattle.laws.specs.Format.{Bytes, Inverse}
use Rattle.laws.proofs.Placed.{with_room, was_room, is_next, laid, placed_part}

module _ {A : Type 0} {valid : A → Type 0} {written : A → List ℕ} {readAt : List ℕ → ℕ → Told (Found A)}
    (inverse : Inverse valid written readAt) where
  -- what was placed reads back at that place, whatever the buffer holds around it
  pub placed_reads_back : (out : List ℕ) (at : ℕ) (a : A) (next : ℕ) → valid a → placed out at (written a) ≡ gives next
      → readAt (placing out at (written a)) at ≡ found a next
  placed_reads_back out at a next fine e =
      let before = take at out in
      let after = drop (at + length (written a)) out in
      let long : length before ≡ at = length-take-le at out (omega (arith, (was_room out at (written a) next e).0)) in
      let stands : placing out at (written a) ≡ before ++ (written a ++ after) = laid out at (written a) next e ∙ append_assoc before (written a) after in
      let reads : readAt (before ++ (written a ++ after)) at ≡ found a (at + length (written a)) =
      rw long at (inverse.reads_back before after a fine) in
      ap (λ (s : List ℕ). readAt s at) stands ∙ reads ∙ ap (found a) (sym (is_next out at (written a) next e))

  -- what was read is placed wherever there is room for as many bytes, and they are the same bytes
  pub read_is_placed : (s : List ℕ) (at : ℕ) (r : Found A) → Bytes s → readAt s at ≡ gives r
      → (out : List ℕ) (to : ℕ) → to + (r.next - at) ≤ length out
      → (placed out to (written r.value) ≡ gives (to + (r.next - at)))
      × (part (placing out to (written r.value)) to (r.next - at) ≡ part s at (r.next - at))
  read_is_placed s at r bytes e out to room =
      let w = written r.value in
      let (_, next, shape) = inverse.only_written s at r bytes e in
      let size : length w ≡ r.next - at = omega arith in
      let is : placed out to w ≡ gives (to + (r.next - at)) = sym (with_room out to w (omega arith)).0 ∙ ap (λ (n : ℕ). gives (to + n)) size in
      let same : to + (r.next - at) - to ≡ r.next - at = omega arith in
      let there : part (placing out to w) to (r.next - at) ≡ w =
      ap (λ (n : ℕ). part (placing out to w) to n) (sym same) ∙ placed_part out to w (to + (r.next - at)) is in
      let here : part s at (r.next - at) ≡ w = ap (take (r.next - at)) shape ∙ take_at w (drop r.next s) (r.next - at) size in
      (is, there ∙ sym here)
