-- Letters put in front of what already stands behind their room: the same bytes as both written in one piece.
-- Assumes nothing.
use Prim.Native.Nat.{ℕ, suc, ◌+◌, ◌<◌}
use mathlib.Core.Path.{◌≡◌, refl, sym, ap, ◌∙◌, subst}
use mathlib.Core.Bool.{Bool, true, false}
use mathlib.Core.List.{List, [], ◌∷◌, ◌++◌}
use native.Mathlib.Omega.{arith}
use native.Mathlib.Nat.{add-zero, zero-add}
use lib.Dec.{leb}
use lib.ListN.{length, set, length-append}
use lib.Seq.{sets, set_comm, length-sets}
use borrow.Author.Tests.{le-leb}
use Rattle.laws.specs.Told.{gives, refuses, unless}
use Rattle.laws.specs.Placed.{fits, placed, placing}
use Rattle.laws.proofs.Placed.{was_room}
use Rattle.laws.proofs.Told.{gives_not_refuses}

set_under : (o : List ℕ) (at : ℕ) (ys : List ℕ) (i v : ℕ) → i < at → set (sets o at ys) i v ≡ sets (set o i v) at ys
set_under o at [] i v h = refl
set_under o at (y ∷ ys) i v h =
    let other : at ≡ i → ⊥ = λ e. let less : i < i = subst (λ (n : ℕ). i < n) e h in omega arith in
    set_under (set o at y) (suc at) ys i v (omega arith) ∙ ap (λ (l : List ℕ). sets l (suc at) ys) (set_comm o at i y v other)

front_last : (o : List ℕ) (at : ℕ) (xs ys : List ℕ) → sets (sets o (at + length xs) ys) at xs ≡ sets o at (xs ++ ys)
front_last o at [] ys = ap (λ (n : ℕ). sets o n ys) (add-zero at)
front_last o at (x ∷ xs) ys =
    let further : at + suc (length xs) ≡ suc at + length xs = omega arith in
    ap (λ (l : List ℕ). sets l (suc at) xs) (set_under o (at + suc (length xs)) ys at x (omega arith))
    ∙ ap (λ (n : ℕ). sets (sets (set o at x) n ys) (suc at) xs) further
    ∙ front_last (set o at x) (suc at) xs ys

module _ (out letters bytes : List ℕ) where
  size : length letters + length bytes ≡ 0 + length (letters ++ bytes)
  size = omega (arith, length-append letters bytes)

  -- they are refused together
  pub text_placed : placed out (length letters) bytes ≡ placed out 0 (letters ++ bytes)
  text_placed = ap (λ (n : ℕ). unless (leb n (length out)) 15 0 (gives n)) size

  -- and where there is no room, nothing is written
  pub text_short : (number place : ℕ) → placed out (length letters) bytes ≡ refuses number place
      → placing out (length letters) bytes ≡ placing out 0 (letters ++ bytes)
  text_short number place e = by_room (fits out (length letters) bytes) refl e
    where
      by_room : (β : Bool) → fits out (length letters) bytes ≡ β → placed out (length letters) bytes ≡ refuses number place
          → placing out (length letters) bytes ≡ placing out 0 (letters ++ bytes)
      by_room true f e =
          let gave : placed out (length letters) bytes ≡ gives (length letters + length bytes) = rw f in
          gives_not_refuses (sym e ∙ gave)
      by_room false f e = rw f (sym (rw (sym (ap (λ (n : ℕ). leb n (length out)) size) ∙ f)))

  pub text_written : (next : ℕ) → placed out (length letters) bytes ≡ gives next
      → placing (placing out (length letters) bytes) 0 letters ≡ placing out 0 (letters ++ bytes)
  text_written next e =
      let (room, is) = was_room out (length letters) bytes next e in
      let whole = le-leb (0 + length (letters ++ bytes)) (length out) (omega (arith, size)) in
      let behind = le-leb (length letters + length bytes) (length out) room in
      let before = le-leb (0 + length letters) (length (sets out (length letters) bytes)) (omega (arith, length-sets out (length letters) bytes)) in
      rw (behind, before, whole) (ap (λ (n : ℕ). sets (sets out n bytes) 0 letters) (sym (zero-add (length letters))) ∙ front_last out 0 letters bytes)
