-- One input that is taken and one that is refused reject a version that refuses everything, and a constant one; one byte that changes rejects a
-- version that touches nothing.
-- Assumes nothing.
use Prim.Native.Nat.{ℕ}
use mathlib.Core.Path.{◌≡◌, refl, sym, ap, ◌∙◌}
use mathlib.Core.Bool.{true, false}
use native.Mathlib.Omega.{arith}
use lib.Dec.{eqb}
use borrow.Author.Tests.{eq-eqb}
use Rattle.laws.specs.Told.{Told}
use Rattle.wrong.specs.Versions.{Rejected, TouchesNothing, given}

true_is_not_false : true ≡ false → ⊥
true_is_not_false e = let z : ◌≡◌ {A = ℕ} 0 1 = cc in omega arith

pub rejected : {I A : Type 0} (call : I → Told A) (taken refused : I) → given (call taken) ≡ true → given (call refused) ≡ false → Rejected call
rejected call taken refused good bad = record {
  refuses_everything = λ wrong. let (number, place, is) = wrong taken in true_is_not_false (sym good ∙ ap given is);
  one_answer = λ wrong. true_is_not_false (sym good ∙ ap given (wrong taken refused) ∙ bad);
}

-- `look` is a byte of the buffer, or a number in the pool
pub touched : {B : Type 0} (after : B → B) (look : B → ℕ) (b : B) (old new : ℕ) → look b ≡ old → look (after b) ≡ new → eqb old new ≡ false
    → TouchesNothing after → ⊥
touched after look b old new was is other wrong =
    true_is_not_false (sym (eq-eqb old old refl) ∙ ap (eqb old) (sym was ∙ ap look (sym (wrong b)) ∙ is) ∙ other)
