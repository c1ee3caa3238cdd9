-- The pieces that draft, block text and append write: what stands in the buffer is what they were made of.
-- Assumes nothing.
use Prim.Native.Nat.{ℕ, ◌-◌}
use mathlib.Core.Path.{◌≡◌, sym, ap, ◌∙◌}
use mathlib.Core.List.{List}
use native.Mathlib.Nat.{sub-zero}
use lib.ListN.{take}
use Rattle.laws.specs.Told.{Told, gives}
use Rattle.laws.specs.Bytes.{part}
use Rattle.laws.specs.Placed.{placed}
use Rattle.laws.proofs.Placed.{placed_part}
use Rattle.block.specs.declared.Front.{Front}
use Rattle.issue.specs.Issue.{writing, written, draft_bytes}

pub piece : (bytes : Front → List ℕ) (t : Told Front) (out : List ℕ) (at next : ℕ) (f : Front) → t ≡ gives f → placed out at (bytes f) ≡ gives next
    → part (written bytes t out at) at (next - at) ≡ bytes f
piece bytes t out at next f e fits =
    ap (λ (q : Told Front). part (written bytes q out at) at (next - at)) e ∙ placed_part out at (bytes f) next fits

pub front_piece : (bytes : Front → List ℕ) (t : Told Front) (out : List ℕ) (next : ℕ) (f : Front) → t ≡ gives f → placed out 0 (bytes f) ≡ gives next
    → take next (written bytes t out 0) ≡ bytes f
front_piece bytes t out next f e fits =
    ap (λ (n : ℕ). take n (written bytes t out 0)) (sym (sub-zero next)) ∙ piece bytes t out 0 next f e fits

module _ (t : Told Front) (out : List ℕ) (drafted : ℕ) (draft : writing draft_bytes t out 0 ≡ gives drafted) where
  pub draft_is : (f : Front) → t ≡ gives f → draft_bytes f ≡ take drafted (written draft_bytes t out 0)
  draft_is f e =
      let fits : placed out 0 (draft_bytes f) ≡ gives drafted = ap (λ (q : Told Front). writing draft_bytes q out 0) (sym e) ∙ draft in
      sym (front_piece draft_bytes t out drafted f e fits)
