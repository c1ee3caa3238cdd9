-- A block determines what is before it: its link names one digest, and no two blocks of the run share theirs.
-- Assumes nothing.
use Prim.Native.Nat.{ℕ, zero, suc, ◌+◌, ◌<◌, ◌≤◌}
use mathlib.Core.Path.{◌≡◌, refl, sym, ◌∙◌, subst}
use mathlib.Core.List.{List, [], ◌∷◌, ◌++◌, append_assoc}
use native.Mathlib.Omega.{arith}
use lib.ListN.{length, length-append}
use Rattle.laws.proofs.Each.{each_parts, Ends, nothing, last, ends}
use Rattle.block.specs.Block.{Parts, block_bytes}
use Rattle.chain.specs.Chain.{link_of, none}
use Rattle.chain.proofs.Theorems.{the_first_block_carries_the_link_before_it, a_later_block_carries_the_link_of_the_one_before}
use Rattle.runs.specs.Runs.{Run, OfRun, Premises}
use Rattle.runs.proofs.Nodes.{opening}
use Rattle.runs.proofs.Valid.{Valid}

module _ (r : Run) where
  first_names_genesis : (b : Parts) (v : List Parts) → Valid r (b ∷ v) → b.link ≡ link_of r.genesis
  first_names_genesis b v c =
      the_first_block_carries_the_link_before_it (none (opening r.genesis r.table 0)) b v c.whole c.follows

  later_names_block : (w : List Parts) (p b : Parts) (v : List Parts) → Valid r (w ++ (p ∷ (b ∷ v))) → b.link ≡ link_of (block_bytes p)
  later_names_block w p b v c =
      a_later_block_carries_the_link_of_the_one_before (none (opening r.genesis r.table 0)) w p b v c.whole c.follows

  is_of_run : (w : List Parts) (p : Parts) (v : List Parts) → Valid r (w ++ p ∷ v) → OfRun r p
  is_of_run w p v c = (each_parts (OfRun r) w (p ∷ v) c.of_run).1.0

  regrouped : (w : List Parts) (p b : Parts) (v : List Parts) → Valid r ((w ++ (p ∷ [])) ++ b ∷ v) → Valid r (w ++ (p ∷ (b ∷ v)))
  regrouped w p b v = subst (Valid r) (append_assoc w (p ∷ []) (b ∷ v))

  module _ (premises : Premises r) where
    -- nothing before it here, a block before it there
    never : {B : Type 0} (w v v' : List Parts) (p b : Parts) → Valid r (b ∷ v) → Valid r ((w ++ (p ∷ [])) ++ b ∷ v') → B
    never w v v' p b first later =
        let c = regrouped w p b v' later in
        absurd (premises.not_the_genesis p (is_of_run w p (b ∷ v') c) (sym (later_names_block w p b v' c) ∙ first_names_genesis b v first))

    abbrev Before : ℕ → Type 0
    Before most = (u u' v v' : List Parts) (b : Parts) → length u < most → Valid r (u ++ b ∷ v) → Valid r (u' ++ b ∷ v') → u ≡ u'

    by_ends : (most : ℕ) → Before most → (u u' v v' : List Parts) (b : Parts) → length u ≤ most → Ends u → Ends u'
        → Valid r (u ++ b ∷ v) → Valid r (u' ++ b ∷ v') → u ≡ u'
    by_ends most shorter u u' v v' b few nothing nothing c c' = refl
    by_ends most shorter u u' v v' b few nothing (last w' p') c c' = never w' v v' p' b c c'
    by_ends most shorter u u' v v' b few (last w p) nothing c c' = never w v' v p b c' c
    by_ends most shorter u u' v v' b few (last w p) (last w' p') c c' =
        let d = regrouped w p b v c in
        let d' = regrouped w' p' b v' c' in
        let same : p' ≡ p = premises.digests p' p (is_of_run w' p' (b ∷ v') d') (is_of_run w p (b ∷ v) d)
        (sym (later_names_block w' p' b v' d') ∙ later_names_block w p b v d) in
        let d'' = subst (λ (q : Parts). Valid r (w' ++ (q ∷ (b ∷ v')))) same d' in
        let fronts = shorter w w' (b ∷ v) (b ∷ v') p (omega (arith, length-append w (p ∷ []))) d d'' in
        λ i. fronts i ++ (sym same i ∷ [])

    before_it : (most : ℕ) → Before most
    before_it zero u u' v v' b few c c' = absurd (omega arith)
    before_it (suc most) u u' v v' b few c c' = by_ends most (before_it most) u u' v v' b (omega arith) (ends u) (ends u') c c'

    pub linked : (u u' v v' : List Parts) (b : Parts) → Valid r (u ++ b ∷ v) → Valid r (u' ++ b ∷ v') → u ≡ u'
    linked u u' v v' b = before_it (length u + 1) u u' v v' b (omega arith)
