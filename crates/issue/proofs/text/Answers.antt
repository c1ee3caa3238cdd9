-- `issue::text` meets its contract: the letters are put in front of what was written behind the room for them.
-- Assumes nothing.
use Prim.Native.Nat.{ℕ}
use mathlib.Core.Path.{◌≡◌, sym, ap, ◌∙◌}
use mathlib.Core.List.{List, [], ◌∷◌}
use Rattle.laws.specs.Placed.{placing}
use Rattle.block.specs.Blocks.{front_of}
use Rattle.issue.proofs.Texts.{text_written}
use Rattle.issue.proofs.text.Goals as goal

pub returns-clause-out : goal.returns-clause-out
returns-clause-out c =
    let letters = 98 ∷ 108 ∷ 111 ∷ 99 ∷ 107 ∷ [] in
    let bytes = front_of c.args.front in
    let later : c.write_front.new.out ≡ placing c.args.out.now 5 (front_of c.args.front) = c.in_ok-end.ensures.buffer ∙ rw c.requires in
    c.put.ensures.buffer
    ∙ ap (λ (l : List ℕ). placing l 0 letters) later
    ∙ text_written c.args.out.now letters bytes _ (sym (c.in_ok-end.ensures.answer ∙ rw c.requires))
