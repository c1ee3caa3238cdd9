-- `lms::one_time::chain` meets its contract. The loop's invariant: the value has gone the steps up to j.
-- Assumes nothing.
use Rattle.std.proofs.Common.{ℕ, List, ◌∷◌, ◌++◌, ap, ◌∙◌, append-nil, arith}
use Rattle.sha256.specs.Sha256.{sha256}
use Rattle.lms.proofs.Chains.{chained_next}
use Rattle.lms.proofs.one_time.chain.Goals as goal

pub loop-j-preserved : goal.loop-j-preserved
loop-j-preserved c =
    let loop = c.loop-j in
    let front = c.args.front in
    c.hash-next.ensures
    ∙ ap sha256 (c.text_of-text.ensures ∙ ap (λ (l : List ℕ). front ++ (loop.j ∷ l)) (append-nil loop.value ∙ loop.invariant))
    ∙ chained_next front c.args.digit c.args.start loop.j (omega arith)
