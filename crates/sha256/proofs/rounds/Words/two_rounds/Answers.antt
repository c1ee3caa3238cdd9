-- `sha256::rounds::Words::two_rounds` meets its contract: the code's table is the definition's.
-- Assumes nothing.
use Rattle.std.proofs.Common.{◌≡◌, ℕ, suc, List, get_or, refl, ap, ◌∙◌, add-one, arith}
use Rattle.sha256.proofs.Schedule.{moves}
use Rattle.sha256.proofs.Working.{one_round}
use Rattle.sha256.specs.Sha256.{round_constants}
use Rattle.sha256.specs.Steps.{words_from, moved_on}
use Rattle.sha256.proofs.rounds.Words.two_rounds.Goals as goal

pub returns : goal.returns
unfolding words_from round_constants
returns c hash block next is (is-s, is-w) =
    let t = c.args.t in
    let word : (i : ℕ) → get_or c.args.self.window i 0 ≡ get_or (words_from block t 16) i 0 = λ i. ap (λ (w : List ℕ). get_or w i 0) is-w in
    let e1 = one_round hash block t (omega arith) refl (word 0) c.round-half.ensures is-s in
    let e2 = one_round hash block (suc t) (omega arith) (rw add-one) (word 1) c.round.ensures e1 in
    let after : next ≡ suc (suc t) = omega arith in
    rw after (e2, c.moved_on.ensures ∙ ap moved_on is-w ∙ moves block t)
