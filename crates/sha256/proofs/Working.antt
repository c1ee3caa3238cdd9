-- The working words, one round after the other.
-- Assumes nothing.
use Rattle.std.proofs.Common.{◌≡◌, ℕ, suc, ◌<◌, List, get_or, refl, ◌∙◌}
use Rattle.sha256.proofs.Schedule.{kept}
use Rattle.sha256.specs.Sha256.{round_constants, schedule, round, working}
use Rattle.sha256.specs.Steps.{scheduled}

pub one_round : (hash block : List ℕ) (t : ℕ) {s r : List ℕ} {constant word : ℕ} → t < 64 → constant ≡ get_or round_constants t 0
    → word ≡ scheduled block t → r ≡ round constant word s → s ≡ working (schedule block 64) hash t → r ≡ working (schedule block 64) hash (suc t)
unfolding working
one_round hash block t inside is-constant is_IsWord after before = after ∙ rw (is-constant, is_IsWord, before, kept block t 64 inside)

pub no_round : (w h : List ℕ) → h ≡ working w h 0
unfolding working
no_round w h = refl
