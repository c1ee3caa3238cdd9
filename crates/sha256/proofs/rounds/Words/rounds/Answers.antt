-- `sha256::rounds::Words::rounds` meets its contract.
-- Assumes nothing.
use Rattle.std.proofs.Common.{refl, rules}
use Rattle.sha256.proofs.Schedule.{starts}
use Rattle.sha256.proofs.Working.{no_round}
use Rattle.sha256.specs.Sha256.{schedule}
use Rattle.sha256.proofs.rounds.Words.rounds.Goals as goal

pub returns : goal.returns
returns c =
    let hash = c.args.self.working in
    let block = c.args.self.window in
    let r16 = c.sixteen_rounds.ensures hash block 16 refl (no_round (schedule block 64) hash, starts block (search rules)) in
    let r32 = c.sixteen_rounds-2.ensures hash block 32 refl r16 in
    let r48 = c.sixteen_rounds-3.ensures hash block 48 refl r32 in
    (c.sixteen_rounds-4.ensures hash block 64 refl r48).0
