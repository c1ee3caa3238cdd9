-- `sha256::rounds::Words::sixteen_rounds` meets its contract.
-- Assumes nothing.
use Rattle.std.proofs.Common.{◌+◌, refl, arith}
use Rattle.sha256.proofs.rounds.Words.sixteen_rounds.Goals as goal

pub returns : goal.returns
returns c hash block next is r0 =
    let t = c.args.t in
    let r2 = c.two_rounds.ensures hash block (t + 2) refl r0 in
    let r4 = c.two_rounds-2.ensures hash block (t + 4) (omega arith) r2 in
    let r6 = c.two_rounds-3.ensures hash block (t + 6) (omega arith) r4 in
    let r8 = c.two_rounds-4.ensures hash block (t + 8) (omega arith) r6 in
    let r10 = c.two_rounds-5.ensures hash block (t + 10) (omega arith) r8 in
    let r12 = c.two_rounds-6.ensures hash block (t + 12) (omega arith) r10 in
    let r14 = c.two_rounds-7.ensures hash block (t + 14) (omega arith) r12 in
    c.two_rounds-8.ensures hash block next (omega arith) r14
