-- `sha256::hash` meets its contract. The loop's invariant: the hash is that of the first n blocks.
-- Assumes nothing.
use Rattle.std.proofs.Common.{◌≡◌, ◌/◌, length, refl, ap, ◌∙◌, add-one, arith}
use Rattle.sha256.proofs.Padded.{padded_length}
use Rattle.sha256.specs.Sha256.{padded, hashed}
use Rattle.sha256.proofs.hash.Goals as goal

pub loop-n-init : goal.loop-n-init
unfolding hashed
loop-n-init c = refl

pub loop-n-preserved : goal.loop-n-preserved
unfolding hashed
loop-n-preserved c = c.compress-next.ensures ∙ rw (add-one, c.block.ensures, c.loop-n.invariant)

pub returns : goal.returns
returns c =
    let s = c.args.s.now in
    let all : c.loop-n.n ≡ length (padded s) / 64 = omega (arith, padded_length s) in
    c.loop-n.invariant ∙ ap (hashed (padded s)) all
