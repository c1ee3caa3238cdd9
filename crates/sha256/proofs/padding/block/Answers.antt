-- `sha256::padding::block` meets its contract.
-- Assumes nothing.
use Rattle.std.proofs.Common.{◌+◌, ◌*◌, sym, ◌∙◌, rules}
use Rattle.sha256.proofs.Made.{made}
use Rattle.sha256.proofs.Padded.{block_inside}
use Rattle.sha256.specs.Sha256.{padded, word_at, block_at}
use Rattle.sha256.proofs.padding.block.Goals as goal

pub returns-then-n-s : goal.returns-then-n-s
unfolding block_at
returns-then-n-s c =
    let m = c.args.s.now in
    let n = c.args.n in
    made _ (λ t. word_at m (64 * n + 4 * t)) _ 16 (λ t y later small k. search rules) _ c.from_fn.ensures.items ∙ sym (block_inside m n c.if-n-s.true)

pub returns : goal.returns
unfolding block_at
returns c =
    made _ (λ t. word_at (padded c.args.s.now) (64 * c.args.n + 4 * t)) _ 16 (λ t y later small k. search rules) _ c.from_fn-2.ensures.items
