-- `issue::append` meets its contract.
-- Assumes nothing.
use mathlib.Core.Path.{sym, ◌∙◌}
use Rattle.std.proofs.lemmas.Result.{err_from_is_err_and}
use Rattle.block.specs.declared.Block.{Block}
use Rattle.block.proofs.Lists.{block_pieces}
use Rattle.issue.proofs.Fronts.{front_fits_law}
use Rattle.issue.proofs.append.Goals as goal

pub returns-in_err-write : goal.returns-in_err-write
returns-in_err-write c =
    let told = sym c.in_ok-front.ensures in
    let fits = front_fits_law _ _ _ _ _ _ _ _ told in
    let block : Block = record { front = c.in_ok-front.front; block_signature = c.args.block_signature } in
    let p = err_from_is_err_and c.from_residual-in_err-write.result c.from_residual-in_err-write.ensures.1 in
    record {
      answer = rw (p.1, p.2) (c.in_err-write.ensures.answer ∙ rw (fits, told, block_pieces block));
      held = c.write.ensures.buffer ∙ rw (fits, told, block_pieces block);
    }

pub returns : goal.returns
returns c =
    let told = sym c.in_ok-front.ensures in
    let fits = front_fits_law _ _ _ _ _ _ _ _ told in
    let block : Block = record { front = c.in_ok-front.front; block_signature = c.args.block_signature } in
    record {
      answer = c.in_ok-write.ensures.answer ∙ rw (fits, told, block_pieces block);
      held = c.write.ensures.buffer ∙ rw (fits, told, block_pieces block);
    }
