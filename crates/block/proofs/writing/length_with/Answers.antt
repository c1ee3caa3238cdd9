-- `block::writing::length_with` meets its contract.
-- Assumes nothing.
use mathlib.Core.Path.{◌≡◌}
use lib.ListN.{length}
use borrow.Author.Rules.{rules}
use Rattle.block.proofs.Lists.{size_with}
use Rattle.block.proofs.writing.length_with.Goals as goal

pub returns : goal.returns
returns c =
    let link : length c.args.front.now.link ≡ 32 = search rules in
    let signature : length c.args.front.now.slot_signature ≡ 64 = search rules in
    size_with c.args.front.now c.args.behind.now link signature _ c.as_slice.ensures _ c.front_length.ensures.0
