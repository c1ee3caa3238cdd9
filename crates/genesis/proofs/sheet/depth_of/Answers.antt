-- `genesis::sheet::depth_of` meets its contract.
-- Assumes nothing.
use Prim.Native.Nat.{◌≤◌}
use mathlib.Core.Path.{sym, ◌∙◌}
use Rattle.laws.proofs.Every.{within_true}
use Rattle.genesis.proofs.Depths.{entry_is}
use Rattle.genesis.proofs.sheet.depth_of.Goals as goal

pub returns : goal.returns
returns c =
    let on-sheet : (1 ≤ c.args.n) × (c.args.n ≤ 31) = within_true 1 31 _ (sym c.within.ensures ∙ c.if-not-within.false) in
    let (one, many) = on-sheet in
    c.entry.ensures ∙ entry_is _ _ one many c.if-t-gt10.false
