-- `genesis::find_key` meets its contract: the keys of a table that was read lie in its bytes.
-- Assumes nothing.
use mathlib.Core.Path.{◌≡◌, sym, ◌∙◌}
use Prim.Native.Nat.{◌≤◌}
use native.Mathlib.Omega.{arith}
use Rattle.laws.proofs.Every.{within_true}
use Rattle.genesis.proofs.Sound.{sound}
use Rattle.genesis.proofs.find_key.Goals as goal

pub overflow_add-result : goal.overflow_add-result
overflow_add-result c =
    let known : (1 ≤ c.args.controller) × (c.args.controller ≤ c.in_ok-table.table.n) = within_true _ _ _ (sym c.within.ensures ∙ c.if-not-within.false) in
    let fine = sound c.args.bytes.now c.in_ok-table.table (sym c.in_ok-table.ensures) in
    omega (arith, fine.whole, fine.few, known)
