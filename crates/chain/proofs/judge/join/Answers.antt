-- `chain::judge::join` meets its contract.
-- Assumes nothing.
use mathlib.Core.Path.{◌≡◌, sym, ◌∙◌, ap}
use native.Mathlib.Omega.{arith}
use mathlib.Core.List.{List}
use Prim.Native.Nat.{ℕ}
use Rattle.std.proofs.lemmas.Result.{err_from_is_err_and}
use Rattle.laws.specs.Told.{gives, refuses}
use Rattle.order.specs.Order.{obeyed}
use Rattle.order.specs.declared.Order.{Order}
use Rattle.block.specs.Answers.{unlisted}
use Rattle.chain.proofs.Judging.{ends, other_link, other_orders, joins}
use Rattle.chain.proofs.judge.join.Goals as goal

pub returns-then-not-stands_at : goal.returns-then-not-stands_at
returns-then-not-stands_at c =
    let a = c.args in
    let link = sym c.stands_at.ensures ∙ c.if-not-stands_at.true in
    sym (other_link a.chain.now a.before (unlisted a.body.orders) a.body.slot.0 a.next c.requires.1 link)

pub returns-in_err-releases : goal.returns-in_err-releases
returns-in_err-releases c =
    let a = c.args in
    let p = err_from_is_err_and c.from_residual.result c.from_residual.ensures.1 in
    let link = sym c.stands_at.ensures ∙ c.if-not-stands_at.false in
    let orders = ap (obeyed a.before.releases) (sym c.as_slice.ensures) ∙ sym c.in_err-releases.ensures in
    rw (p.1, p.2) (sym (other_orders a.chain.now a.before (unlisted a.body.orders) a.body.slot.0 a.next c.requires.1 link _ 0 orders))

pub slice_bounds-link_of-count : goal.slice_bounds-link_of-count
slice_bounds-link_of-count c =
    let a = c.args in
    let (long, inside) = ends a.chain.now a.before (unlisted a.body.orders) a.body.slot.0 a.next c.requires.1 in
    omega (arith, long)

pub slice_bounds-link_of-start : goal.slice_bounds-link_of-start
slice_bounds-link_of-start c =
    let a = c.args in
    let (long, inside) = ends a.chain.now a.before (unlisted a.body.orders) a.body.slot.0 a.next c.requires.1 in
    omega (arith, long)

pub slice_bounds-link_of-end : goal.slice_bounds-link_of-end
slice_bounds-link_of-end c =
    let a = c.args in
    let (long, inside) = ends a.chain.now a.before (unlisted a.body.orders) a.body.slot.0 a.next c.requires.1 in
    omega (arith, inside)

pub returns : goal.returns
returns c =
    let a = c.args in
    let link = sym c.stands_at.ensures ∙ c.if-not-stands_at.false in
    let orders : obeyed a.before.releases (unlisted a.body.orders) ≡ gives c.in_ok-releases.releases =
    ap (obeyed a.before.releases) (sym c.as_slice.ensures) ∙ sym c.in_ok-releases.ensures in
    rw c.link_of.ensures (sym (joins a.chain.now a.before (unlisted a.body.orders) a.body.slot.0 a.next c.requires.1 link c.in_ok-releases.releases orders))
