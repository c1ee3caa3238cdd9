-- `block::reading::read_listed` meets its contract.
-- Assumes nothing.
use mathlib.Core.Path.{◌≡◌, sym, ap, ◌∙◌}
use native.Mathlib.Omega.{arith}
use lib.ListN.{take, replicate, length-set}
use lib.Seq.{take_all, length-take-le}
use mathlib.Core.List.{◌++◌}
use Prim.Native.Nat.{◌-◌}
use Rattle.std.proofs.Common.{rules}
use Rattle.std.proofs.lemmas.List.{drop-replicate}
use Rattle.std.proofs.lemmas.Result.{err_from_is_err_and}
use Rattle.laws.specs.Told.{found, found_as}
use Rattle.laws.proofs.Repeated.{into_none, into_next, into_refused, into_all}
use Rattle.block.specs.Block.{order_at}
use Rattle.block.specs.Answers.{no_order, listed}
use Rattle.block.proofs.reading.read_listed.Goals as goal

pub loop-order-init : goal.loop-order-init
loop-order-init c =
    let zeros = replicate 8 c.default-list.result in
    (length-take-le c.args.count zeros c.requires, into_none order_at c.args.s.now c.args.at c.args.count zeros)

pub returns-in_err-order : goal.returns-in_err-order
returns-in_err-order c =
    let loop = c.loop-order in
    let p = err_from_is_err_and c.from_residual.result c.from_residual.ensures.1 in
    let refused = into_refused order_at c.args.s.now c.args.at c.args.count loop.order-items loop.order-index loop.place loop.invariant.1 _ 0
    (omega (arith, loop.invariant.0, c.loop-order-test.true)) (sym c.in_err-order.ensures) in
    rw (p.1, p.2) (sym (ap (found_as listed) refused))

pub loop-order-preserved : goal.loop-order-preserved
loop-order-preserved c =
    let loop = c.loop-order in
    let value = c.in_ok-order.field-0-0 in (
      simp length-set loop.invariant.0,
      into_next order_at c.args.s.now c.args.at c.args.count loop.order-items loop.order-index loop.place loop.invariant.1 value c.in_ok-order.field-0-1
          (omega (arith, loop.invariant.0, c.loop-order-test.true)) (omega (arith, c.loop-order-test.true)) (sym c.in_ok-order.ensures),
    )

pub returns : goal.returns
returns c =
    let loop = c.loop-order in
    let items = loop.order-items in
    let all = into_all order_at c.args.s.now c.args.at c.args.count items loop.order-index loop.place loop.invariant.1
    (omega (arith, loop.invariant.0, loop.auto.order-index-end, c.loop-order-test.false)) in
    let whole : take c.args.count c.loop-order.order-items ≡ c.loop-order.order-items = take_all c.args.count items (omega (arith, loop.invariant.0)) in
    let zeros : c.default-list.result ≡ no_order = search rules in
    let counted = sym loop.invariant.0 in
    let behind = drop-replicate c.args.count 8 c.default-list.result ∙ (λ i. replicate (8 - counted i) (zeros i)) in
    rw (all, whole) (λ i. found (record { count = counted i; list = items ++ behind i }) loop.place)
