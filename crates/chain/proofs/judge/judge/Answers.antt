-- `chain::judge::judge` meets its contract.
-- Assumes nothing.
use mathlib.Core.Path.{sym, ◌∙◌}
use Rattle.std.proofs.lemmas.Result.{err_from_is_err_and}
use Rattle.laws.proofs.Told.{found_as_refuses}
use Rattle.block.specs.Answers.{unlisted, body_of}
use Rattle.block.specs.Steps.{body_at}
use Rattle.block.proofs.Bodies.{body_told}
use Rattle.chain.specs.Answers.{way_of}
use Rattle.chain.proofs.Judging.{unread, stamp_not_above, not_admitted, joined_if_admitted}
use Rattle.chain.proofs.judge.judge.Goals as goal

pub returns-in_err-body : goal.returns-in_err-body
returns-in_err-body c =
    let a = c.args in
    let p = err_from_is_err_and c.from_residual.result c.from_residual.ensures.1 in
    let refused = found_as_refuses body_of (body_at a.chain.now a.before.length) _ 0 c.in_err-body.ensures in
    rw (p.1, p.2) (sym (unread (way_of a.way) a.clock.0 a.chain.now a.before _ 0 refused))

pub returns-then-not-earlier : goal.returns-then-not-earlier
returns-then-not-earlier c =
    let a = c.args in
    let body = c.in_ok-body.body in
    let told = body_told a.chain.now a.before.length body c.in_ok-body.next c.in_ok-body.ensures in
    let not_above = sym c.earlier.ensures ∙ c.if-not-earlier.true in
    sym (stamp_not_above (way_of a.way) a.clock.0 a.chain.now a.before (unlisted body.orders) body.slot.0 _ told not_above)

pub returns-in_err-admit : goal.returns-in_err-admit
returns-in_err-admit c =
    let a = c.args in
    let body = c.in_ok-body.body in
    let told = body_told a.chain.now a.before.length body c.in_ok-body.next c.in_ok-body.ensures in
    let above = sym c.earlier.ensures ∙ c.if-not-earlier.false in
    let p = err_from_is_err_and c.from_residual-in_err-admit.result c.from_residual-in_err-admit.ensures.1 in
    rw (p.1, p.2)
    (sym (not_admitted (way_of a.way) a.clock.0 a.chain.now a.before (unlisted body.orders) body.slot.0 _ told above _ 0 (sym c.in_err-admit.ensures)))

pub join-requires : goal.join-requires
join-requires c =
    (c.requires, body_told c.args.chain.now c.args.before.length c.in_ok-body.body c.in_ok-body.next c.in_ok-body.ensures)

pub returns : goal.returns
returns c =
    let a = c.args in
    let body = c.in_ok-body.body in
    let told = body_told a.chain.now a.before.length body c.in_ok-body.next c.in_ok-body.ensures in
    let above = sym c.earlier.ensures ∙ c.if-not-earlier.false in
    c.join.ensures
    ∙ sym (joined_if_admitted (way_of a.way) a.clock.0 a.chain.now a.before (unlisted body.orders) body.slot.0 _ told above (sym c.in_ok-admit.ensures))
