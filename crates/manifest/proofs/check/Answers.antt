-- `manifest::check` meets its contract.
-- Assumes nothing.
use mathlib.Core.Path.{sym, ◌∙◌}
use borrow.Author.Tests.{le-leb}
use Rattle.std.proofs.lemmas.Result.{err_from_is_err_and}
use Rattle.manifest.proofs.Refusals.{signed}
use Rattle.manifest.proofs.check.Goals as goal

pub returns-in_err-verify : goal.returns-in_err-verify
returns-in_err-verify c =
    let a = c.args in
    let head = c.in_ok-release.ensures in
    let p = err_from_is_err_and c.from_residual-in_err-verify.result c.from_residual-in_err-verify.ensures.1 in
    let invalid = sym (signed a.key.now a.manifest.now c.in_ok-release.release c.in_ok-release.at head) ∙ sym c.in_err-verify.ensures in
    rw (p.1, p.2, le-leb _ _ c.if-image-gt-LONGEST.false, ← head) (sym (rw invalid))

pub returns : goal.returns
returns c =
    let a = c.args in
    let head = c.in_ok-release.ensures in
    let valid = sym (signed a.key.now a.manifest.now c.in_ok-release.release c.in_ok-release.at head) ∙ sym c.in_ok-verify.ensures in
    c.matched.ensures ∙ rw (le-leb _ _ c.if-image-gt-LONGEST.false, ← head, valid)
