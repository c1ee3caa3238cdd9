-- `genesis::read_table` meets its contract.
-- Assumes nothing.
use mathlib.Core.Path.{◌≡◌, refl, sym, ◌∙◌}
use mathlib.Core.Bool.{true, false}
use mathlib.Core.List.{List}
use Prim.Native.Nat.{ℕ, ◌+◌, ◌*◌}
use Rattle.std.proofs.lemmas.Result.{err_from_is_err_and}
use native.Mathlib.Omega.{arith}
use lib.ListN.{length, take, replicate, length-set}
use lib.Seq.{take_all}
use Rattle.laws.specs.Told.{found}
use Rattle.laws.proofs.Every.{both_false}
use Rattle.laws.proofs.Repeated.{Into, into_none, into_next, into_refused, into_all}
use Rattle.number.specs.Number.{number_at}
use Rattle.genesis.specs.Genesis.{rules, ended, head_at, table_at, table_in}
use Rattle.genesis.specs.declared.Head.{Head}
use Rattle.genesis.proofs.read_table.Goals as goal

-- a table whose releases were read, by its rules and its end
table_is : (s : List ℕ) (h : Head) (at i : ℕ) (l : List ℕ) (keys : ℕ) → found h at ≡ head_at s → length l ≡ 64 → Into number_at s at 64 l i keys → i ≡ 64
    → table_in s ≡ table_at s h (record { value = l; next = keys })
table_is s h at i l keys head long so_far over =
    let all = into_all number_at s at 64 l i keys so_far over in
    let whole : take 64 l ≡ l = take_all 64 l (omega (arith, long)) in
    rw (← head, all, whole)

pub loop-release-init : goal.loop-release-init
loop-release-init c = (refl, into_none number_at c.args.bytes.now c.in_ok-head.at 64 (replicate 64 0))

pub returns-in_err-release : goal.returns-in_err-release
returns-in_err-release c =
    let loop = c.loop-release in
    let p = err_from_is_err_and c.from_residual-in_err-release.result c.from_residual-in_err-release.ensures.1 in
    let refused = into_refused number_at c.args.bytes.now c.in_ok-head.at 64 loop.release-items loop.release-index loop.keys_at loop.invariant.1 _ 0
    (omega (arith, loop.invariant.0, c.loop-release-test.true)) (sym c.in_err-release.ensures) in
    rw (p.1, p.2, ← c.in_ok-head.ensures) (sym (rw refused))

pub loop-release-preserved : goal.loop-release-preserved
loop-release-preserved c =
    let loop = c.loop-release in
    let told : number_at c.args.bytes.now loop.keys_at ≡ found c.in_ok-release.field-0-0 c.in_ok-release.field-0-1 = sym c.in_ok-release.ensures in (
      simp length-set loop.invariant.0,
      into_next number_at c.args.bytes.now c.in_ok-head.at 64 loop.release-items loop.release-index loop.keys_at loop.invariant.1
          c.in_ok-release.field-0-0 c.in_ok-release.field-0-1
          (omega (arith, loop.invariant.0, c.loop-release-test.true)) (omega (arith, loop.invariant.0, c.loop-release-test.true)) told,
    )

pub returns-then-not-rules : goal.returns-then-not-rules
returns-then-not-rules c =
    let loop = c.loop-release in
    let is = table_is c.args.bytes.now c.in_ok-head.head c.in_ok-head.at loop.release-index loop.release-items loop.keys_at
    c.in_ok-head.ensures loop.invariant.0 loop.invariant.1 (omega (arith, loop.auto.release-index-end, c.loop-release-test.false)) in
    let bad : rules c.in_ok-head.head ≡ false = sym c.rules.ensures ∙ c.if-not-rules.true in
    sym (is ∙ rw bad)

pub returns-then-not-keys_end : goal.returns-then-not-keys_end
returns-then-not-keys_end c =
    let loop = c.loop-release in
    let is = table_is c.args.bytes.now c.in_ok-head.head c.in_ok-head.at loop.release-index loop.release-items loop.keys_at
    c.in_ok-head.ensures loop.invariant.0 loop.invariant.1 (omega (arith, loop.auto.release-index-end, c.loop-release-test.false)) in
    let bad : ended c.args.bytes.now (c.loop-release.keys_at + 32 * c.in_ok-head.head.n) ≡ false = sym c.keys_end.ensures ∙ c.if-not-keys_end.true in
    sym (is ∙ rw (bad, both_false (rules c.in_ok-head.head)))

pub returns : goal.returns
returns c =
    let loop = c.loop-release in
    let is = table_is c.args.bytes.now c.in_ok-head.head c.in_ok-head.at loop.release-index loop.release-items loop.keys_at
    c.in_ok-head.ensures loop.invariant.0 loop.invariant.1 (omega (arith, loop.auto.release-index-end, c.loop-release-test.false)) in
    let fine : rules c.in_ok-head.head ≡ true = sym c.rules.ensures ∙ c.if-not-rules.false in
    let ends : ended c.args.bytes.now (c.loop-release.keys_at + 32 * c.in_ok-head.head.n) ≡ true = sym c.keys_end.ensures ∙ c.if-not-keys_end.false in
    sym (is ∙ rw (fine, ends))
