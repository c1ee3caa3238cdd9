-- `issue::next_front` meets its contract.
-- Assumes nothing.
use mathlib.Core.Path.{◌≡◌, ap, ◌∙◌}
use mathlib.Core.List.{List}
use lib.ListN.{length, take}
use Rattle.laws.specs.Tabulate.{tailed}
use Rattle.block.specs.Answers.{no_order}
use Rattle.pool.specs.Pool.{entries_in, counting, orders_of, taking}
use Rattle.pool.specs.Answers.{taken_of}
use Rattle.pool.specs.declared.Entry.{Entry}
use Rattle.pool.specs.declared.Pool.{Pool}
use Rattle.pool.specs.declared.Taken.{Taken}
use Rattle.pool.proofs.Joining.{entries_of}
use Rattle.issue.specs.Issue.{taken}
use Rattle.issue.proofs.Fronts.{eight_of, taken_fine}
use Rattle.issue.proofs.next_front.Goals as goal

pub returns : goal.returns
returns c =
    let a = c.args in
    let held = a.held.now in
    let pool = a.pool.now in
    let l = taken held pool in
    let is : c.take-count.result ≡ taken_of (taking 8 c.args.held.now.whole.releases (orders_of (counting c.args.held.now c.args.pool.now))) =
    c.take-count.ensures
    ∙ ap (λ (p : Pool). taken_of (taking 8 held.whole.releases (orders_of (entries_in p)))) c.counting.ensures
    ∙ ap (λ (e : List Entry). taken_of (taking 8 held.whole.releases (orders_of e))) (entries_of (counting held pool)) in
    let count : c.take-count.result.count ≡ length l = ap (λ (r : Taken). r.count) is in
    let list : c.first_eight-list.result ≡ tailed 8 no_order l =
    c.first_eight-list.ensures ∙ ap (λ (r : Taken). take 8 r.orders) is ∙ eight_of no_order l (taken_fine a.opened.now held pool).few in
    λ i. record { link = held.whole.link; orders = record { count = count i; list = list i }; slot = a.opened.now.clock; slot_signature = a.slot_signature }
