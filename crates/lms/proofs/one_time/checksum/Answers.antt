-- `lms::one_time::checksum` meets its contract.
-- Assumes nothing.
use Rattle.std.proofs.Common.{◌≡◌, ℕ, ◌-◌, length, ◌∙◌, arith, rules}
use Rattle.std.proofs.lemmas.Iterator.{YieldsList-from_slice, YieldsList-from_map}
use Rattle.std.proofs.lemmas.Iterator.Consumers.{sum_by_from_yields_List, fits_by_from_yields_list}
use Rattle.lms.proofs.Checksum.{small, sum_is}
use Rattle.lms.proofs.one_time.checksum.Goals as goal

abbrev left : ℕ → ℕ
left digit = 255 - digit

pub sum-requires-clause-fits : goal.sum-requires-clause-fits
sum-requires-clause-fits c =
    let hash = c.args.hash.now in
    let size : length hash ≡ 32 = search rules in
    fits_by_from_yields_list left hash c.map.result _
    (YieldsList-from_map _ left (YieldsList-from_slice hash cc) c.map.ensures.closure (λ x r q k. search rules))
    (omega (arith, sum_is hash 32 (omega arith), small hash 32))

pub returns : goal.returns
returns c =
    let hash = c.args.hash.now in
    let size : length hash ≡ 32 = search rules in
    sum_by_from_yields_List left hash c.map.result c.sum.result c.sum.ensures.ran
    (YieldsList-from_map _ left (YieldsList-from_slice hash cc) c.map.ensures.closure (λ x r q k. search rules))
    ∙ sum_is hash 32 (omega arith)
