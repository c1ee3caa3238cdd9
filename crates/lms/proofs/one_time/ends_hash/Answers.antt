-- `lms::one_time::ends_hash` meets its contract. The loop's invariant: the text begins with the ends of the first i chains.
-- Assumes nothing.
use Rattle.std.proofs.Common.{◌≡◌, ℕ, ◌+◌, ◌-◌, ◌*◌, List, length, get_or, replicate, sym, ap, ap₂, ◌∙◌, append-nil, arith, rules}
use Rattle.std.proofs.lemmas.Slice.{take-put_mid}
use borrow.Rule.Slice.PartMut.{same_len_mid}
use lib.ListN.{length-replicate}
use Rattle.lms.specs.Lms.{identifier, chained, chain_end, chain_ends}
use Rattle.lms.proofs.Chains.{ends_next}
use Rattle.lms.proofs.one_time.ends_hash.Goals as goal

pub loop-i-init : goal.loop-i-init
unfolding chain_ends
loop-i-init c =
    let size : length c.front.result ≡ 22 = search rules in
    let copied = c.copy_from_slice.ensures.after in
    let first = c.copy_from_slice.new.self in (
      same_len_mid 0 22 (replicate 1110 0) first c.copy_from_slice.ensures.len ∙ length-replicate {A = ℕ} 1110 0,
      take-put_mid 0 22 (replicate 1110 0) first 22 (omega (arith, ap length copied)) (omega arith) ∙ copied ∙ c.front.ensures ∙ sym (append-nil _),
    )

pub loop-i-preserved : goal.loop-i-preserved
unfolding chain_end
loop-i-preserved c =
    let i = c.loop-i.i in
    let id = identifier c.args.key.now in
    let q = c.args.q in
    let signature = c.args.signature.now in
    let digits = c.args.digits in
    let text = c.loop-i.text in
    let end : c.chain-end.result ≡ chain_end id q signature digits i =
    c.chain-end.ensures
    ∙ ap₂ (λ (front y : List ℕ). chained front (get_or digits i 0) y (255 - get_or digits i 0)) c.front-in-loop-i.ensures c.value_at.ensures in
    let size : length c.chain-end.result ≡ 32 = search rules in
    let copied = c.copy_from_slice-in-loop-i.ensures.after in (
      same_len_mid (22 + 32 * i) _ text c.copy_from_slice-in-loop-i.new.self c.copy_from_slice-in-loop-i.ensures.len ∙ c.loop-i.invariant.0,
      take-put_mid (22 + 32 * i) _ text c.copy_from_slice-in-loop-i.new.self (22 + 32 * (i + 1)) (omega (arith, ap length copied)) (omega arith)
          ∙ rw (copied, end, c.loop-i.invariant.1, ends_next),
    )
