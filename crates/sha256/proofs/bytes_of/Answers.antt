-- `sha256::bytes_of` meets its contract.
-- Assumes nothing.
use Rattle.std.proofs.Common.{◌≡◌, ℕ, zero, suc, ◌-◌, ◌/◌, ◌%◌, ◌^◌, ◌<◌, get_or, refl, sym, ap, ◌∙◌, div-one, arith, rules, w32}
use Rattle.std.specs.Int.{to_be_bytes}
use Rattle.sha256.specs.Sha256.{digest_byte}
use Rattle.sha256.proofs.Made.{made}
use Rattle.sha256.proofs.bytes_of.Goals as goal

byte : (word k : ℕ) → k < 4 → get_or (to_be_bytes w32 word) k 0 ≡ word / 256 ^ (3 - k) % 256
byte word zero h = refl
byte word (suc zero) h = refl
byte word (suc (suc zero)) h = refl
byte word (suc (suc (suc zero))) h = ap (λ (n : ℕ). n % 256) (sym (div-one word))
byte word (suc (suc (suc (suc k)))) h = absurd (omega arith)

pub returns : goal.returns
returns c =
    made _ (digest_byte c.args.hash) _ 32
    (λ i y later small k.
    let word = get_or c.args.hash (i / 4) 0 in
    let is : y ≡ get_or (to_be_bytes w32 word) (i % 4) 0 = search rules in
    (is ∙ byte word (i % 4) (omega arith), search rules))
    _ c.from_fn.ensures.items
