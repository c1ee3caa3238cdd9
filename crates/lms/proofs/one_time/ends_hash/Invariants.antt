-- `lms::one_time::ends_hash` meets its contract. The loop's invariant: the text begins with the ends of the first i chains.
-- Assumes nothing.
use Rattle.std.proofs.Common.{◌≡◌, ◌+◌, ◌*◌, ◌++◌, length, take}
use Rattle.lms.specs.Lms.{identifier, key_tag, prefix, chain_ends}
use Rattle.lms.proofs.one_time.ends_hash.Given as goal

abbrev pub invariant-loop-i : goal.invariant-loop-i
invariant-loop-i l =
    (length l.text ≡ 1110)
    × (take (22 + 32 * l.i) l.text ≡ prefix (identifier l.key) l.q key_tag ++ chain_ends (identifier l.key) l.q l.signature l.digits l.i)
