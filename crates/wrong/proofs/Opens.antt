-- What opening the named genesis gives. Its digest is computed here, once.
-- Assumes nothing.
use Prim.Native.Nat.{ℕ}
use mathlib.Core.Path.{◌≡◌, refl, ap, ◌∙◌}
use mathlib.Core.Bool.{true}
use Rattle.laws.specs.Told.{gives, unless}
use Rattle.laws.specs.Every.{within}
use Rattle.number.specs.Number.{number_at, read_groups}
use Rattle.sha256.specs.Sha256.{round_constants, padded, block_at, schedule, round, working, compressed, hashed, sha256}
use Rattle.genesis.specs.Genesis.{genesis_of}
use Rattle.chain.specs.Chain.{opened}
use Rattle.wrong.specs.Named.{genesis, table, link, start}

digest : sha256 genesis ≡ link
unfolding round_constants padded block_at schedule round working compressed hashed sha256
digest = refl

pub opens : (clock : ℕ) → within 1 256 clock ≡ true → opened genesis clock ≡ gives (start clock)
unfolding genesis_of number_at read_groups
opens clock fits =
    ap (λ β. unless β 2 0 (gives (record { table = table; link = sha256 genesis; clock = record { 0 = clock } }))) fits
    ∙ ap (λ l. gives (record { table = table; link = l; clock = record { 0 = clock } })) digest
