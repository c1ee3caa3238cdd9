-- The next block behind a held chain: its parts fit, and it follows.
-- Assumes nothing.
use Prim.Native.Nat.{ℕ, zero, suc, ◌+◌, ◌-◌, ◌/◌, ◌%◌, ◌^◌, ◌<◌, zero-le}
use mathlib.Core.Path.{◌≡◌, ap, subst}
use mathlib.Core.Bool.{Bool, true, false}
use mathlib.Core.List.{List, [], ◌∷◌, ◌++◌}
use native.Mathlib.Omega.{arith}
use lib.Dec.{ltb, leb, lit<}
use lib.ListN.{length, get_or, replicate, length-replicate}
use lib.Seq.{take-append_seam}
use borrow.Author.Tests.{lt-ltb}
use Rattle.laws.specs.Pick.{pick}
use Rattle.laws.specs.Told.{gives}
use Rattle.laws.specs.Every.{same, within}
use Rattle.laws.specs.Format.{Bytes}
use Rattle.laws.specs.Tabulate.{tabulate}
use Rattle.laws.proofs.Told.{gives_same, then_gives, unless_gives}
use Rattle.laws.proofs.Bytes.{bytes_filled}
use Rattle.laws.proofs.Every.{same_refl, within_here}
use Rattle.laws.proofs.Tabulate.{length_tabulate}
use Rattle.order.specs.declared.Order.{Order}
use Rattle.sha256.specs.Sha256.{sha256, longest, padded, hashed, digest_byte}
use Rattle.block.specs.Block.{Parts, front_bytes, block_bytes, Fits}
use Rattle.chain.specs.Chain.{link_of}
use Rattle.chain.specs.Blocks.{follows, followed}
use Rattle.chain.specs.declared.Opened.{Opened}
use Rattle.chain.specs.declared.Standing.{Standing}
use Rattle.chain.specs.declared.Summary.{Summary}
use Rattle.pool.specs.Pool.{pool_fits, counting, orders_of, taking}
use Rattle.order.specs.Order.{obeyed}
use Rattle.pool.specs.declared.Pool.{Pool}
use Rattle.issue.specs.Issue.{taken, next_front, append_bytes}
use Rattle.issue.proofs.Fronts.{taken_fine, taken_in_range}

-- ---- links are 32 bytes
pub record Digest (link : List ℕ) : Type 0 where
  pub size : length link ≡ 32
  pub bytes : Bytes link

tabulated_bytes : (n : ℕ) (f : ℕ → ℕ) → ((i : ℕ) → f i < 256) → Bytes (tabulate n f)
tabulated_bytes zero f h i = lit< tt
tabulated_bytes (suc n) f h zero = h 0
tabulated_bytes (suc n) f h (suc i) = tabulated_bytes n (λ j. f (suc j)) (λ j. h (suc j)) i

byte_small : (h : List ℕ) (i : ℕ) → digest_byte h i < 256
byte_small h i = let n : ℕ = get_or h (i / 4) 0 / 256 ^ (3 - i % 4) in small n
  where
    small : (n : ℕ) → n % 256 < 256
    small n = omega arith

sha256_digest : (m : List ℕ) → Digest (sha256 m)
unfolding sha256
sha256_digest m =
    let byte = digest_byte (hashed (padded m) (length (padded m) / 64)) in
    record { size = length_tabulate 32 byte; bytes = tabulated_bytes 32 byte (byte_small (hashed (padded m) (length (padded m) / 64))) }

pub link_digest : (m : List ℕ) → Digest (link_of m)
link_digest m = by_length (leb (length m) longest)
  where
    by_length : (β : Bool) → Digest (pick β (sha256 m) (replicate 32 0))
    by_length true = sha256_digest m
    by_length false = record { size = length-replicate {A = ℕ} 32 0; bytes = bytes_filled 32 0 (lit< tt) }

-- ---- the link that a standing carries on
follows_digest : (s : Standing) (p : Parts) (after : Standing) → follows s p ≡ gives after → Digest after.link
unfolding follows
follows_digest s p after e =
    let (above, rest) = unless_gives (ltb s.stamp.0 p.slot) 6 0 _ after e in
    let (linked, rest') = unless_gives (same p.link s.link) 9 0 _ after rest in
    let (releases, obeys, is) = then_gives (obeyed s.releases p.orders) _ after rest' in
    subst (λ (q : Standing). Digest q.link) (gives_same is) (link_digest (block_bytes p))

pub followed_digest : (blocks : List Parts) (s after : Standing) → Digest s.link → followed s blocks ≡ gives after → Digest after.link
followed_digest [] s after d e = subst (λ (q : Standing). Digest q.link) (gives_same e) d
followed_digest (p ∷ rest) s after d e =
    let (next, one, more) = then_gives (follows s p) _ after e in
    followed_digest rest next after (follows_digest s p next one) more

-- ---- the next block
abbrev pub next_parts : Opened → Summary → Pool → List ℕ → List ℕ → Parts
next_parts o held pool signature seal = record {
  link = held.whole.link;
  orders = taken held pool;
  slot = o.clock.0;
  slot_signature = signature;
  block_signature = seal;
}

-- signatures of 64 bytes, as the code's types have them
pub record Given (signature seal : List ℕ) : Type 0 where
  pub signature_size : length signature ≡ 64
  pub signature_bytes : Bytes signature
  pub seal_size : length seal ≡ 64
  pub seal_bytes : Bytes seal

-- what append writes is that block
pub append_writes : (o : Opened) (held : Summary) (pool : Pool) (signature seal : List ℕ)
    → append_bytes seal (next_front o held pool signature) ≡ block_bytes (next_parts o held pool signature seal)
unfolding block_bytes
append_writes o held pool signature seal =
    ap (λ (l : List Order). front_bytes held.whole.link l o.clock.0 signature ++ seal) (take-append_seam (taken held pool) _)

-- it follows the held chain
pub next_follows : (o : Opened) (held : Summary) (pool : Pool) (signature seal : List ℕ) → held.whole.stamp.0 < o.clock.0
    → follows held.whole (next_parts o held pool signature seal)
    ≡ gives
    (record {
      count = record { 0 = held.whole.count.0 + 1 };
      length = held.whole.length + length (block_bytes (next_parts o held pool signature seal));
      stamp = record { 0 = o.clock.0 };
      link = link_of (block_bytes (next_parts o held pool signature seal));
      releases = (taking 8 held.whole.releases (orders_of (counting held pool))).releases;
    })
unfolding follows
next_follows o held pool signature seal later =
    rw (lt-ltb held.whole.stamp.0 o.clock.0 later, same_refl held.whole.link, (taken_fine o held pool).obeys)

-- ---- and its parts fit
pub next_parts_fit : (o : Opened) (held : Summary) (pool : Pool) (signature seal : List ℕ) → Digest held.whole.link → Given signature seal
    → pool_fits o held pool ≡ true → within 1 256 o.clock.0 ≡ true → Fits (next_parts o held pool signature seal)
next_parts_fit o held pool signature seal digest given fits clock = record {
  link_size = digest.size;
  link_bytes = digest.bytes;
  count = within_here 0 8 (length (taken held pool)) zero-le (taken_fine o held pool).few;
  orders = taken_in_range o held pool fits;
  slot = clock;
  slot_signature_size = given.signature_size;
  slot_signature_bytes = given.signature_bytes;
  block_signature_size = given.seal_size;
  block_signature_bytes = given.seal_bytes;
}
