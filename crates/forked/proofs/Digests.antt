-- The digests of the run's genesis and blocks, computed from the definition. The hashes after each chunk of 64 bytes are given, and checked.
-- Assumes nothing.
use Prim.Native.Nat.{ℕ}
use mathlib.Core.Path.{◌≡◌, refl, ap, ◌∙◌}
use mathlib.Core.List.{List, [], ◌∷◌}
use Rattle.number.specs.Number.{written, groups}
use Rattle.sha256.specs.Sha256.{round_constants, padded, block_at, schedule, round, working}
use Rattle.block.specs.Block.{block_bytes, front_bytes}
use Rattle.chain.specs.Chain.{link_of}
use Rattle.forked.specs.Forked.{genesis, signature, seal, block, boot, carried, link, other}
use Rattle.forked.proofs.Chunks.{digest_of, link_is}

abbrev hashes_0 : List (List ℕ)
hashes_0 =
    (0x3de8e2dd ∷ 0xca915ed5 ∷ 0xe405df17 ∷ 0x0e9113e5 ∷ 0x7947e4a7 ∷ 0x4f084224 ∷ 0x24e46044 ∷ 0xebff8ca0 ∷ []) ∷
    (0xf6cacbd4 ∷ 0x7a730702 ∷ 0xc491886b ∷ 0x52230f1a ∷ 0xc4a53c32 ∷ 0xc527f663 ∷ 0xa8318414 ∷ 0xeb14e6cd ∷ []) ∷
    (0x7385b09c ∷ 0x476a6b26 ∷ 0x37bbfaec ∷ 0xb99a39e0 ∷ 0x23b342d2 ∷ 0xb1ee5396 ∷ 0xff6f9995 ∷ 0x7faeb6a3 ∷ []) ∷
    (0x6b7b259c ∷ 0x79e78d68 ∷ 0x6b8b20f6 ∷ 0x35a0e77b ∷ 0xe4683bc2 ∷ 0xc7a06e4c ∷ 0x99d344dd ∷ 0x19c458b8 ∷ []) ∷
    (0x517bf897 ∷ 0x824dda7c ∷ 0xe16c73d4 ∷ 0xa86fc391 ∷ 0xb38b20ff ∷ 0x778a0d59 ∷ 0xbbb096f6 ∷ 0xc57b11d3 ∷ []) ∷ []

computed_0 : link_of genesis ≡ digest_of hashes_0
unfolding round_constants padded block_at schedule round working genesis
computed_0 = link_is genesis hashes_0 refl refl (refl, refl, (refl, refl, (refl, refl, (refl, refl, (refl, refl, tt)))))

pub link_0 : link 0 ≡ digest_of hashes_0
unfolding link
link_0 = computed_0

abbrev hashes_1 : List (List ℕ)
hashes_1 =
    (0xe99310b3 ∷ 0x9047f218 ∷ 0xdae4cf64 ∷ 0xccfbebb2 ∷ 0xafb86264 ∷ 0x6998d1ae ∷ 0x9114450b ∷ 0x70380b2a ∷ []) ∷
    (0x3ee8f20b ∷ 0x4da7da78 ∷ 0xd26690d1 ∷ 0x49a0557a ∷ 0xed5c81ea ∷ 0x60ad7935 ∷ 0x54ff8fb2 ∷ 0xa00fdde5 ∷ []) ∷
    (0x73e1bbf1 ∷ 0xcd6a985d ∷ 0x8f663f02 ∷ 0x35c2c4d0 ∷ 0xf071c752 ∷ 0xb0ed0fe5 ∷ 0x214a1059 ∷ 0xd7ed81ec ∷ []) ∷ []

computed_1 : link_of (block_bytes (block (digest_of hashes_0) (carried 0) 1)) ≡ digest_of hashes_1
unfolding round_constants padded block_at schedule round working written groups front_bytes block_bytes signature seal
computed_1 = link_is (block_bytes (block (digest_of hashes_0) (carried 0) 1)) hashes_1 refl refl (refl, refl, (refl, refl, (refl, refl, tt)))

pub link_1 : link 1 ≡ digest_of hashes_1
unfolding link
link_1 = ap (λ (l : List ℕ). link_of (block_bytes (block l (carried 0) 1))) link_0 ∙ computed_1

abbrev hashes_2 : List (List ℕ)
hashes_2 =
    (0x3112cd37 ∷ 0xd2e1fca0 ∷ 0xafca1af2 ∷ 0xfd342ded ∷ 0x76b0a87c ∷ 0x5653b567 ∷ 0x246981db ∷ 0x503a745e ∷ []) ∷
    (0xb8a13125 ∷ 0x1d9194d1 ∷ 0xc61e391f ∷ 0x5a8f27a6 ∷ 0xb4c0b29f ∷ 0x06be09d7 ∷ 0xc1bea6ff ∷ 0x962b68ab ∷ []) ∷
    (0xfe288cbb ∷ 0xb57ba299 ∷ 0xe0bd4cce ∷ 0x46048d39 ∷ 0xc695e9a8 ∷ 0x4d828f41 ∷ 0xbc84c60f ∷ 0x63c0b940 ∷ []) ∷ []

computed_2 : link_of (block_bytes (block (digest_of hashes_1) (carried 1) 2)) ≡ digest_of hashes_2
unfolding round_constants padded block_at schedule round working written groups front_bytes block_bytes signature seal
computed_2 = link_is (block_bytes (block (digest_of hashes_1) (carried 1) 2)) hashes_2 refl refl (refl, refl, (refl, refl, (refl, refl, tt)))

pub link_2 : link 2 ≡ digest_of hashes_2
unfolding link
link_2 = ap (λ (l : List ℕ). link_of (block_bytes (block l (carried 1) 2))) link_1 ∙ computed_2

abbrev hashes_3 : List (List ℕ)
hashes_3 =
    (0x7fd7bf71 ∷ 0x4e0f6d91 ∷ 0x30e19692 ∷ 0x355cbf09 ∷ 0xe2ae14fd ∷ 0xaf28ffb7 ∷ 0x5803f29c ∷ 0xf162894e ∷ []) ∷
    (0xd3a9fbd5 ∷ 0xafebe513 ∷ 0xa1d04521 ∷ 0x8cb4a2c5 ∷ 0xb3b63b1e ∷ 0xe015531d ∷ 0xdf6c6ed9 ∷ 0x41033916 ∷ []) ∷
    (0xbb88e0e8 ∷ 0x7cd3c27a ∷ 0x4803bd1c ∷ 0xc09eee47 ∷ 0xc416da75 ∷ 0xf1598e03 ∷ 0x320b3429 ∷ 0xf5765c8d ∷ []) ∷ []

computed_3 : link_of (block_bytes (block (digest_of hashes_2) (carried 2) 3)) ≡ digest_of hashes_3
unfolding round_constants padded block_at schedule round working written groups front_bytes block_bytes signature seal
computed_3 = link_is (block_bytes (block (digest_of hashes_2) (carried 2) 3)) hashes_3 refl refl (refl, refl, (refl, refl, (refl, refl, tt)))

pub link_3 : link 3 ≡ digest_of hashes_3
unfolding link
link_3 = ap (λ (l : List ℕ). link_of (block_bytes (block l (carried 2) 3))) link_2 ∙ computed_3

abbrev hashes_4 : List (List ℕ)
hashes_4 =
    (0xe84709ed ∷ 0x0f289a21 ∷ 0x0dc9f23f ∷ 0xb2e50f5c ∷ 0x1431dfe6 ∷ 0xc8b589c8 ∷ 0x133a4b7c ∷ 0x9082be21 ∷ []) ∷
    (0x489813d3 ∷ 0xd9440e31 ∷ 0x0bc51457 ∷ 0x68c3a39a ∷ 0xb2a1a080 ∷ 0x699818c1 ∷ 0xc7dbd2ef ∷ 0xcff8c932 ∷ []) ∷
    (0x7cb31296 ∷ 0x1d10f513 ∷ 0xe23fbdea ∷ 0x84c8a5b7 ∷ 0x8c21346c ∷ 0x3c3855cc ∷ 0x82b02551 ∷ 0xe26df710 ∷ []) ∷ []

computed_4 : link_of (block_bytes (block (digest_of hashes_3) (carried 3) 4)) ≡ digest_of hashes_4
unfolding round_constants padded block_at schedule round working written groups front_bytes block_bytes signature seal
computed_4 = link_is (block_bytes (block (digest_of hashes_3) (carried 3) 4)) hashes_4 refl refl (refl, refl, (refl, refl, (refl, refl, tt)))

pub link_4 : link 4 ≡ digest_of hashes_4
unfolding link
link_4 = ap (λ (l : List ℕ). link_of (block_bytes (block l (carried 3) 4))) link_3 ∙ computed_4

abbrev hashes_5 : List (List ℕ)
hashes_5 =
    (0x0f292338 ∷ 0x198e8bea ∷ 0x9f24a71f ∷ 0x2610143f ∷ 0xbfcaec57 ∷ 0x493a7d7f ∷ 0xc500b6bd ∷ 0x81fe09b2 ∷ []) ∷
    (0x73a8d7db ∷ 0x34aae51c ∷ 0x34de1f4d ∷ 0xb5c0db0c ∷ 0x6ccda854 ∷ 0x9d743d8a ∷ 0x3029af5f ∷ 0xe290761c ∷ []) ∷
    (0x171091ab ∷ 0x347e996f ∷ 0xc6d413f0 ∷ 0x061d0c52 ∷ 0xb756be23 ∷ 0xdbccdeb9 ∷ 0xf9adbd22 ∷ 0x9470f3a6 ∷ []) ∷ []

computed_5 : link_of (block_bytes (block (digest_of hashes_4) (carried 4) 5)) ≡ digest_of hashes_5
unfolding round_constants padded block_at schedule round working written groups front_bytes block_bytes signature seal
computed_5 = link_is (block_bytes (block (digest_of hashes_4) (carried 4) 5)) hashes_5 refl refl (refl, refl, (refl, refl, (refl, refl, tt)))

pub link_5 : link 5 ≡ digest_of hashes_5
unfolding link
link_5 = ap (λ (l : List ℕ). link_of (block_bytes (block l (carried 4) 5))) link_4 ∙ computed_5

abbrev hashes_6 : List (List ℕ)
hashes_6 =
    (0xafd10426 ∷ 0xc08890c7 ∷ 0x91ec2882 ∷ 0x6cff6cbb ∷ 0x88436204 ∷ 0xddd98be3 ∷ 0x4da2984c ∷ 0x4dad63d0 ∷ []) ∷
    (0x26187c60 ∷ 0x24b8c739 ∷ 0x1a2860b2 ∷ 0x703085cf ∷ 0x85e0b3bb ∷ 0x639c12e9 ∷ 0xcdebb5db ∷ 0xd3b12b5d ∷ []) ∷
    (0x1596ef83 ∷ 0x4da92560 ∷ 0x10af9399 ∷ 0x8fa84ca8 ∷ 0x929e336f ∷ 0x2eb7d83f ∷ 0x173960c3 ∷ 0xaae7ea31 ∷ []) ∷ []

computed_6 : link_of (block_bytes (block (digest_of hashes_5) (carried 5) 6)) ≡ digest_of hashes_6
unfolding round_constants padded block_at schedule round working written groups front_bytes block_bytes signature seal
computed_6 = link_is (block_bytes (block (digest_of hashes_5) (carried 5) 6)) hashes_6 refl refl (refl, refl, (refl, refl, (refl, refl, tt)))

pub link_6 : link 6 ≡ digest_of hashes_6
unfolding link
link_6 = ap (λ (l : List ℕ). link_of (block_bytes (block l (carried 5) 6))) link_5 ∙ computed_6

abbrev other_hashes : List (List ℕ)
other_hashes =
    (0x030a7da9 ∷ 0x4a79379f ∷ 0x7de1e137 ∷ 0xd131f55f ∷ 0xec704d04 ∷ 0xb4d67d4c ∷ 0xe689e20f ∷ 0x4965dd36 ∷ []) ∷
    (0x0ddb9171 ∷ 0xc49e45df ∷ 0x4489fb9b ∷ 0x5ffd327d ∷ 0x4848689b ∷ 0x44c4acf5 ∷ 0x8da8c145 ∷ 0xcab759aa ∷ []) ∷
    (0x29d1b5a6 ∷ 0xa2769a4c ∷ 0xe4a64c4f ∷ 0xdbff4189 ∷ 0x7cd451cb ∷ 0x7bc3eb54 ∷ 0x1a23557b ∷ 0xd8684c7b ∷ []) ∷ []

other_computed : link_of (block_bytes (block (digest_of hashes_0) (boot 2 ∷ []) 1)) ≡ digest_of other_hashes
unfolding round_constants padded block_at schedule round working written groups front_bytes block_bytes signature seal
other_computed = link_is (block_bytes (block (digest_of hashes_0) (boot 2 ∷ []) 1)) other_hashes refl refl (refl, refl, (refl, refl, (refl, refl, tt)))

pub other_link : link_of (block_bytes other) ≡ digest_of other_hashes
other_link = ap (λ (l : List ℕ). link_of (block_bytes (block l (boot 2 ∷ []) 1))) link_0 ∙ other_computed
