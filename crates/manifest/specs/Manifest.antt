-- 02, l: "a manifest: the release as a number, then the SHA-256 of the image, then an RFC 8554 LMS signature [..] over the bytes before it."
-- Assumes nothing.
use Rattle.std.specs.Prelude.{ℕ, List, leb, eqb, length, take, drop}
use Rattle.laws.specs.Bytes.{bytes_at}
use Rattle.laws.specs.Every.{same}
use Rattle.laws.specs.Told.{Told, gives, Found, found, then, unless}
use Rattle.number.specs.Number.{number_at}
use Rattle.sha256.specs.Sha256.{longest, sha256}
use Rattle.lms.specs.Lms.{signs}

-- what stands before the signature
pub record Head : Type 0 where
  pub release : ℕ
  pub digest : List ℕ

-- the head and the place where it ends: "3 and 4 in byte order"
abbrev pub head_at : List ℕ → ℕ → Told (Found Head)
head_at s at =
    then (number_at s at) λ release. then (bytes_at 32 s release.next) λ digest.
    found (record { release = release.value; digest = digest.value }) digest.next

-- "25 digest, 26 release"
abbrev pub matched : (image : List ℕ) → Head → (settled : ℕ) → Told (Unit {0})
matched image head settled =
    unless (same head.digest (sha256 image)) 25 0 (unless (eqb head.release settled) 26 0 (gives tt))

-- "Refusals, in order: 16 for a longer image, 3 and 4", then 23 and 24, of all bytes behind the head as a signature of the head's bytes, then 25
-- and 26
abbrev pub checked : (image manifest key : List ℕ) (settled : ℕ) → Told (Unit {0})
checked image manifest key settled =
    unless (leb (length image) longest) 16 0
    (then (head_at manifest 0) λ head.
    then (signs key (drop head.next manifest) (take head.next manifest)) λ _.
    matched image head.value settled)
