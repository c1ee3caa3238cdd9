-- What stands before the signature: written and read inversely, and never long.
-- Assumes nothing.
use mathlib.Core.Path.{◌≡◌, refl, ap}
use mathlib.Core.List.{List, ◌++◌}
use Prim.Native.Nat.{ℕ, ◌+◌, ◌≤◌}
use native.Mathlib.Omega.{arith}
use lib.Dec.{leb}
use lib.ListN.{length}
use borrow.Author.Tests.{leb-true}
use Rattle.laws.specs.Bytes.{part, bytes_at}
use Rattle.laws.specs.Format.{Bytes, Inverse}
use Rattle.laws.specs.Told.{gives, Found, found}
use Rattle.laws.proofs.Formats.{fixed_bytes, sequence}
use Rattle.laws.proofs.Told.{gives_same, then_gives, unless_gives}
use Rattle.number.specs.Number.{largest, written, number_at}
use Rattle.number.proofs.Groups.{number_ends}
use Rattle.number.proofs.RoundTrip.{number_inverse}
use Rattle.manifest.specs.Manifest.{Head, head_at}

abbrev pub head_bytes : Head → List ℕ
head_bytes h = written h.release ++ h.digest

pub head_inverse : Inverse (λ h. (h.release ≤ largest) × ((length h.digest ≡ 32) × Bytes h.digest)) head_bytes head_at
head_inverse =
    sequence number_inverse (λ _. fixed_bytes 32) (λ release digest. record { release = release; digest = digest }) (λ h. h.release) (λ h. h.digest)
    (λ h. refl) (λ release digest fine. (refl, refl))

-- a number has at most five bytes, so what is signed has at most 37
pub head_ends : (s : List ℕ) (head : Found Head) → head_at s 0 ≡ gives head → (head.next ≤ length s) × (head.next ≤ 37)
head_ends s head e =
    let (release, reads, rest) = then_gives (number_at s 0) _ head e in
    let (digest, cut, last) = then_gives (bytes_at 32 s release.next) _ head rest in
    let (room, is) = unless_gives (leb (release.next + 32) (length s)) 3 0 (found (part s release.next 32) (release.next + 32)) digest cut in
    let digest_next : release.next + 32 ≡ digest.next = ap (λ f. f.next) (gives_same is) in
    let head_next : digest.next ≡ head.next = ap (λ f. f.next) (gives_same last) in
    let inside : release.next + 32 ≤ length s = leb-true _ _ room in
    let soon = (number_ends s 0 release reads).soon in
    (omega arith, omega arith)
