-- What a reader may take from this crate: which manifests are accepted; that a signer of RFC 8554 can make them; and what the refusals 16 and 25 say.
-- Assumes nothing.
use mathlib.Core.Path.{◌≡◌, refl, sym, ap, ◌∙◌, subst}
use mathlib.Core.Bool.{Bool, true, false}
use mathlib.Core.List.{List, [], ◌++◌}
use Prim.Native.Nat.{ℕ, ◌<◌, ◌≤◌}
use native.Mathlib.Omega.{arith}
use lib.Dec.{T, leb, eqb}
use lib.ListN.{length, take, drop}
use lib.Seq.{drop-append_seam, take_at}
use borrow.Author.Tests.{le-leb, leb-true, eq-eqb, eqb-true}
use Rattle.laws.specs.Every.{same}
use Rattle.laws.specs.Format.{Bytes}
use Rattle.laws.specs.Told.{Told, gives, refuses, Found, found, then, unless, number_of}
use Rattle.laws.proofs.Cases.{lt_cases}
use Rattle.laws.proofs.Every.{same_is, same_refl}
use Rattle.laws.proofs.Told.{then_gives, unless_gives}
use Rattle.number.specs.Number.{largest, written}
use Rattle.sha256.specs.Sha256.{longest, sha256}
use Rattle.lms.specs.Lms.{signs, verified}
use Rattle.lms.specs.Signing.{Signed}
use Rattle.lms.proofs.Signing.{hash_bytes}
use Rattle.lms.proofs.Sizes.{hash_size}
use Rattle.lms.proofs.Theorems.{what_is_signed_verifies}
use Rattle.manifest.specs.Manifest.{Head, head_at, matched, checked}
use Rattle.manifest.proofs.Heads.{head_bytes, head_inverse, head_ends}
use Rattle.manifest.proofs.Refusals.{head_low, short_verified, signs_not_16}

-- what is signed for an image as the settled release
abbrev pub promised : (image : List ℕ) (settled : ℕ) → List ℕ
promised image settled = written settled ++ sha256 image

module _ (image manifest key : List ℕ) (settled : ℕ) where
  -- "It accepts exactly if the signature verifies under the given public key, the digest is the lent image's (up to 65,536 bytes) and the release is
  -- the display's settled one"
  pub record Accepted : Type 0 where
    pub short : length image ≤ longest
    pub readable : settled ≤ largest
    pub signature : List ℕ
    pub is : manifest ≡ promised image settled ++ signature
    pub verifies : verified key signature (promised image settled) ≡ gives tt

  pub only_such_manifests_are_accepted : Bytes manifest → checked image manifest key settled ≡ gives tt → Accepted
  only_such_manifests_are_accepted bytes e =
      let (short, rest) = unless_gives (leb (length image) longest) 16 0 _ tt e in
      let (head, reads, more) = then_gives (head_at manifest 0) _ tt rest in
      let signature = drop head.next manifest in
      let (_, fits, last) = then_gives (signs key signature (take head.next manifest)) _ tt more in
      let (digest, late) = unless_gives (same head.value.digest (sha256 image)) 25 0 _ tt last in
      let (release, _) = unless_gives (eqb head.value.release settled) 26 0 (gives tt) tt late in
      let (valid, next, shape) = head_inverse.only_written manifest 0 head bytes reads in
      let digest_is : head.value.digest ≡ sha256 image = same_is _ _ (subst T (sym digest) tt) in
      let release_is : head.value.release ≡ settled = eqb-true _ _ release in
      let head_is : head_bytes head.value ≡ promised image settled =
      ap (λ (d : List ℕ). written head.value.release ++ d) digest_is ∙ ap (λ (v : ℕ). written v ++ sha256 image) release_is in
      let signed : take head.next manifest ≡ head_bytes head.value =
      ap (take head.next) shape ∙ take_at (head_bytes head.value) signature head.next (omega arith) in
      let few : length (take head.next manifest) ≤ 256 = omega (arith, ap length signed, head_ends manifest head reads) in
      record {
        short = leb-true _ _ short;
        readable = omega (arith, valid.0);
        signature = signature;
        is = shape ∙ ap (λ (h : List ℕ). h ++ signature) head_is;
        verifies = ap (verified key signature) (sym (signed ∙ head_is)) ∙ short_verified key signature (take head.next manifest) few ∙ fits;
      }

  pub all_such_manifests_are_accepted : Accepted → checked image manifest key settled ≡ gives tt
  all_such_manifests_are_accepted a =
      let signed = promised image settled in
      let head : Head = record { release = settled; digest = sha256 image } in
      let reads : head_at (signed ++ a.signature) 0 ≡ found head (length signed) =
      head_inverse.reads_back [] a.signature head (a.readable, (hash_size image, hash_bytes image)) ∙ ap (found head) (omega arith) in
      let (_, fits) = unless_gives (leb (length signed) 256) 16 0 (signs key a.signature signed) tt a.verifies in
      rw (
        a.is,
        le-leb _ _ a.short,
        reads,
        drop-append_seam signed a.signature,
        take_at signed a.signature (length signed) refl,
        fits,
        same_refl (sha256 image),
        eq-eqb settled settled refl,
      )

  -- a manifest with a good signature of another image meets 25, whatever its release
  pub the_digest_is_judged_before_the_release : (head : Found Head) → length image ≤ longest → head_at manifest 0 ≡ gives head
      → signs key (drop head.next manifest) (take head.next manifest) ≡ gives tt → (head.value.digest ≡ sha256 image → ⊥)
      → checked image manifest key settled ≡ refuses 25 0
  the_digest_is_judged_before_the_release head short reads fits other =
      rw (le-leb _ _ short, reads, fits) (by (same head.value.digest (sha256 image)) refl)
    where
      by : (β : Bool) → same head.value.digest (sha256 image) ≡ β → matched image head.value settled ≡ refuses 25 0
      by true e = absurd (other (same_is _ _ (subst T (sym e) tt)))
      by false e = rw e

  -- no other bytes are ever too long
  pub refusal_16_is_about_the_image : number_of (checked image manifest key settled) ≡ 16 → longest < length image
  refusal_16_is_about_the_image e =
      lt_cases longest (length image) (λ long. long) (λ fits. absurd (by (head_at manifest 0) (head_low manifest 0) (rw (le-leb _ _ fits) at e)))
    where
      -- 25 and 26
      late : (digest release : Bool) → number_of {A = Unit {0}} (unless digest 25 0 (unless release 26 0 (gives tt))) ≡ 16 → ⊥
      late false release e = omega arith
      late true false e = omega arith
      late true true e = omega arith

      behind : (head : Found Head) (t : Told (Unit {0})) → (number_of t ≡ 16 → ⊥) → number_of (then t λ _. matched image head.value settled) ≡ 16 → ⊥
      behind head (gives _) other e = late (same head.value.digest (sha256 image)) (eqb head.value.release settled) e
      behind head (refuses number place) other e = other e

      by : (t : Told (Found Head)) → number_of t ≤ 4
          → number_of
          (then t λ head. then (signs key (drop head.next manifest) (take head.next manifest)) λ _. matched image head.value settled) ≡ 16
          → ⊥
      by (gives head) low e =
          behind head (signs key (drop head.next manifest) (take head.next manifest))
          (signs_not_16 key (drop head.next manifest) (take head.next manifest)) e
      by (refuses number place) low e = omega arith

-- what a signer of RFC 8554 makes for an image and a release, from whatever secrets, is accepted
pub what_is_signed_is_accepted : (x : ℕ → ℕ → List ℕ) (image key signature : List ℕ) (settled : ℕ) → length image ≤ longest → settled ≤ largest
    → Signed x key signature (promised image settled)
    → checked image (promised image settled ++ signature) key settled ≡ gives tt
what_is_signed_is_accepted x image key signature settled short readable signed =
    all_such_manifests_are_accepted image (promised image settled ++ signature) key settled
    (record {
      short = short;
      readable = readable;
      signature = signature;
      is = refl;
      verifies = what_is_signed_verifies x key signature (promised image settled) signed;
    })
