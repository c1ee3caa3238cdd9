-- What a reader may take from this crate: what it is for a signature to verify; that what a signer of RFC 8554 makes does; and what the checksum is
-- for.
-- Assumes nothing.
use mathlib.Core.Path.{◌≡◌, sym, subst}
use mathlib.Core.Bool.{true}
use mathlib.Core.List.{List}
use Prim.Native.Nat.{ℕ, ◌<◌, ◌≤◌}
use lib.Dec.{T, ltb}
use lib.ListN.{length, get_or}
use borrow.Author.Tests.{le-leb, leb-true, lt-ltb, ltb-true}
use Rattle.laws.specs.Format.{Bytes}
use Rattle.laws.specs.Told.{gives}
use Rattle.laws.proofs.Every.{both_true, same_is, same_refl}
use Rattle.laws.proofs.Told.{unless_gives}
use Rattle.lms.specs.Lms.{identifier, root_of, leaf_number, well_formed, digits, longest_message}
use Rattle.lms.specs.Lms.{key_hash_of, root_from, verifies, verified}
use Rattle.lms.specs.Signing.{Signed}
use Rattle.lms.proofs.Checksum.{only_larger}
use Rattle.lms.proofs.Signing.{leads_to_the_root}

module _ (key signature message : List ℕ) where
  -- the root that a signature leads to
  abbrev pub root : List ℕ
  root =
      let id = identifier key in
      let q = leaf_number signature in
      root_from id q signature (key_hash_of id q signature message)

  pub record Accepted : Type 0 where
    pub short : length message ≤ longest_message
    pub formed : well_formed key signature ≡ true
    pub leaf : leaf_number signature < 32
    pub leads : root ≡ root_of key

  pub what_verifies_is_accepted : verified key signature message ≡ gives tt → Accepted
  unfolding verifies
  what_verifies_is_accepted e =
      let (short, rest) = unless_gives _ 16 0 _ tt e in
      let (formed, more) = unless_gives (well_formed key signature) 23 0 _ tt rest in
      let (fits, _) = unless_gives (verifies key signature message) 24 0 (gives tt) tt more in
      let (leaf, leads) = both_true (ltb (leaf_number signature) 32) _ fits in
      record {
        short = leb-true _ _ short;
        formed = formed;
        leaf = ltb-true _ _ leaf;
        leads = sym (same_is (root_of key) root (subst T (sym leads) tt));
      }

  pub what_is_accepted_verifies : Accepted → verified key signature message ≡ gives tt
  unfolding verifies
  what_is_accepted_verifies a =
      rw (le-leb _ _ a.short, a.formed, lt-ltb _ _ a.leaf, a.leads, same_refl (root_of key))

-- what is signed as RFC 8554 says, from whatever secrets, verifies
pub what_is_signed_verifies : (x : ℕ → ℕ → List ℕ) (key signature message : List ℕ) → Signed x key signature message
    → verified key signature message ≡ gives tt
what_is_signed_verifies x key signature message signed =
    what_is_accepted_verifies key signature message
    (record { short = signed.short; formed = signed.formed; leaf = signed.leaf; leads = leads_to_the_root x key signature message signed })

-- chains are gone only forwards, so a signature of one hash serves another one only if all digits of that are as large; but then it is the same hash
pub no_other_hash_has_digits_all_as_large : (one other : List ℕ) → length one ≡ 32 → length other ≡ 32 → Bytes one → Bytes other
    → ((i : ℕ) → i < 34 → get_or (digits one) i 0 ≤ get_or (digits other) i 0) → one ≡ other
no_other_hash_has_digits_all_as_large = only_larger
