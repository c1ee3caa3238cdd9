-- Reading a format several times in a loop: the values so far, and what is left to read.
-- Assumes nothing.
use mathlib.Core.Path.{◌≡◌, refl, sym, ap, ◌∙◌, subst}
use mathlib.Core.List.{List, [], ◌∷◌, ◌++◌, append_assoc, append-nil}
use Prim.Native.Nat.{ℕ, zero, suc, ◌+◌, ◌-◌, ◌<◌, ◌≤◌}
use native.Mathlib.Omega.{arith}
use native.Mathlib.Nat.{sub-zero}
use native.Mathlib.Numerals.{add-one}
use lib.ListN.{length, take, set}
use lib.Seq.{take-suc-set}
use Rattle.laws.specs.Told.{Told, gives, refuses, Found, found, then}
use Rattle.laws.specs.Repeated.{repeated, behind}
use Rattle.laws.proofs.Told.{gives_same, then_gives}

module _ {A : Type 0} (readAt : List ℕ → ℕ → Told (Found A)) (s : List ℕ) where
  pub behind_none : (t : Told (Found (List A))) → t ≡ behind [] t
  behind_none (gives r) = refl
  behind_none (refuses number place) = refl

  -- one more value
  pub behind_more : (before : List A) (times at : ℕ) (r : Found A) → readAt s at ≡ gives r
      → behind before (repeated readAt (suc times) s at) ≡ behind (before ++ (r.value ∷ [])) (repeated readAt times s r.next)
  behind_more before times at r e = rw e (go (repeated readAt times s r.next))
    where
      go : (t : Told (Found (List A)))
          → behind before (then t λ rest. found (r.value ∷ rest.value) rest.next) ≡ behind (before ++ (r.value ∷ [])) t
      go (gives rest) = ap (λ l. found l rest.next) (rw append_assoc)
      go (refuses number place) = refl

  -- the first refusal is the answer
  pub behind_refused : (before : List A) (times at number place : ℕ) → readAt s at ≡ refuses number place
      → behind before (repeated readAt (suc times) s at) ≡ refuses number place
  behind_refused before times at number place e = rw e

  pub behind_all : (before : List A) (at : ℕ) → behind before (repeated readAt 0 s at) ≡ found before at
  behind_all before at = ap (λ l. found l at) (append-nil before)

-- values that a loop reads into a list, from its front
module _ {A : Type 0} (readAt : List ℕ → ℕ → Told (Found A)) (s : List ℕ) (at times : ℕ) where
  abbrev pub Into : List A → ℕ → ℕ → Type 0
  Into l i place = repeated readAt times s at ≡ behind (take i l) (repeated readAt (times - i) s place)

  pub into_none : (l : List A) → Into l 0 at
  into_none l = rw sub-zero (behind_none readAt s (repeated readAt times s at))

  module _ (l : List A) (i place : ℕ) (so_far : Into l i place) where
    left : i < times → times - i ≡ suc (times - (i + 1))
    left h = omega arith

    pub into_next : (v : A) (next : ℕ) → i < times → i < length l → readAt s place ≡ found v next → Into (set l i v) (i + 1) next
    into_next v next more inside e =
        so_far
        ∙ ap (λ (n : ℕ). behind (take i l) (repeated readAt n s place)) (left more)
        ∙ behind_more readAt s (take i l) (times - (i + 1)) place (record { value = v; next = next }) e
        ∙ rw (add-one, take-suc-set l i v inside)

    pub into_refused : (number place' : ℕ) → i < times → readAt s place ≡ refuses number place' → repeated readAt times s at ≡ refuses number place'
    into_refused number place' more e =
        so_far
        ∙ ap (λ (n : ℕ). behind (take i l) (repeated readAt n s place)) (left more)
        ∙ behind_refused readAt s (take i l) (times - (i + 1)) place number place' e

    pub into_all : i ≡ times → repeated readAt times s at ≡ found (take times l) place
    into_all is =
        let none : times - i ≡ 0 = omega arith in
        so_far
        ∙ ap (λ (n : ℕ). behind (take i l) (repeated readAt n s place)) none
        ∙ behind_all readAt s (take i l) place
        ∙ ap (λ (n : ℕ). found (take n l) place) is

pub repeated_length : {A : Type 0} (readAt : List ℕ → ℕ → Told (Found A)) (times : ℕ) (s : List ℕ) (at : ℕ) (r : Found (List A))
    → repeated readAt times s at ≡ gives r → length r.value ≡ times
repeated_length readAt zero s at r e = ap (λ q. length q.value) (sym (gives_same e))
repeated_length readAt (suc times) s at r e =
    let (first, reads, rest) = then_gives (readAt s at) _ r e in
    let (others, more, whole) = then_gives (repeated readAt times s first.next) _ r rest in
    ap (λ q. length q.value) (sym (gives_same whole)) ∙ ap suc (repeated_length readAt times s first.next others more)

-- several readings move on if each does
pub repeated_moves : {A : Type 0} (readAt : List ℕ → ℕ → Told (Found A)) (s : List ℕ)
    → ((at : ℕ) (r : Found A) → readAt s at ≡ gives r → at ≤ r.next)
    → (times at : ℕ) (r : Found (List A)) → repeated readAt times s at ≡ gives r → at ≤ r.next
repeated_moves readAt s one zero at r e = subst (λ (q : Found (List _)). at ≤ q.next) (gives_same e) (omega arith)
repeated_moves readAt s one (suc times) at r e =
    let (first, reads, rest) = then_gives (readAt s at) _ r e in
    let (others, more, whole) = then_gives (repeated readAt times s first.next) _ r rest in
    let begins = one at first reads in
    let ends = repeated_moves readAt s one times first.next others more in
    subst (λ (q : Found (List _)). at ≤ q.next) (gives_same whole) (omega arith)
