-- What is known where an answer gives something: each step before it gave something too.
-- Assumes nothing.
use mathlib.Core.Path.{◌≡◌, refl, sym, ap, ◌∙◌}
use mathlib.Core.Bool.{Bool, true, false}
use Prim.Native.Nat.{ℕ}
use native.Mathlib.Omega.{arith}
use Rattle.laws.specs.Told.{Told, gives, refuses, Found, found, found_as, then, unless}

pub gives_not_refuses : {A B : Type 0} {a : A} {number place : ℕ} → refuses number place ≡ gives a → B
gives_not_refuses e = let z : ◌≡◌ {A = ℕ} 0 1 = cc in absurd (omega arith)

pub gives_same : {A : Type 0} {a b : A} → gives a ≡ gives b → a ≡ b
gives_same e = cc

pub then_gives : {A B : Type 0} (t : Told A) (go : A → Told B) (b : B) → then t go ≡ gives b → (a : A) × (t ≡ gives a) × (go a ≡ gives b)
then_gives (gives a) go b e = (a, refl, e)
then_gives (refuses number place) go b e = gives_not_refuses e

pub unless_gives : {A : Type 0} (fine : Bool) (number place : ℕ) (t : Told A) (a : A)
    → unless fine number place t ≡ gives a → (fine ≡ true) × (t ≡ gives a)
unless_gives true number place t a e = (refl, e)
unless_gives false number place t a e = gives_not_refuses e

pub then_assoc : {A B C : Type 0} (t : Told A) (f : A → Told B) (g : B → Told C) → then (then t f) g ≡ then t (λ a. then (f a) g)
then_assoc (gives a) f g = refl
then_assoc (refuses number place) f g = refl

pub then_same : {A : Type 0} (t : Told A) → then t gives ≡ t
then_same (gives a) = refl
then_same (refuses number place) = refl

pub then_unless : {A B : Type 0} (fine : Bool) (number place : ℕ) (t : Told A) (f : A → Told B)
    → then (unless fine number place t) f ≡ unless fine number place (then t f)
then_unless true number place t f = refl
then_unless false number place t f = refl

pub then_refuses : {A B : Type 0} (t : Told A) (f : A → B) (number place : ℕ) → then t (λ a. gives (f a)) ≡ refuses number place → t ≡ refuses number place
then_refuses (gives a) f number place e = gives_not_refuses (sym e)
then_refuses (refuses n p) f number place e = cc

-- what was found, as the code holds it
pub found_as_gives : {A B : Type 0} (held : A → B) (t : Told (Found A)) (b : B) (next : ℕ) → found b next ≡ found_as held t
    → (a : A) × (t ≡ found a next) × (held a ≡ b)
found_as_gives held t b next e =
    let (a, is, same) = then_gives t _ (record { value = b; next = next }) (sym e) in
    let q = gives_same same in
    (a.value, is ∙ ap (λ (n : ℕ). found a.value n) (ap (λ r. r.next) q), ap (λ r. r.value) q)

pub found_as_refuses : {A B : Type 0} (held : A → B) (t : Told (Found A)) (number place : ℕ) → refuses number place ≡ found_as held t
    → t ≡ refuses number place
found_as_refuses held (gives a) number place e = gives_not_refuses e
found_as_refuses held (refuses n p) number place e = cc
