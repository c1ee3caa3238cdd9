-- A format read a number of times, one value behind the other.
-- Assumes nothing.
use Rattle.std.specs.Prelude.{ℕ, zero, suc, List, [], ◌∷◌, ◌++◌}
use Rattle.laws.specs.Told.{Told, Found, found, then}

abbrev pub repeated : {A : Type 0} → (List ℕ → ℕ → Told (Found A)) → ℕ → List ℕ → ℕ → Told (Found (List A))
repeated readAt zero s at = found [] at
repeated readAt (suc times) s at =
    then (readAt s at) λ first. then (repeated readAt times s first.next) λ rest. found (first.value ∷ rest.value) rest.next

-- the values that were read before
abbrev pub behind : {A : Type 0} → List A → Told (Found (List A)) → Told (Found (List A))
behind before rest = then rest λ r. found (before ++ r.value) r.next
