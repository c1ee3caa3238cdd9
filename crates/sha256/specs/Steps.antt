-- What the private functions answer and keep. No caller of the crate needs these.
-- Assumes nothing.
use Rattle.std.specs.Prelude.{◌≡◌, ℕ, zero, suc, ◌+◌, ◌*◌, ◌/◌, List, [], ◌∷◌, ◌++◌, slice_index}
use Rattle.laws.specs.Tabulate.{tabulate}
use Rattle.sha256.specs.Sha256.{◌⊞◌, σ₀, σ₁, schedule, working}

-- the blocks of a padded message
abbrev pub block_count : ℕ → ℕ
block_count size = (size + 8) / 64 + 1

-- four bytes as a word, the highest first
abbrev pub joined_bytes : (a b c d : ℕ) → ℕ
joined_bytes a b c d = ((a * 256 + b) * 256 + c) * 256 + d

-- word t of a block's schedule
unfoldable pub scheduled : List ℕ → ℕ → ℕ
scheduled block t = slice_index (schedule block (suc t)) t

-- n words of a block's schedule, from t on
unfoldable pub words_from : List ℕ → (t n : ℕ) → List ℕ
words_from block t zero = []
words_from block t (suc n) = scheduled block t ∷ words_from block (suc t) n

-- where t rounds lead: the working words, and the window
abbrev pub Reached : (hash block : List ℕ) → ℕ → (s w : List ℕ) → Type 0
Reached hash block t s w = (s ≡ working (schedule block 64) hash t) × (w ≡ words_from block t 16)

-- a word of the schedule, from those 16, 15, 7 and 2 places before it
abbrev pub mixed_of : (w16 w15 w7 w2 : ℕ) → ℕ
mixed_of w16 w15 w7 w2 = σ₁ w2 ⊞ w7 ⊞ σ₀ w15 ⊞ w16

-- a window moved on by two words
abbrev pub moved_on : List ℕ → List ℕ
moved_on w =
    tabulate 14 (λ i. slice_index w (i + 2))
    ++ (mixed_of (slice_index w 0) (slice_index w 1) (slice_index w 9) (slice_index w 14)
    ∷ mixed_of (slice_index w 1) (slice_index w 2) (slice_index w 10) (slice_index w 15)
    ∷ [])
