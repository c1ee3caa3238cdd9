-- 01, "Adopt": "A checked chain with strictly more blocks than the held one replaces it."
-- Assumes nothing.
use Rattle.std.specs.Prelude.{ℕ, List, ltb, length}
use Rattle.laws.specs.Told.{Told, gives, refuses, then, unless}
use Rattle.laws.specs.Placed.{placed, placing}
use Rattle.chain.specs.Chain.{delivered_chain, holding}
use Rattle.chain.specs.declared.Summary.{Summary}

-- a checked chain's block count, if that is more than the held one's: 11
abbrev pub longer : ℕ → Told Summary → Told ℕ
longer held delivered = then delivered λ d. unless (ltb held d.whole.count.0) 11 0 (gives d.whole.count.0)

-- what the choice and adoption hang on: 1, 2, 17, 16, the delivered blocks, 11
unfoldable pub accepted : (genesis : List ℕ) (clock : ℕ) (held : List ℕ) (size : ℕ) (delivered verdicts : List ℕ) → Told ℕ
accepted genesis clock held size delivered verdicts =
    then (holding genesis clock held size) λ h. longer h.1.whole.count.0 (delivered_chain h.0 delivered verdicts)

-- the choice "takes the held chain as a whole slice and has no 15"
abbrev pub choice : (genesis : List ℕ) (clock : ℕ) (held delivered verdicts : List ℕ) → Told ℕ
choice genesis clock held delivered verdicts = accepted genesis clock held (length held) delivered verdicts

-- "the delivered exactly if accepted, else the held"
abbrev pub chosen : {A : Type 0} → Told ℕ → A → A → A
chosen (gives count) held delivered = delivered
chosen (refuses number place) held delivered = held

-- "After all blocks 11, then 15": the new length, and the new count
abbrev pub adopted : Told ℕ → List ℕ → List ℕ → Told (ℕ × ℕ)
adopted judged held delivered = then judged λ count. then (placed held 0 delivered) λ size. gives (size, count)

-- "Then the held buffer begins with the chosen chain; bytes past it stay."
abbrev pub adopting : Told ℕ → List ℕ → List ℕ → List ℕ
adopting (gives count) held delivered = placing held 0 delivered
adopting (refuses number place) held delivered = held
