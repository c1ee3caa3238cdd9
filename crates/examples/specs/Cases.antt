-- 01, "Worked by hand": "Those marked P, with the seven numbers tabled above (so twelve)", as one list of cases.
-- Assumes nothing.
use Rattle.std.specs.Prelude.{ℕ, suc, Bool, true, false, not, List, [], ◌∷◌, eqb, length, replicate}
use Rattle.std.specs.List.{list_all}
use Rattle.laws.specs.Every.{both, same}
use Rattle.laws.specs.Pick.{pick}
use Rattle.laws.specs.Told.{Told, gives, refuses, Found}
use Rattle.laws.specs.Tabulate.{tabulate}
use Rattle.number.specs.Number.{written, number_at}
use Rattle.genesis.specs.Genesis.{turn, table_with}
use Rattle.genesis.specs.declared.Genesis.{Genesis}
use Rattle.chain.specs.Chain.{settles}
use Rattle.chain.specs.declared.Opened.{Opened}

pub data Case : Type 0 where
  -- a value and its bytes
  number : (value : ℕ) (bytes : List ℕ) → Case
  -- with n controllers these slots are all one controller's
  turns : (n : ℕ) (slots : List ℕ) (controller : ℕ) → Case
  -- at now a stamp is settled, or is not
  stamp : (n t clock slot : ℕ) (settled : Bool) → Case

-- a table of n controllers of which t are faulty: its other parts play no role here
abbrev pub table : ℕ → ℕ → Genesis
table n t = table_with n t 1 (replicate 64 0) 0

abbrev pub opened : ℕ → ℕ → ℕ → Opened
opened n t clock = record { table = table n t; link = replicate 32 0; clock = record { 0 = clock } }

abbrev pub reads_as : (value next : ℕ) → Told (Found ℕ) → Bool
reads_as value next (gives r) = both (eqb r.value value) (eqb r.next next)
reads_as value next (refuses n place) = false

abbrev pub holds : Case → Bool
holds (number value bytes) = both (same (written value) bytes) (reads_as value (length bytes) (number_at bytes 0))
holds (turns n slots controller) = list_all (λ slot. eqb (turn (table n 0) slot) controller) slots
holds (stamp n t clock slot settled) = pick settled (settles (opened n t clock) slot) (not (settles (opened n t clock) slot))

-- slots 1 to 256
abbrev pub every_slot : List ℕ
every_slot = tabulate 256 suc

abbrev pub cases : List Case
cases =
    number 0 (0x00 ∷ [])
    ∷ number 127 (0x7F ∷ [])
    ∷ number 128 (0x80 ∷ 0x01 ∷ [])
    ∷ number 300 (0xAC ∷ 0x02 ∷ [])
    ∷ number 16383 (0xFF ∷ 0x7F ∷ [])
    ∷ number 16384 (0x80 ∷ 0x80 ∷ 0x01 ∷ [])
    ∷ number 4294967295 (0xFF ∷ 0xFF ∷ 0xFF ∷ 0xFF ∷ 0x0F ∷ [])
    ∷ turns 6 (7 ∷ []) 1
    ∷ turns 6 (256 ∷ []) 4
    ∷ turns 1 every_slot 1
    ∷ stamp 6 1 10 5 true
    ∷ stamp 6 1 10 6 false
    ∷ []
